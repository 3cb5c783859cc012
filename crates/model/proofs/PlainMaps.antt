-- A store from fresh answers and refuses as a plain map with as many places as there are slots.
use mathlib.Core.Path.{◌≡◌, refl, sym, ap, ◌∙◌}
use mathlib.Core.Bool.{Bool, true, false, cond, ◌&&◌, ◌||◌, not}
use mathlib.Core.List.{List, [], ◌∷◌, map}
use Prim.Native.Nat.{ℕ, zero, suc, ◌≤◌}
use native.Mathlib.Omega.{arith}
use lib.Dec.{leb, eqb}
use lib.ListN.{length, length-map, replicate}
use borrow.Author.Tests.{eqb-true, eq-eqb, ne_eqb, le-leb, leb-true, ltb-true, not-true}
use Rattle.settings.specs.declared.Settings.{Settings}
use Rattle.settings.specs.Limits.{allowed}
use Rattle.lists.specs.Lists.{any, select, reject}
use Rattle.lists.specs.All.{All, Ascending}
use Rattle.lists.proofs.Bools.{cond_elim, by_cases, both_false, and_left, and_right, and_intro, or_left, or_right, or_false_left, or_false_right, or_false_intro, bool_ext, eqb_sym}
use Rattle.lists.proofs.Tests.{any-map, any_same, any-select, any-select_weaken, all_weaken, all_map}
use Rattle.lists.proofs.Counting.{Distinct, pigeonhole}
use Rattle.model.specs.Records.{Point, Level, State, empty, fresh}
use Rattle.model.specs.Merge.{names, point_before}
use Rattle.model.specs.Steps.{write_covers, put, delete, delete_range, merge_all, no_slot}
use Rattle.model.specs.Lookup.{absent, found, Row, is_found, find, lookup_from, lookup}
use Rattle.model.specs.Live.{SlotsLive}
use Rattle.model.specs.Calls.{Op, written, flush, tick, Call, Outcome, early_refusal, out_of_slots, step, run, answers, refusals}
use Rattle.model.specs.PlainMap.{PlainMap, get, has_key, changed, map_full, map_refusal, map_step, map_run, map_refusals, no_rows}
use Rattle.model.proofs.Form.{Formed}
use Rattle.model.proofs.Slots.{Whole, step_whole, fresh_whole}
use Rattle.model.proofs.StepView.{accepted_outcome, StepView, turned_away, refused_7, passed, step_view}
use Rattle.model.proofs.Levels.{uncovered, uncovered_all}
use Rattle.model.proofs.Lookups.{lookup-empty}
use Rattle.model.proofs.Timed.{merge_all-clock}
use Rattle.model.proofs.Aged.{Timely, replicate_timely}
use Rattle.model.proofs.LookupSteps.{after_op, after_op_same, merge_all-lookup}
use Rattle.model.proofs.AgedSteps.{worked-lookup, step_timely}
use Rattle.model.proofs.Full.{found_named, names_own, Bottom, bottom, bottom_found, live_slots, full_live, live_full}

module _ {A : Type 0} where
  abbrev pub keys : List (Row A) → List ℕ
  keys rs = map (λ (r : Row A). r.key) rs

  -- A docket is found where some row has it.
  get_found : (rs : List (Row A)) (k : ℕ) → is_found (get rs k) ≡ any (has_key k) rs
  unfolding get any
  get_found [] k = refl
  get_found (r ∷ rs) k = go (eqb r.key k) (get_found rs k)
    where
      go : (b : Bool) → is_found (get rs k) ≡ any (has_key k) rs → is_found (cond b (found r.tally r.stamp) (get rs k)) ≡ b || any (has_key k) rs
      go true h = refl
      go false h = h

  any-keys : (k : ℕ) (rs : List (Row A)) → any (eqb k) (keys rs) ≡ any (has_key k) rs
  any-keys k rs = any-map (λ (r : Row A). r.key) (eqb k) rs ∙ any_same _ _ (λ r. eqb_sym k r.key) rs

  get_unkeyed : (rs : List (Row A)) (k : ℕ) → any (has_key k) rs ≡ false → get rs k ≡ absent
  unfolding get any
  get_unkeyed [] k h = refl
  get_unkeyed (r ∷ rs) k h = rw (or_false_left (eqb r.key k) (any (has_key k) rs) h) (get_unkeyed rs k (or_false_right (eqb r.key k) (any (has_key k) rs) h))

  -- Of rows of different dockets, those taken away by docket and stamp are no longer found.
  get-reject : (q : ℕ → ℕ → Bool) (rs : List (Row A)) (k : ℕ) → Distinct (keys rs) → get (reject (λ r. q r.key r.stamp) rs) k ≡ uncovered (q k) (get rs k)
  unfolding get select
  get-reject q [] k d = refl
  get-reject q (r ∷ rs) k d = go (eqb r.key k) refl (q r.key r.stamp) refl (get-reject q rs k d.1)
    where
      rest : List (Row A)
      rest = reject (λ r. q r.key r.stamp) rs

      alone : r.key ≡ k → any (has_key k) rs ≡ false
      alone e = rw (← e) (sym (any-keys r.key rs) ∙ d.0)

      go : (b : Bool) → eqb r.key k ≡ b → (c : Bool) → q r.key r.stamp ≡ c → get rest k ≡ uncovered (q k) (get rs k)
          → get (cond (not (q r.key r.stamp)) (r ∷ rest) rest) k ≡ uncovered (q k) (cond (eqb r.key k) (found r.tally r.stamp) (get rs k))
      go true e true g ih =
          rw (g, e) (get_unkeyed rest k (any-select_weaken _ (has_key k) rs (alone (eqb-true r.key k e))) ∙ rw (← (eqb-true r.key k e), g))
      go true e false g ih = rw (g, e) (rw (← (eqb-true r.key k e), g))
      go false e true g ih = rw (g, e) ih
      go false e false g ih = rw (g, e) ih

  -- A change of the map changes its answers as the call does.
  pub get-changed : (t : ℕ) (op : Op A) (rs : List (Row A)) (k : ℕ) → Distinct (keys rs) → get (changed t op rs) k ≡ after_op t op (get rs) k
  unfolding changed get
  get-changed t (written (put n a)) rs k d = by_cases (eqb n k)
      (λ e. rw e) (λ e. rw e (get-reject (λ j u. eqb j n) rs k d ∙ rw (eqb_sym k n, e) (uncovered_all false (get rs k))))
  get-changed t (written (delete n)) rs k d = get-reject (write_covers {A = A} (delete n)) rs k d
  get-changed t (written (delete_range lo hi date)) rs k d = get-reject (write_covers {A = A} (delete_range lo hi date)) rs k d
  get-changed t flush rs k d = refl
  get-changed t tick rs k d = refl

  -- The rows that are left, and a row beside those of other dockets, have different dockets.
  distinct_select : (t : Row A → Bool) (rs : List (Row A)) → Distinct (keys rs) → Distinct (keys (select t rs))
  unfolding select
  distinct_select t [] d = tt
  distinct_select t (r ∷ rs) d = cond_elim (λ l. Distinct (keys l)) (t r) (r ∷ select t rs) (select t rs)
      (λ g. (any-keys r.key (select t rs) ∙ any-select_weaken t (has_key r.key) rs (sym (any-keys r.key rs) ∙ d.0), distinct_select t rs d.1))
      (λ g. distinct_select t rs d.1)

  pub distinct_changed : (t : ℕ) (op : Op A) (rs : List (Row A)) → Distinct (keys rs) → Distinct (keys (changed t op rs))
  unfolding changed
  distinct_changed t (written (put n a)) rs d =
      (any-keys n (reject (has_key n) rs) ∙ any-select (λ r. not (has_key n r)) (has_key n) (λ r h. not-true (has_key n r) h) rs, distinct_select (λ r. not (has_key n r)) rs d)
  distinct_changed t (written (delete n)) rs d = distinct_select _ rs d
  distinct_changed t (written (delete_range lo hi date)) rs d = distinct_select _ rs d
  distinct_changed t flush rs d = d
  distinct_changed t tick rs d = d

  pub distinct_step : (n : ℕ) (m : PlainMap A) (c : Call A) → Distinct (keys m.rows) → Distinct (keys (map_step n m c).rows)
  unfolding map_step
  distinct_step n m c d = cond_elim (λ (x : PlainMap A). Distinct (keys x.rows)) (eqb (map_refusal n m c) 0) _ m
      (λ e. distinct_changed c.clock c.op m.rows d) (λ e. d)

module _ {S A : Type 0} where
  abbrev point_keys : List (Point S A) → List ℕ
  point_keys ps = map (λ (p : Point S A). p.key) ps

  any-point_keys : (k : ℕ) (ps : List (Point S A)) → any (eqb k) (point_keys ps) ≡ names ps k
  any-point_keys k ps = any-map (λ (p : Point S A). p.key) (eqb k) ps ∙ any_same _ _ (λ p. eqb_sym k p.key) ps

  ascending_distinct : (ps : List (Point S A)) → Ascending point_before ps → Distinct (point_keys ps)
  unfolding any
  ascending_distinct [] a = tt
  ascending_distinct (p ∷ ps) a = (apart ps a.0, ascending_distinct ps a.1)
    where
      apart : (qs : List (Point S A)) → All (λ q. point_before p q ≡ true) qs → any (eqb p.key) (point_keys qs) ≡ false
      apart [] b = refl
      apart (q ∷ qs) b = or_false_intro (eqb p.key q.key) _ (ne_eqb p.key q.key (λ e. omega (arith, ltb-true p.key q.key b.0))) (apart qs b.1)

-- The store s of n slots and the map m have seen the same calls.
pub record Alike {S A : Type 0} (n : ℕ) (s : State S A) (m : PlainMap A) : Type 0 where
  pub whole : Whole n s
  pub clocks : m.clock ≡ s.clock
  pub gets : (k : ℕ) → get m.rows k ≡ lookup s.levels k
  pub distinct : Distinct (keys m.rows)
  pub timely : Timely s.clock s.levels

module _ {S A : Type 0} (n : ℕ) (s : State S A) (m : PlainMap A) (same : Alike n s m) where
  b : Bottom n s
  b = bottom n s same.whole

  finds_row : (k : ℕ) → any (has_key k) m.rows ≡ is_found (find 0 b.points k absent)
  finds_row k = sym (get_found m.rows k) ∙ ap is_found (same.gets k ∙ sym (merge_all-lookup s k same.whole.formed same.timely.aged) ∙ b.finds k)

  -- Every row's docket is a point's, and the other way round.
  row_named : (k : ℕ) → any (has_key k) m.rows ≡ true → names b.points k ≡ true
  row_named k h = found_named b.points k (sym (finds_row k) ∙ h)

  named_row : (k : ℕ) → names b.points k ≡ true → any (has_key k) m.rows ≡ true
  unfolding b
  named_row k h = finds_row k ∙ bottom_found n s same.whole same.timely.stamps k h

  rows_own : (rs : List (Row A)) → All (λ r. any (has_key r.key) rs ≡ true) rs
  unfolding any
  rows_own [] = tt
  rows_own (r ∷ rs) = (or_left (eqb r.key r.key) _ (eq-eqb r.key r.key refl), all_weaken _ _ (λ q h. or_right (eqb r.key q.key) _ h) rs (rows_own rs))

  rows_fit : length m.rows ≤ length b.points
  rows_fit = omega (
    arith,
    pigeonhole (keys m.rows) (point_keys b.points) same.distinct
        (all_map (λ (r : Row A). r.key) _ m.rows (all_weaken _ _ (λ r h. any-point_keys r.key b.points ∙ row_named r.key h) m.rows (rows_own m.rows))),
    length-map m.rows (λ (r : Row A). r.key),
    length-map b.points (λ (p : Point S A). p.key),
  )

  points_fit : length b.points ≤ length m.rows
  points_fit = omega (
    arith,
    pigeonhole (point_keys b.points) (keys m.rows) (ascending_distinct b.points b.ordered)
        (all_map (λ (p : Point S A). p.key) _ b.points (all_weaken _ _ (λ p h. any-keys p.key m.rows ∙ named_row p.key h) b.points (names_own b.points))),
    length-map m.rows (λ (r : Row A). r.key),
    length-map b.points (λ (p : Point S A). p.key),
  )

  -- The map is full exactly when the store has no slot.
  full_alike : (t k : ℕ) (a : A) → leb n (length m.rows) && not (any (has_key k) m.rows) ≡ no_slot t (put k a) s
  unfolding b
  full_alike t k a = bool_ext _ _ forth back
    where
      forth : leb n (length m.rows) && not (any (has_key k) m.rows) ≡ true → no_slot t (put k a) s ≡ true
      forth h =
          let many : n ≤ length m.rows = leb-true n (length m.rows) (and_left _ (not (any (has_key k) m.rows)) h) in
          let no_row : any (has_key k) m.rows ≡ false = not-true (any (has_key k) m.rows) (and_right (leb n (length m.rows)) _ h) in
          live_full n s same.whole k
          (live_slots n s same.whole same.timely.stamps k (omega (arith, rows_fit, b.counted))
          (by_cases (names b.points k) (λ e. both_false (named_row k e) no_row) (λ e. e))) t a

      back : no_slot t (put k a) s ≡ true → leb n (length m.rows) && not (any (has_key k) m.rows) ≡ true
      back h =
          let live : SlotsLive n k (merge_all s).state = full_live n s same.whole same.timely.stamps t k a h in
          let every : length b.points ≡ n = ap length (sym b.are) ∙ live.every in
          let unnamed : names b.points k ≡ false = ap (λ ps. names ps k) (sym b.are) ∙ live.without in
          and_intro (leb n (length m.rows)) _ (le-leb n (length m.rows) (omega (arith, points_fit)))
          (ap not (by_cases (any (has_key k) m.rows) (λ e. both_false (row_named k e) unnamed) (λ e. e)))

  op_full_alike : (t : ℕ) (op : Op A) → map_full n op m.rows ≡ out_of_slots t op s
  op_full_alike t (written (put k a)) = full_alike t k a
  op_full_alike t (written (delete k)) = unfold no_slot in refl
  op_full_alike t (written (delete_range lo hi date)) = unfold no_slot in refl
  op_full_alike t flush = refl
  op_full_alike t tick = refl

module _ {S A : Type 0} where
  -- A call is refused alike, and leaves them alike.
  pub record StepAlike (n : ℕ) (m : PlainMap A) (c : Call A) (r : Outcome S A) : Type 0 where
    pub refusal : r.answer.refusal ≡ map_refusal n m c
    pub alike : Alike n r.state (map_step n m c)

  pub step_alike : (n : ℕ) (s : State S A) (m : PlainMap A) (c : Call A) → Alike n s m → StepAlike n m c (step s c)
  unfolding map_refusal map_step accepted_outcome
  step_alike n s m c same = go (step s c) (step_view s c) (step_whole n s c same.whole) (step_timely s c same.whole.formed same.timely)
    where
      f : Formed s
      f = same.whole.formed

      full : map_full n c.op m.rows ≡ out_of_slots c.clock c.op s
      full = op_full_alike n s m same c.clock c.op

      early : early_refusal m.clock c ≡ early_refusal s.clock c
      early = ap (λ t. early_refusal t c) same.clocks

      go : (r : Outcome S A) → StepView s c r → Whole n r.state → Timely r.state.clock r.state.levels → StepAlike n m c r
      go r (turned_away e) w a = record { refusal = rw (early, e); alike = rw (early, e, e) same }
      go r (refused_7 e g) w a = record {
        refusal = rw (early, e, full, g);
        alike = rw (early, e, full, g)
            (record {
              whole = w;
              clocks = same.clocks ∙ sym (merge_all-clock s (omega (arith, f.deep)));
              gets = λ k. same.gets k ∙ sym (merge_all-lookup s k f same.timely.aged);
              distinct = same.distinct;
              timely = a;
            });
      }
      go r (passed e g) w a = record {
        refusal = rw (early, e, full, g);
        alike = rw (early, e, full, g)
            (record {
              whole = w;
              clocks = refl;
              gets = λ k. get-changed c.clock c.op m.rows k same.distinct
                  ∙ after_op_same c.clock c.op (get m.rows) (lookup s.levels) k (same.gets k) ∙ sym (worked-lookup s c e f same.timely k g);
              distinct = distinct_changed c.clock c.op m.rows same.distinct;
              timely = a;
            });
      }

  pub run_alike : (n : ℕ) (s : State S A) (m : PlainMap A) (cs : List (Call A)) → Alike n s m → Alike n (run s cs) (map_run n m cs)
  unfolding run map_run
  run_alike n s m [] same = same
  run_alike n s m (c ∷ cs) same = run_alike n (step s c).state (map_step n m c) cs (step_alike n s m c same).alike

  pub refusals_alike : (n : ℕ) (s : State S A) (m : PlainMap A) (cs : List (Call A)) → Alike n s m → refusals s cs ≡ map_refusals n m cs
  unfolding answers map_refusals
  refusals_alike n s m [] same = refl
  refusals_alike n s m (c ∷ cs) same = rw ((step_alike n s m c same).refusal, refusals_alike n (step s c).state (map_step n m c) cs (step_alike n s m c same).alike)

  lookup_empties : (n k : ℕ) (l : Level S A) → l ≡ empty → lookup (replicate n l) k ≡ absent
  lookup_empties zero k l e = unfold lookup_from in refl
  lookup_empties (suc n) k l e = ap (λ x. lookup (x ∷ replicate n l) k) e ∙ lookup-empty (replicate n l) k ∙ lookup_empties n k l e

  pub fresh_alike : (settings : Settings) (free : List S) → allowed settings ≡ true → Alike (length free) (fresh {A = A} settings free) no_rows
  unfolding fresh get
  fresh_alike settings free h = record {
    whole = fresh_whole settings free h;
    clocks = refl;
    gets = λ k. sym (lookup_empties (suc settings.deepest) k empty refl);
    distinct = tt;
    timely = replicate_timely 0 (suc settings.deepest);
  }
