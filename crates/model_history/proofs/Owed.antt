-- In every list of calls from a fresh store, a level's owed is the earliest clock of the deletes that came into it since it was last emptied.
use mathlib.Core.Path.{◌≡◌, refl, sym, ap, ◌∙◌}
use mathlib.Core.Bool.{true, false, cond, true≢false}
use mathlib.Core.List.{List, [], ◌∷◌, ◌++◌}
use Prim.Native.Nat.{ℕ, zero, suc, ◌+◌, ◌<◌, ◌≤◌}
use native.Mathlib.Omega.{arith}
use native.Mathlib.Decide.{ℕ_discrete}
use borrow.Author.Tests.{eq-eqb, ne_eqb, eqb-true}
use lib.Dec.{eqb}
use lib.ListN.{length, get_or, set, length-set, replicate, length-replicate, get_or-replicate, get_or-map}
use lib.Seq.{get_or-set_same, get_or-set_other}
use Rattle.settings.specs.declared.Settings.{Settings}
use Rattle.settings.specs.Limits.{allowed}
use Rattle.settings.proofs.Allowed.{allowed_bounds}
use Rattle.lists.specs.Lists.{iterate, none}
use Rattle.lists.proofs.Bools.{cond_elim, by_cases}
use Rattle.model.specs.Records.{Level, Point, State, empty, level, fresh, slotless}
use Rattle.model.specs.Merge.{release, merged, joined}
use Rattle.model.specs.Steps.{Work, Write, put, delete, delete_range, single, begin, merge_state, merge_level, merge_all, displaced, enter_at, enter, set_points}
use Rattle.model.specs.Steps.{wipe, act_deepest, crowded, make_room, full, write, due, pass_level, pass, still_due}
use Rattle.model.specs.Calls.{Op, written, flush, tick, Call, Outcome, early_refusal, timed, prepared, out_of_slots, finish, step, run}
use Rattle.model.specs.Renaming.{map_level}
use Rattle.model.proofs.Keeps.{has_room}
use Rattle.model.proofs.NaturalCalls.{run-slotless}
use Rattle.model_history.specs.History.{Event, enters, merges, delete_clock, comes, came_after, came, merges_from, merges_if, earliest, prepared_events, passing, pass_events, events, history}
use Rattle.model_history.proofs.Earliest.{earliest_append, came_append}

-- Each of the levels 0 to L−1 owes the earliest of what came into it.
record Owes {S A : Type 0} (deepest : ℕ) (s : State S A) (h : ℕ → List ℕ) : Type 0 where
  pub same : s.settings.deepest ≡ deepest
  pub rows : length s.levels ≡ suc deepest
  pub owed : (i : ℕ) → i < deepest → (level i s).owed ≡ earliest (h i)

module _ {S A : Type 0} (deepest : ℕ) where
  -- A level is merged into the next.
  module _ (j : ℕ) (s : State S A) (h : ℕ → List ℕ) (lt : j < deepest) (o : Owes deepest s h) where
    abbrev low : Level S A
    low = joined (eqb (suc j) s.settings.deepest) (level j s) (level (suc j) s)

    joined-owed : suc j < deepest → low.owed ≡ earliest (h j ++ h (suc j))
    unfolding joined merged
    joined-owed below =
        rw (o.same, ne_eqb (suc j) deepest (λ q. omega arith), o.owed j lt, o.owed (suc j) below)
        (sym (earliest_append (h j) (h (suc j))))

    owed_then : (i : ℕ) → i < deepest → Dec (i ≡ j) → Dec (i ≡ suc j)
        → (get_or (set (set s.levels j empty) (suc j) low) i empty).owed ≡ earliest (comes {A = A} h (merges j) i)
    unfolding earliest
    owed_then i below (yes p) q =
        rw (p, get_or-set_other (set s.levels j empty) (suc j) j low empty (λ q. omega arith), get_or-set_same s.levels j empty empty (omega (arith, o.rows)), eq-eqb j j refl)
    owed_then i below (no p) (yes q) =
        rw (q, get_or-set_same (set s.levels j empty) (suc j) low empty (omega (arith, o.rows, length-set s.levels j empty)), ne_eqb (suc j) j (λ q. omega arith), eq-eqb (suc j) (suc j) refl)
        (joined-owed (rw q at below))
    owed_then i below (no p) (no q) =
        rw (get_or-set_other (set s.levels j empty) (suc j) i low empty q, get_or-set_other s.levels j i empty empty p, ne_eqb i j p, ne_eqb i (suc j) q)
        (o.owed i below)

    merging : Owes deepest (merge_state j s) (comes {A = A} h (merges j))
    unfolding merge_state
    merging = record {
      same = o.same;
      rows = length-set (set s.levels j empty) (suc j) low ∙ length-set s.levels j empty ∙ o.rows;
      owed = λ i below. owed_then i below (ℕ_discrete i j) (ℕ_discrete i (suc j));
    }

  -- Levels are merged one after the other.
  merging_from : (n i : ℕ) (w : Work S A) (h : ℕ → List ℕ) → i + n ≤ deepest → Owes deepest w.state h
      → Owes deepest (iterate merge_level i n w).state (came_after h (merges_from {A = A} n i))
  unfolding iterate merge_level merges_from came_after
  merging_from zero i w h le o = o
  merging_from (suc n) i w h le o = merging_from n (suc i) (merge_level i w) (comes {A = A} h (merges i)) (omega arith) (merging i w.state h (omega arith) o)

  merging_all : (s : State S A) (h : ℕ → List ℕ) → Owes deepest s h → Owes deepest (merge_all s).state (came_after h (merges_from {A = A} s.settings.deepest 0))
  unfolding merge_all
  merging_all s h o = merging_from s.settings.deepest 0 (begin s) h (omega (arith, o.same)) o

  -- A write enters the buffer.
  module _ (t : ℕ) (w : Write A) (s : State S A) (h : ℕ → List ℕ) (some : 0 < deepest) (o : Owes deepest s h) where
    single-owed : (x : S) (v : Write A) → (single x t v).owed ≡ earliest (delete_clock t v)
    unfolding single earliest
    single-owed x (put k a) = refl
    single-owed x (delete k) = by_cases (eqb t 0) (λ q. rw q (eqb-true t 0 q)) (λ q. rw q)
    single-owed x (delete_range lo hi date) = by_cases (eqb t 0) (λ q. rw q (eqb-true t 0 q)) (λ q. rw q)

    module _ (x : S) where
      abbrev new : Level S A
      new = merged (single x t w) (level 0 s)

      new-owed : new.owed ≡ earliest (delete_clock t w ++ h 0)
      unfolding merged
      new-owed = rw (single-owed x w, o.owed 0 some) (sym (earliest_append (delete_clock t w) (h 0)))

      owed_entered : (i : ℕ) → i < deepest → Dec (i ≡ 0) → (get_or (set s.levels 0 new) i empty).owed ≡ earliest (comes h (enters t w) i)
      owed_entered i below (yes p) = rw (p, get_or-set_same s.levels 0 new empty (omega (arith, o.rows))) new-owed
      owed_entered i below (no p) = rw (get_or-set_other s.levels 0 i new empty p, ne_eqb i 0 p) (o.owed i below)

    entering_at : (free : List S) → none free ≡ false → Owes deepest (enter_at t w s free) (comes h (enters t w))
    unfolding enter_at
    entering_at [] q = absurd (true≢false q)
    entering_at (x ∷ free) q = record {
      same = o.same;
      rows = length-set s.levels 0 (new x) ∙ o.rows;
      owed = λ i below. owed_entered x i below (ℕ_discrete i 0);
    }

    entering : none (release (displaced t w s) s.free) ≡ false → Owes deepest (enter t w s) (comes h (enters t w))
    unfolding enter
    entering q = entering_at (release (displaced t w s) s.free) q

  -- What acts on level L leaves the others.
  pointing : (ps : List (Point S A)) (s : State S A) (free : List S) (h : ℕ → List ℕ) → Owes deepest s h → Owes deepest (set_points s.settings.deepest ps s free) h
  unfolding set_points
  pointing ps s free h o = record {
    same = o.same;
    rows = length-set s.levels s.settings.deepest _ ∙ o.rows;
    owed = λ i below. rw (get_or-set_other s.levels s.settings.deepest i _ empty (λ q. omega (arith, o.same, q))) (o.owed i below);
  }

  acting : (t : ℕ) (w : Write A) (s : State S A) (h : ℕ → List ℕ) → Owes deepest s h → Owes deepest (act_deepest t w s) h
  unfolding act_deepest wipe
  acting t (put k a) s h o = pointing _ s s.free h o
  acting t (delete k) s h o = pointing _ s _ h o
  acting t (delete_range lo hi date) s h o = pointing _ s _ h o

  module _ (some : 0 < deepest) where
    -- A write, with the merging that makes room for it.
    module _ (t : ℕ) (w : Write A) (s : State S A) (h : ℕ → List ℕ) (o : Owes deepest s h) where
      abbrev room_events : List (Event A)
      room_events = cond (crowded t w s) (merges_from s.settings.deepest 0) []

      making_room : Owes deepest (make_room t w s).state (came_after h room_events)
      unfolding make_room came_after
      making_room = by_cases (crowded t w s) (λ q. rw q (merging_all s h o)) (λ q. rw q o)

      writing : Owes deepest (write t w s).state (came_after h (prepared_events t (written w) s))
      unfolding write came_after
      writing =
          rw (came_append h room_events (cond (full t w s) [] (enters t w ∷ [])))
          (by_cases (full t w s)
          (λ q. rw q (acting t w (make_room t w s).state (came_after h room_events) making_room))
          (λ q. rw q (entering t w (make_room t w s).state (came_after h room_events) some making_room (has_room t w s q))))

    -- The pass, level by level.
    passing_level : (t i : ℕ) (w : Work S A) (h : ℕ → List ℕ) → i < deepest → Owes deepest w.state h
        → Owes deepest (pass_level t i w).state (came_after h (merges_if {A = A} (due w.state.settings t i (level i w.state)) i))
    unfolding pass_level merge_level came_after
    passing_level t i w h lt o = by_cases (due w.state.settings t i (level i w.state)) (λ q. rw q (merging i w.state h lt o)) (λ q. rw q o)

    passing_from : (t n i : ℕ) (w : Work S A) (h : ℕ → List ℕ) → i + n ≤ deepest → Owes deepest w.state h
        → Owes deepest (iterate (pass_level t) i n w).state (came_after h (passing t n i w))
    unfolding iterate passing came_after
    passing_from t zero i w h le o = o
    passing_from t (suc n) i w h le o =
        rw (came_append h (merges_if (due w.state.settings t i (level i w.state)) i) (passing t n (suc i) (pass_level t i w)))
        (passing_from t n (suc i) (pass_level t i w) _ (omega arith) (passing_level t i w h (omega arith) o))

    passing_all : (t : ℕ) (w : Work S A) (h : ℕ → List ℕ) → Owes deepest w.state h → Owes deepest (pass t w).state (came_after h (pass_events t w))
    unfolding pass
    passing_all t w h o = passing_from t w.state.settings.deepest 0 w h (omega (arith, o.same)) o

    -- A call, and a list of them.
    preparing : (t : ℕ) (op : Op A) (s : State S A) (h : ℕ → List ℕ) → Owes deepest s h → Owes deepest (prepared t op s).state (came_after h (prepared_events t op s))
    unfolding prepared merge_level came_after
    preparing t (written w) s h o = writing t w s h o
    preparing t flush s h o = merging 0 s h some o
    preparing t tick s h o = o

    finishing : (t : ℕ) (op : Op A) (s : State S A) (w : Work S A) (h : ℕ → List ℕ) → Owes deepest (pass t w).state h → Owes deepest (finish t op s w).state h
    unfolding finish
    finishing t op s w h o =
        let timed_owes : Owes deepest (timed t (pass t w).state) h = record { same = o.same; rows = o.rows; owed = o.owed } in
        cond_elim (λ (r : Outcome S A). Owes deepest r.state h) (still_due t (pass t w).state) _ _ (λ q. timed_owes) (λ q. timed_owes)

    stepping : (s : State S A) (c : Call A) (h : ℕ → List ℕ) → Owes deepest s h → Owes deepest (step s c).state (came_after h (events s c))
    unfolding step events came_after
    stepping s c h o = by_cases (eqb (early_refusal s.clock c) 0)
        (λ q. by_cases (out_of_slots c.clock c.op s)
        (λ r. rw (q, r) (merging_all s h o))
        (λ r. rw (q, r, came_append h (prepared_events c.clock c.op s) (pass_events c.clock (prepared c.clock c.op s)))
        (finishing c.clock c.op s (prepared c.clock c.op s) _ (passing_all c.clock (prepared c.clock c.op s) _ (preparing c.clock c.op s h o)))))
        (λ q. rw q o)

    running : (s : State S A) (cs : List (Call A)) (h : ℕ → List ℕ) → Owes deepest s h → Owes deepest (run s cs) (came_after h (history s cs))
    unfolding run history came_after
    running s [] h o = o
    running s (c ∷ cs) h o = rw (came_append h (events s c) (history (step s c).state cs)) (running (step s c).state cs _ (stepping s c h o))

module _ {S A : Type 0} (settings : Settings) (slots : List S) where
  fresh_owes : Owes settings.deepest (fresh {S = S} {A = A} settings slots) (λ _. [])
  unfolding fresh earliest
  fresh_owes = record {
    same = refl;
    rows = length-replicate (suc settings.deepest) empty;
    owed = λ i below. ap (λ (l : Level S A). l.owed) (get_or-replicate (suc settings.deepest) i empty empty (omega arith));
  }

  pub owed_is_earliest : (cs : List (Call A)) → allowed settings ≡ true → (i : ℕ) → i < settings.deepest
      → (level i (run (fresh settings slots) cs)).owed ≡ earliest (came (history (fresh settings slots) cs) i)
  owed_is_earliest cs ok i below =
      (running settings.deepest (omega (arith, (allowed_bounds settings ok).deepest_low)) (fresh settings slots) cs (λ _. []) fresh_owes).owed i below

-- The same where no slot is told: what came is worked out from the settings and the list alone.
module _ {S A : Type 0} (settings : Settings) (slots : List S) where
  pub owed_without_slots : (cs : List (Call A)) → allowed settings ≡ true → (i : ℕ) → i < settings.deepest
      → (level i (run (fresh settings slots) cs)).owed ≡ earliest (came (history (slotless (length slots) settings) cs) i)
  owed_without_slots cs ok i below =
      sym (ap (λ (l : Level (Unit {0}) A). l.owed) (get_or-map (map_level (λ (x : S). tt {0}) (λ (x : A). x)) (run (fresh settings slots) cs).levels i empty))
      ∙ sym (ap (λ (s : State (Unit {0}) A). (level i s).owed) (run-slotless settings slots cs))
      ∙ owed_is_earliest settings (replicate (length slots) tt) cs ok i below
