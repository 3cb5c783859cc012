-- The third demand for levels: had an erased put carried any other tally, the state would be the same.
use mathlib.Core.Path.{◌≡◌, refl, sym, ap, ◌∙◌}
use mathlib.Core.Bool.{true, false, ◌&&◌, false≢true, true≢false}
use mathlib.Core.List.{List, [], ◌∷◌, ◌++◌, map}
use Prim.Native.Nat.{ℕ, zero, suc, ◌≤◌, ◌<◌, min}
use native.Mathlib.Omega.{arith}
use lib.Dec.{eqb}
use borrow.Author.Tests.{eqb-true}
use lib.ListN.{length, take, drop, set, take-append-drop, length-set, length-map, get_or-map}
use lib.Seq.{drop-cons, set-get_or, drop-set-lt, get_or-set_same, get_or-set_other}
use Rattle.settings.specs.declared.Settings.{Settings}
use Rattle.settings.specs.Limits.{allowed}
use Rattle.lists.specs.All.{All}
use Rattle.lists.proofs.Bools.{by_cases, and_left, and_right, or_second}
use Rattle.lists.proofs.Tests.{all_take, all_drop, all_set, all_map, all_every, all_replicate, all_weaken, map_id, set-map}
use Rattle.model.specs.Records.{Entry, value, tombstone, Point, Level, State, empty, fresh}
use Rattle.model.specs.Coverage.{over, covers}
use Rattle.model.specs.Steps.{Write, put, delete, delete_range, write_covers}
use Rattle.model.specs.Calls.{Op, written, flush, tick, Call, step, run}
use Rattle.model.specs.Erasure.{call_at, retally, erases, before, Erased}
use Rattle.model.specs.Renaming.{map_entry, map_point, map_level, map_state, map_write, map_op, map_call}
use Rattle.model.proofs.NaturalCalls.{fresh-map, run-map, erased_map}
use Rattle.model.proofs.Coverage.{covers-true, covers_parts}
use Rattle.model.proofs.StepView.{accepted_ends}
use Rattle.model.proofs.Form.{fresh_formed}
use Rattle.model.proofs.Numbers.{run-settings}
use Rattle.model.proofs.Points.{AllPoints, Holding, holding_deep, holding_merging, holding_weaken}
use Rattle.model.proofs.Timed.{let_in_clock, run_timed}
use Rattle.model.proofs.Marks.{Mark, plain, marked, read, is_marked, Clean, Keyed, Newer}
use Rattle.model.proofs.MarkedSteps.{Quiet, QuietOp, KeyedOp, KeyedCall, KeyedUpto, MarksOf, MarksUpto, marks_upto_kept, marks_upto_later}
use Rattle.model.proofs.Erasing.{Fated}
use Rattle.model.proofs.Deletion.{delete_fated}

module _ {A : Type 0} where
  -- The list with the tally of the put of docket k at place i marked, and all others plain.
  abbrev marked_put : ℕ → ℕ → List (Call A) → Call (Mark A)
  marked_put i k cs = record { clock = (call_at cs i).clock; op = written (put k marked) }

  abbrev mark : ℕ → ℕ → List (Call A) → List (Call (Mark A))
  mark i k cs = set (map (map_call plain) cs) i (marked_put i k cs)

  mark_at : (i k : ℕ) (cs : List (Call A)) → i < length cs → call_at (mark i k cs) i ≡ marked_put i k cs
  mark_at i k cs h = get_or-set_same (map (map_call plain) cs) i (marked_put i k cs) _ (rw (length-map cs (map_call plain)) h)

  read_plain : (v : A) (op : Op A) → map_op (read v) (map_op plain op) ≡ op
  read_plain v (written (put k a)) = refl
  read_plain v (written (delete k)) = refl
  read_plain v (written (delete_range lo hi date)) = refl
  read_plain v flush = refl
  read_plain v tick = refl

  read_all_plain : (v : A) (cs : List (Call A)) → map (map_call (read v)) (map (map_call plain) cs) ≡ cs
  read_all_plain v [] = refl
  read_all_plain v (c ∷ cs) = rw (read_plain v c.op, read_all_plain v cs)

  -- Read back with any tally for the mark, it is the list with that tally.
  mark_reads : (i k : ℕ) (v : A) (cs : List (Call A)) → map (map_call (read v)) (mark i k cs) ≡ retally i k v cs
  mark_reads i k v cs =
      let c : Call (Mark A) = marked_put i k cs in
      sym (set-map (map_call (read v)) (map (map_call plain) cs) i c) ∙ ap (λ xs. set xs i (map_call (read v) c)) (read_all_plain v cs)

  retally_own : (i k : ℕ) (a : A) (cs : List (Call A)) → (call_at cs i).op ≡ written (put k a) → retally i k a cs ≡ cs
  retally_own i k a cs e =
      ap (λ op. set cs i (record { clock = (call_at cs i).clock; op = op })) (sym e) ∙ set-get_or cs i (record { clock = 0; op = tick })

  plain_quiet : (op : Op A) → QuietOp (map_op plain op)
  plain_quiet (written (put k a)) = refl
  plain_quiet (written (delete k)) = tt
  plain_quiet (written (delete_range lo hi date)) = tt
  plain_quiet flush = tt
  plain_quiet tick = tt

  plain_keyed : (k b t : ℕ) (op : Op A) → KeyedOp k b t (map_op plain op)
  plain_keyed k b t (written (put n a)) = λ h. absurd (false≢true h)
  plain_keyed k b t (written (delete n)) = tt
  plain_keyed k b t (written (delete_range lo hi date)) = tt
  plain_keyed k b t flush = tt
  plain_keyed k b t tick = tt

  -- All calls carry the mark under its docket and at its clock only, and those after its place carry none.
  all_keyed : (i k : ℕ) (cs : List (Call A)) → All (KeyedCall k (call_at cs i).clock) (mark i k cs)
  all_keyed i k cs =
      let b : ℕ = (call_at cs i).clock in
      all_set (KeyedCall k b) (map (map_call plain) cs) i _ (all_map (map_call plain) (KeyedCall k b) cs (all_every _ (λ c. plain_keyed k b c.clock c.op) cs)) (λ h. (refl, refl))

  after_quiet : (i k n : ℕ) (cs : List (Call A)) → i < n → All Quiet (drop n (mark i k cs))
  after_quiet i k n cs h = rw (drop-set-lt n (map (map_call plain) cs) i _ h)
      (all_drop Quiet n (map (map_call plain) cs) (all_map (map_call plain) Quiet cs (all_every _ (λ c. plain_quiet c.op) cs)))

  -- A write stands in the list.
  written_inside : (cs : List (Call A)) (j : ℕ) (w : Write A) → (call_at cs j).op ≡ written w → j < length cs
  written_inside [] j w e = let z : ◌≡◌ {A = ℕ} 0 1 = cc in absurd (omega arith)
  written_inside (c ∷ cs) zero w e = omega arith
  written_inside (c ∷ cs) (suc j) w e = omega (arith, written_inside cs j w e)

-- Levels without a mark read the same, whatever tally it stands for.
entry_same : {A : Type 0} (v w : A) (e : Entry (Mark A)) → is_marked e ≡ false → map_entry (read v) e ≡ map_entry (read w) e
entry_same v w (value (plain a)) h = refl
entry_same v w (value marked) h = absurd (true≢false h)
entry_same v w tombstone h = refl

module _ {S A : Type 0} where
  points_same : (v w : A) (ps : List (Point S (Mark A))) → All Clean ps → map (map_point (λ x. x) (read v)) ps ≡ map (map_point (λ x. x) (read w)) ps
  points_same v w [] a = refl
  points_same v w (p ∷ ps) a = rw (entry_same v w p.entry a.0, points_same v w ps a.1)

  levels_same : (v w : A) (ls : List (Level S (Mark A))) → All (AllPoints Clean) ls → map (map_level (λ x. x) (read v)) ls ≡ map (map_level (λ x. x) (read w)) ls
  levels_same v w [] a = refl
  levels_same v w (l ∷ ls) a = rw (points_same v w l.points a.0, levels_same v w ls a.1)

  run_append : (s : State S A) (xs ys : List (Call A)) → run s (xs ++ ys) ≡ run (run s xs) ys
  unfolding run
  run_append s [] ys = refl
  run_append s (x ∷ xs) ys = run_append (step s x).state xs ys

  -- The run up to a call, the call, and the run of the rest.
  run_split : (s : State S A) (cs : List (Call A)) (j : ℕ) (w : Write A) → (call_at cs j).op ≡ written w
      → run s cs ≡ run (step (run s (take j cs)) (call_at cs j)).state (drop (suc j) cs)
  unfolding run
  run_split s cs j w e =
      ap (run s) (sym (take-append-drop j cs)) ∙ run_append s (take j cs) (drop j cs)
      ∙ ap (run (run s (take j cs))) (drop-cons cs j (record { clock = 0; op = tick }) (written_inside cs j w e))

-- A delete at d covers an erased put at the earlier of the put's clock and d.
erases_covers : {A : Type 0} (d : ℕ) (w : Write A) (k b : ℕ) → erases d w k b ≡ true → write_covers w k (min b d) ≡ true
erases_covers d (put n a) k b h = h
erases_covers d (delete n) k b h = h
erases_covers d (delete_range lo hi date) k b h =
    by_cases (covers lo hi date k b)
    (λ e. let parts = covers_parts lo hi date k b e in covers-true lo hi date k (min b d) parts.0 (omega (arith, parts.1)))
    (λ n. let own = or_second (covers lo hi date k b) (eqb date d && over lo hi k) h n in
    covers-true lo hi date k (min b d) (and_right (eqb date d) (over lo hi k) own) (omega (arith, eqb-true date d (and_left (eqb date d) (over lo hi k) own))))

module _ {S A : Type 0} where
  fresh_marks : (k b t : ℕ) (settings : Settings) (slots : List S) → allowed settings ≡ true → MarksUpto {A = A} k b t (fresh settings slots)
  unfolding fresh
  fresh_marks k b t settings slots h = (fresh_formed settings slots h, all_replicate _ (suc settings.deepest) empty tt)

  -- A put after d was refused by then: what marks there are at d have the earlier of its clock and d.
  marks_by : (k b t d : ℕ) (s : State S (Mark A)) → t ≤ d → MarksUpto k b t s → MarksOf k (min b d) s
  marks_by k b t d s h = holding_weaken (KeyedUpto k b t) (Keyed k (min b d)) (λ p q m. ((q.0 m).0, omega (arith, (q.0 m).1, q.1))) s

  -- Where the put is erased, the marked list leaves no mark.
  no_mark_left : (settings : Settings) (slots : List S) (cs : List (Call A)) (i j k : ℕ) → allowed settings ≡ true
      → Erased (fresh settings slots) (mark i k cs) i j k marked → Holding Clean (run (fresh settings slots) (mark i k cs))
  no_mark_left settings slots cs i j k ok h =
      let same : (run s ms).settings.term ≡ s.settings.term = ap (λ (x : Settings). x.term) (run-settings s ms (omega (arith, start.0.deep))) in
      holding_weaken (Newer k (min b d)) Clean (λ p n. n.0) (run s ms) (fated.done (rw same h.term))
    where
      s : State S (Mark A)
      s = fresh settings slots

      ms : List (Call (Mark A))
      ms = mark i k cs

      b : ℕ
      b = (call_at cs i).clock

      -- the delete, and the store that it meets
      c : Call (Mark A)
      c = call_at ms j

      d : ℕ
      d = c.clock

      s₁ : State S (Mark A)
      s₁ = before s ms j

      covered : erases d h.write k b ≡ true
      covered =
          let size : length ms ≡ length cs = length-set (map (map_call plain) cs) i (marked_put i k cs) ∙ length-map cs (map_call plain) in
          let here : i < length cs = omega (arith, written_inside ms i (put k marked) h.is_put) in
          rw (mark_at i k cs here) at h.covers

      start : MarksUpto k b s.clock s
      start = fresh_marks k b s.clock settings slots ok

      before_delete : MarksUpto k b s₁.clock s₁
      before_delete = run_timed (MarksUpto k b) (marks_upto_later k b) (λ t. holding_deep _) (λ t. holding_merging _) s (take j ms)
          (all_weaken (KeyedCall k b) _ (marks_upto_kept k b) (take j ms) (all_take (KeyedCall k b) j ms (all_keyed i k cs))) start

      at_delete : MarksOf k (min b d) s₁
      at_delete = marks_by k b s₁.clock d s₁ (let_in_clock s₁.clock c (accepted_ends s₁ c h.accept).admitted).1 before_delete

      fated : Fated k (min b d) d (run s ms)
      fated = rw (run_split s ms j h.write h.is_write)
          (delete_fated k (min b d) s₁ c h.write h.is_write (erases_covers d h.write k b covered) (omega arith) at_delete h.accept
          (drop (suc j) ms) (after_quiet i k (suc j) cs (omega (arith, h.after))))

  mark_erased : {i j k : ℕ} {cs : List (Call A)} {s : State S A} (a : A) (ms : State S (Mark A)) → s ≡ map_state (λ x. x) (read a) ms → Erased s cs i j k a
      → Erased ms (mark i k cs) i j k marked
  mark_erased {i} {j} {k} {cs} {s} a ms e h =
      let none : Call A = record { clock = 0; op = tick } in
      let beside : call_at (mark i k cs) j ≡ map_call plain (call_at cs j) =
      get_or-set_other (map (map_call plain) cs) i j (marked_put i k cs) (map_call plain none) (omega (arith, h.after)) ∙ get_or-map (map_call plain) cs j none in
      erased_map (λ x. x) (read a) ms (mark i k cs) i j k marked (map_write plain h.write)
      (ap (λ (x : Call (Mark A)). x.op) (mark_at i k cs (written_inside cs i (put k a) h.is_put)))
      (ap (λ (x : Call (Mark A)). x.op) beside ∙ ap (map_op plain) h.is_write)
      (rw (← e, mark_reads i k a cs, retally_own i k a cs h.is_put) h)

  pub erasure : (settings : Settings) (slots : List S) (cs : List (Call A)) (i j k : ℕ) (a v : A) → allowed settings ≡ true
      → Erased (fresh settings slots) cs i j k a → run (fresh settings slots) (retally i k v cs) ≡ run (fresh settings slots) cs
  erasure settings slots cs i j k a v ok h = reads v ∙ same ∙ sym (reads a) ∙ ap (run (fresh settings slots)) (retally_own i k a cs h.is_put)
    where
      s : State S (Mark A)
      s = fresh settings slots

      fresh_reads : (u : A) → fresh settings slots ≡ map_state (λ x. x) (read u) s
      fresh_reads u = ap (fresh settings) (sym (map_id slots)) ∙ fresh-map (λ x. x) (read u) settings slots

      reads : (u : A) → run (fresh settings slots) (retally i k u cs) ≡ map_state (λ x. x) (read u) (run s (mark i k cs))
      reads u = ap (λ x. run x (retally i k u cs)) (fresh_reads u) ∙ ap (run (map_state (λ x. x) (read u) s)) (sym (mark_reads i k u cs)) ∙ run-map (λ x. x) (read u) s (mark i k cs)

      same : map_state (λ x. x) (read v) (run s (mark i k cs)) ≡ map_state (λ x. x) (read a) (run s (mark i k cs))
      same = rw (levels_same v a (run s (mark i k cs)).levels (no_mark_left settings slots cs i j k ok (mark_erased a s (fresh_reads a) h)).1)
