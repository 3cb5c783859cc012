-- THE DEMANDS of document 01, for levels as lists of records, each cited from the file that proves it.
-- S is any type of slots, A any type of tallies. A list of timed calls runs from a fresh store of allowed settings.
use mathlib.Core.Path.{◌≡◌, refl, sym, ap, ◌∙◌}
use mathlib.Core.Logic.{◌↔◌, ◌≢◌}
use mathlib.Core.Bool.{true, false, false≢true}
use mathlib.Core.List.{List, [], ◌∷◌, ◌++◌, map}
use Prim.Native.Nat.{ℕ, ◌+◌, ◌≤◌, ◌<◌}
use native.Mathlib.Omega.{arith}
use lib.Dec.{eqb}
use lib.ListN.{length, replicate}
use Rattle.settings.specs.declared.Settings.{Settings}
use Rattle.settings.specs.Limits.{allowed}
use Rattle.model.specs.Records.{Level, State, empty, level, held_all, fresh, slotless}
use Rattle.model.specs.Merge.{settled}
use Rattle.model.specs.Steps.{put, delete, delete_range, merge_all, no_slot, due, pass}
use Rattle.model.specs.Lookup.{scan, lookup}
use Rattle.model.specs.Live.{SlotsLive}
use Rattle.model.specs.Calls.{written, Call, Outcome, refusing, count_written, prepared, out_of_slots, refusal_number, step, run, answers, refusals}
use Rattle.model.specs.PlainMap.{get, map_run, map_refusals, no_rows}
use Rattle.model.specs.Erasure.{retally, accepted, Erased}
use Rattle.model.specs.Renaming.{map_state, map_call}
use Rattle.model.proofs.Slots.{Whole}
use Rattle.model.proofs.StepView.{worked, accepted_outcome, StepView, turned_away, refused_7, passed, early_other, step_view, accepted_ends}
use Rattle.model.proofs.Settle.{pass_leaves_none_due}
use Rattle.model.proofs.Numbers.{purged_sum, most_merges, merges_most, prepared-settings}
use Rattle.model.proofs.Deepest.{Drained, merge_all_drained}
use Rattle.model.proofs.Full.{full_live, live_full}
use Rattle.model.proofs.PlainMaps.{Alike, run_alike, refusals_alike, fresh_alike}
use Rattle.model.proofs.Timed.{merge_all-clock}
use Rattle.model.proofs.Scans.{scan_same}
use Rattle.model.proofs.NaturalCalls.{run-map, answers-map, erased_with_slots, answers-slotless}
use Rattle.model.proofs.Erasure.{erasure}

-- DEMAND 1, first for every state, reachable or not.
module _ {S A : Type 0} (s : State S A) (c : Call A) where
  -- Each call is refused in exactly the listed cases.
  pub refused_exactly : (step s c).answer.refusal ≡ refusal_number s c
  unfolding accepted_outcome
  refused_exactly = go (step s c) (step_view s c)
    where
      go : (r : Outcome S A) → StepView s c r → r.answer.refusal ≡ refusal_number s c
      go r (turned_away e) = rw e
      go r (refused_7 e f) = rw (e, f)
      go r (passed e f) = rw (e, f)

  pub never_8 : (step s c).answer.refusal ≢ 8
  unfolding accepted_outcome
  never_8 = go (step s c) (step_view s c)
    where
      go : (r : Outcome S A) → StepView s c r → r.answer.refusal ≢ 8
      go r (turned_away e) = (early_other s.clock c).1
      go r (refused_7 e f) = omega arith
      go r (passed e f) = omega arith

  -- "A refusal gives its number and zeros. Tables … are unchanged, save under 7".
  pub refused_answer : accepted s c ≡ false → (step s c).answer ≡ refusing (refusal_number s c)
  unfolding accepted accepted_outcome
  refused_answer = go (step s c) (step_view s c)
    where
      go : (r : Outcome S A) → StepView s c r → eqb r.answer.refusal 0 ≡ false → r.answer ≡ refusing (refusal_number s c)
      go r (turned_away e) h = rw e
      go r (refused_7 e f) h = rw (e, f)
      go r (passed e f) h = absurd (false≢true (sym h))

  pub refused_unchanged : accepted s c ≡ false → (step s c).answer.refusal ≢ 7 → (step s c).state ≡ s
  unfolding accepted accepted_outcome
  refused_unchanged = go (step s c) (step_view s c)
    where
      go : (r : Outcome S A) → StepView s c r → eqb r.answer.refusal 0 ≡ false → r.answer.refusal ≢ 7 → r.state ≡ s
      go r (turned_away e) h n = refl
      go r (refused_7 e f) h n = absurd (n refl)
      go r (passed e f) h n = absurd (false≢true (sym h))

  -- After an accepted call no level from 0 to L−1 is due; for the buffer B must not be 0.
  pub accepted_settles : 0 < s.settings.deepest → accepted s c ≡ true → (i : ℕ) → i < s.settings.deepest → (i ≡ 0 → 0 < s.settings.buffer)
      → due s.settings c.clock i (level i (step s c).state) ≡ false
  unfolding accepted_outcome worked
  accepted_settles h a i high some =
      let w = prepared c.clock c.op s in
      let same : w.state.settings ≡ s.settings = prepared-settings s c h in
      rw (accepted_ends s c a).ends
      (ap (λ x. due x c.clock i (level i (pass c.clock w).state)) (sym same) ∙ pass_leaves_none_due c.clock w i (rw same high) (rw same some))

-- Everything merged into level L, and the clock as before.
pub record MergedDown {S A : Type 0} (s m : State S A) : Type 0 where
  pub clock : m.clock ≡ s.clock
  pub settings : m.settings ≡ s.settings
  pub deepest : Level S A
  pub levels : m.levels ≡ replicate s.settings.deepest empty ++ (settled deepest ∷ [])

-- DEMAND 1, for every store that any list of calls made of a fresh one.
module _ {S A : Type 0} (settings : Settings) (ok : allowed settings ≡ true) (slots : List S) (cs : List (Call A)) where
  abbrev made : State S A
  made = run (fresh settings slots) cs

  -- The plain map beside it.
  alike : Alike (length slots) made (map_run (length slots) no_rows cs)
  alike = run_alike (length slots) (fresh settings slots) no_rows cs (fresh_alike settings slots ok)

  whole : Whole (length slots) made
  whole = alike.whole

  positive : 0 < made.settings.deepest
  positive = omega (arith, whole.formed.deep)

  -- 'Full' comes only when every slot holds a different live docket and the put's is not among them, and then always.
  pub full_exactly : (t k : ℕ) (a : A)
      → (out_of_slots t (written (put k a)) (run (fresh settings slots) cs) ≡ true) ↔ SlotsLive (length slots) k (merge_all (run (fresh settings slots) cs)).state
  full_exactly t k a = (full_live (length slots) made whole alike.timely.stamps t k a, λ live. live_full (length slots) made whole k live t a)

  -- A delete is never refused for lack of a slot.
  pub delete_never_full : (t k : ℕ) → out_of_slots t (written (delete k)) (run (fresh settings slots) cs) ≡ false
  unfolding no_slot
  delete_never_full t k = refl

  pub delete_range_never_full : (t lo hi date : ℕ) → out_of_slots t (written (delete_range lo hi date)) (run (fresh settings slots) cs) ≡ false
  unfolding no_slot
  delete_range_never_full t lo hi date = refl

  -- Refusal 7: "tables stay merged, clock as before".
  pub refused_7_merges : (c : Call A) → (step (run (fresh settings slots) cs) c).answer.refusal ≡ 7
      → MergedDown (run (fresh settings slots) cs) (step (run (fresh settings slots) cs) c).state
  unfolding accepted_outcome
  refused_7_merges c = go (step made c) (step_view made c)
    where
      d : Drained made (merge_all made).state
      d = merge_all_drained made whole.formed

      go : (r : Outcome S A) → StepView made c r → r.answer.refusal ≡ 7 → MergedDown made r.state
      go r (turned_away a) e = absurd ((early_other made.clock c).0 e)
      go r (refused_7 a f) e = record { clock = merge_all-clock made positive; settings = d.same; deepest = d.source; levels = d.levels }
      go r (passed a f) e = absurd (omega arith)

  -- DEMAND 2: from a fresh store, lookups and scans answer as a map does, and calls are refused as by a map of as many places.
  pub lookups_as_map : (k : ℕ) → lookup (run (fresh settings slots) cs).levels k ≡ get (map_run (length slots) no_rows cs).rows k
  lookups_as_map k = sym (alike.gets k)

  pub scans_as_map : (lo hi room : ℕ)
      → scan (lookup (run (fresh settings slots) cs).levels) lo hi room ≡ scan (get (map_run (length slots) no_rows cs).rows) lo hi room
  scans_as_map lo hi room = scan_same _ _ lookups_as_map lo hi room

  pub refusals_as_map : refusals (fresh {A = A} settings slots) cs ≡ map_refusals (length slots) no_rows cs
  refusals_as_map = refusals_alike (length slots) (fresh settings slots) no_rows cs (fresh_alike settings slots ok)

  -- Merges and purged hang on no slot.
  pub answers_without_slots : answers (fresh {A = A} settings slots) cs ≡ answers (slotless (length slots) settings) cs
  answers_without_slots = answers-slotless settings slots cs

  -- "purged = held before + written − held after", as a sum, and the most merges that a call can report.
  pub purged_adds_up : (c : Call A) → accepted (run (fresh settings slots) cs) c ≡ true
      → (step (run (fresh settings slots) cs) c).answer.purged + held_all (step (run (fresh settings slots) cs) c).state.levels
      ≡ held_all (run (fresh settings slots) cs).levels + count_written c.op
  purged_adds_up c a = purged_sum (length slots) made c whole a

  pub merges_at_most : (c : Call A) → accepted (run (fresh settings slots) cs) c ≡ true
      → (step (run (fresh settings slots) cs) c).answer.merges ≤ most_merges c.clock c.op (run (fresh settings slots) cs)
  merges_at_most c a = merges_most made c positive a

  -- "N less all records as the free slots".
  pub free_and_held : length (run (fresh settings slots) cs).free + held_all (run (fresh settings slots) cs).levels ≡ length slots
  free_and_held = whole.all

  -- DEMAND 3: had that put carried any other tally, the state would be the same. What became of the delete is worked out without slots.
  pub erased_leaves_nothing : (i j k : ℕ) (a v : A) → Erased (slotless (length slots) settings) cs i j k a
      → run (fresh settings slots) (retally i k v cs) ≡ run (fresh settings slots) cs
  erased_leaves_nothing i j k a v e = erasure settings slots cs i j k a v ok (erased_with_slots settings slots cs i j k a e)

-- No decision hangs on a tally, nor on a slot: a change of them commutes with every list, whose answers stay.
module _ {S T A B : Type 0} (g : S → T) (f : A → B) (s : State S A) (cs : List (Call A)) where
  pub run_blind : run (map_state g f s) (map (map_call f) cs) ≡ map_state g f (run s cs)
  run_blind = run-map g f s cs

  pub answers_blind : answers (map_state g f s) (map (map_call f) cs) ≡ answers s cs
  answers_blind = answers-map g f s cs
