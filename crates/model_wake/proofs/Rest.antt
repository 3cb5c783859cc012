-- From a fresh store no list of calls, refused ones too, leaves a level due.
use mathlib.Core.Path.{◌≡◌}
use mathlib.Core.Bool.{false}
use mathlib.Core.List.{List, [], ◌∷◌}
use Prim.Native.Nat.{ℕ, suc, ◌<◌}
use native.Mathlib.Omega.{arith}
use native.Mathlib.Decide.{ℕ_discrete}
use lib.ListN.{get_or-replicate}
use Rattle.lists.proofs.Loops.{iterate_holds}
use Rattle.settings.specs.declared.Settings.{Settings}
use Rattle.model.specs.Records.{State, empty, level, fresh}
use Rattle.model.specs.Steps.{Work, begin, merge_state, merge_level, merge_all, due}
use Rattle.model.specs.Calls.{Call, Outcome, prepared, step, run}
use Rattle.model.proofs.Keeps.{merge_all_keeps}
use Rattle.model.proofs.Numbers.{prepared-settings, run-settings}
use Rattle.model.proofs.Settle.{merge_empties, merge_other, due-empty, pass-settings, pass_leaves_none_due}
use Rattle.model.proofs.StepView.{StepView, turned_away, refused_7, passed, step_view, accepted_outcome, worked}

module _ {S A : Type 0} where
  -- At the last accepted clock no level from 0 to L−1 is due.
  abbrev pub NoneDue : State S A → Type 0
  NoneDue s = (i : ℕ) → i < s.settings.deepest → due s.settings s.clock i (level i s) ≡ false

  -- Merging all leaves levels 0 to L−1 empty.
  merge_all_empties : (s : State S A) (i : ℕ) → i < s.settings.deepest → level i (merge_all s).state ≡ empty
  unfolding merge_all merge_level
  merge_all_empties s i h =
      iterate_holds merge_level (λ j w. (k : ℕ) → k < j → level k w.state ≡ empty) s.settings.deepest 0 (begin s)
      (λ j w a b e k q. go j w e k q (ℕ_discrete k j)) (λ k q. absurd (omega arith)) i (omega arith)
    where
      go : (j : ℕ) (w : Work S A) → ((k : ℕ) → k < j → level k w.state ≡ empty) → (k : ℕ) → k < suc j → Dec (k ≡ j) → level k (merge_state j w.state) ≡ empty
      go j w e k q (yes r) = rw r (merge_empties j w.state)
      go j w e k q (no r) = rw (merge_other j k w.state r (omega arith)) (e k (omega arith))

  module _ (s : State S A) (deep : 0 < s.settings.deepest) (some : 0 < s.settings.buffer) where
    merged_rests : NoneDue (merge_all s).state
    unfolding merge_state
    merged_rests i h =
        let same = (merge_all_keeps (λ (x : State S A). 0 < x.settings.deepest) (λ x p. p) (λ j x b p. p) s deep).1 in
        due-empty (merge_all s).state.settings _ i _ (λ z. rw same some) (merge_all_empties s i (rw same at h))

    passed_rests : (c : Call A) → NoneDue (accepted_outcome s c).state
    unfolding accepted_outcome worked
    passed_rests c i h =
        let w = prepared c.clock c.op s in
        let same = pass-settings c.clock w in
        let all = prepared-settings s c deep in
        rw same (pass_leaves_none_due c.clock w i (rw same at h) (λ z. rw all some))

    step_rests : (c : Call A) → NoneDue s → NoneDue (step s c).state
    step_rests c rests = go (step s c) (step_view s c)
      where
        go : (r : Outcome S A) → StepView s c r → NoneDue r.state
        go r (turned_away e) = rests
        go r (refused_7 e f) = merged_rests
        go r (passed e f) = passed_rests c

  run_rests : (s : State S A) (cs : List (Call A)) → 0 < s.settings.deepest → 0 < s.settings.buffer → NoneDue s → NoneDue (run s cs)
  unfolding run
  run_rests s [] deep some rests = rests
  run_rests s (c ∷ cs) deep some rests =
      let same = run-settings s (c ∷ []) deep in
      run_rests (step s c).state cs (rw same deep) (rw same some) (step_rests s deep some c rests)

  pub fresh-run_rests : (settings : Settings) (slots : List S) (cs : List (Call A)) → 0 < settings.deepest → 0 < settings.buffer
      → NoneDue (run (fresh {A = A} settings slots) cs)
  unfolding fresh
  fresh-run_rests settings slots cs deep some =
      run_rests (fresh settings slots) cs deep some
      (λ i h. due-empty settings 0 i _ (λ z. some) (get_or-replicate (suc settings.deepest) i empty empty (omega arith)))
