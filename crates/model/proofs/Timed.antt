-- A property that hangs on the clock: where every call keeps it at its own clock, every list of calls does.
use mathlib.Core.Path.{◌≡◌, refl}
use mathlib.Core.Bool.{true}
use mathlib.Core.List.{List, [], ◌∷◌}
use Prim.Native.Nat.{ℕ, ◌≤◌, ◌<◌}
use native.Mathlib.Omega.{arith}
use lib.Dec.{ltb, eqb}
use borrow.Author.Tests.{eqb-false, ltb-false}
use Rattle.lists.specs.All.{All}
use Rattle.lists.proofs.Bools.{or_false_left, or_false_right}
use Rattle.model.specs.Records.{State}
use Rattle.model.specs.Steps.{merge_state, merge_all}
use Rattle.model.specs.Calls.{Call, Outcome, early_refusal, step, run}
use Rattle.model.proofs.Keeps.{Kept, merge_all_keeps, step_keeps}
use Rattle.model.proofs.StepView.{let_in_time, StepView, turned_away, refused_7, passed, step_view, accepted_clock}

-- A call that is let in comes at a clock that is not 0, and not before the last.
pub let_in_clock : {A : Type 0} (last : ℕ) (c : Call A) → eqb (early_refusal last c) 0 ≡ true → (0 < c.clock) × (last ≤ c.clock)
let_in_clock last c e =
    let h = let_in_time last c e in (
      omega (arith, eqb-false c.clock 0 (or_false_left (eqb c.clock 0) (ltb c.clock last) h)),
      omega (arith, ltb-false c.clock last (or_false_right (eqb c.clock 0) (ltb c.clock last) h)),
    )

module _ {S A : Type 0} where
  pub merge_all-clock : (s : State S A) → 0 < s.settings.deepest → (merge_all s).state.clock ≡ s.clock
  merge_all-clock s h = (merge_all_keeps (λ (x : State S A). (x.clock ≡ s.clock) × (0 < x.settings.deepest)) (λ x p. p.1)
      (λ i x l p. unfold merge_state in p) s (refl, h)).0.0

-- P t: what holds of a store at clock t, and at every later clock.
module _ {S A : Type 0} (P : ℕ → State S A → Type 0) (later : (t u : ℕ) (s : State S A) → t ≤ u → P t s → P u s)
    (deep : (t : ℕ) (s : State S A) → P t s → 0 < s.settings.deepest)
    (merging : (t i : ℕ) (s : State S A) → i < s.settings.deepest → P t s → P t (merge_state i s)) where
  pub step_timed : (s : State S A) (c : Call A) → Kept (P c.clock) c → P s.clock s → P (step s c).state.clock (step s c).state
  step_timed s c k p = go (step s c) refl (step_view s c)
    where
      go : (r : Outcome S A) → step s c ≡ r → StepView s c r → P r.state.clock r.state
      go r is (turned_away e) = p
      go r is (refused_7 e f) =
          rw (merge_all-clock s (deep s.clock s p)) (merge_all_keeps (P s.clock) (deep s.clock) (merging s.clock) s p).0
      go r is (passed e f) =
          rw (accepted_clock s c) (rw is at (step_keeps (P c.clock) c k s (later s.clock c.clock s (let_in_clock s.clock c e).1 p)))

  pub run_timed : (s : State S A) (cs : List (Call A)) → All (λ c. Kept (P c.clock) c) cs → P s.clock s → P (run s cs).clock (run s cs)
  unfolding run
  run_timed s [] k p = p
  run_timed s (c ∷ cs) k p = run_timed (step s c).state cs k.1 (step_timed s c k.0 p)
