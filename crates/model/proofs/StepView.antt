-- The three ways in which a call can end: turned away at once, out of slots, or done.
use mathlib.Core.Path.{◌≡◌, refl, sym, ◌∙◌}
use mathlib.Core.Logic.{◌≢◌}
use mathlib.Core.Bool.{Bool, true, false, cond, false≢true}
use Prim.Native.Nat.{ℕ, ◌+◌, ◌-◌, ◌≤◌}
use native.Mathlib.Omega.{arith}
use lib.Dec.{eqb}
use Rattle.lists.proofs.Bools.{cond_elim}
use Rattle.model.specs.Records.{State, held_all}
use Rattle.model.specs.Steps.{Work, merge_all, pass}
use Rattle.model.specs.Calls.{Call, Outcome, bad_docket, bad_clock, bad_date, early_refusal, count_written, timed, prepared, out_of_slots, refused, finish, step}
use Rattle.model.specs.Erasure.{accepted}
use Rattle.model.proofs.Settle.{never_still_due}

-- What turns a call away at once is neither 7 nor 8.
pub early_other : {A : Type 0} (last : ℕ) (c : Call A) → (early_refusal last c ≢ 7) × (early_refusal last c ≢ 8)
early_other last c = go (bad_docket c.op) (bad_clock c.clock last) (bad_date c.clock c.op)
  where
    go : (a b d : Bool) → (◌≢◌ {A = ℕ} (cond a 4 (cond b 5 (cond d 10 0))) 7) × (◌≢◌ {A = ℕ} (cond a 4 (cond b 5 (cond d 10 0))) 8)
    go true b d = (omega arith, omega arith)
    go false true d = (omega arith, omega arith)
    go false false true = (omega arith, omega arith)
    go false false false = (omega arith, omega arith)

pub early_most : {A : Type 0} (last : ℕ) (c : Call A) → early_refusal last c ≤ 10
early_most last c = go (bad_docket c.op) (bad_clock c.clock last) (bad_date c.clock c.op)
  where
    go : (a b d : Bool) → cond a 4 (cond b 5 (cond d 10 0)) ≤ 10
    go true b d = omega arith
    go false true d = omega arith
    go false false true = omega arith
    go false false false = omega arith

-- A call that is not turned away has dockets in range and a clock that is allowed.
module _ {A : Type 0} (last : ℕ) (c : Call A) where
  pub let_in_docket : eqb (early_refusal last c) 0 ≡ true → bad_docket c.op ≡ false
  let_in_docket = go (bad_docket c.op)
    where
      go : (a : Bool) → eqb (cond a 4 (cond (bad_clock c.clock last) 5 (cond (bad_date c.clock c.op) 10 0))) 0 ≡ true → a ≡ false
      go true h = absurd (false≢true h)
      go false h = refl

  pub let_in_time : eqb (early_refusal last c) 0 ≡ true → bad_clock c.clock last ≡ false
  let_in_time h = go (bad_clock c.clock last) (rw (let_in_docket h) at h)
    where
      go : (b : Bool) → eqb (cond b 5 (cond (bad_date c.clock c.op) 10 0)) 0 ≡ true → b ≡ false
      go true h = absurd (false≢true h)
      go false h = refl

  pub let_in_date : eqb (early_refusal last c) 0 ≡ true → bad_date c.clock c.op ≡ false
  let_in_date h = go (bad_date c.clock c.op) (rw (let_in_docket h, let_in_time h) at h)
    where
      go : (d : Bool) → eqb (cond d 10 0) 0 ≡ true → d ≡ false
      go true h = absurd (false≢true h)
      go false h = refl

  pub let_in : bad_docket c.op ≡ false → bad_clock c.clock last ≡ false → bad_date c.clock c.op ≡ false → eqb (early_refusal last c) 0 ≡ true
  let_in d e f = rw (d, e, f)

module _ {S A : Type 0} (s : State S A) (c : Call A) where
  -- The work of an accepted call, its pass included.
  unfoldable pub worked : Work S A
  worked = pass c.clock (prepared c.clock c.op s)

  unfoldable pub accepted_outcome : Outcome S A
  accepted_outcome = record {
    state = timed c.clock worked.state;
    answer = record
        { refusal = 0; merges = worked.merges; purged = held_all s.levels + count_written c.op - held_all worked.state.levels };
  }

  pub data StepView : Outcome S A → Type 0 where
    turned_away : eqb (early_refusal s.clock c) 0 ≡ false → StepView (refused (early_refusal s.clock c) s)
    refused_7 : eqb (early_refusal s.clock c) 0 ≡ true → out_of_slots c.clock c.op s ≡ true → StepView (refused 7 (merge_all s).state)
    passed : eqb (early_refusal s.clock c) 0 ≡ true → out_of_slots c.clock c.op s ≡ false → StepView accepted_outcome

  finish_accepts : finish c.clock c.op s (prepared c.clock c.op s) ≡ accepted_outcome
  unfolding finish accepted_outcome worked
  finish_accepts = rw (never_still_due c.clock (prepared c.clock c.op s))

  pub step_accepts : eqb (early_refusal s.clock c) 0 ≡ true → out_of_slots c.clock c.op s ≡ false → step s c ≡ accepted_outcome
  unfolding step
  step_accepts e f = rw (e, f) finish_accepts

  pub step_refuses : eqb (early_refusal s.clock c) 0 ≡ true → out_of_slots c.clock c.op s ≡ true → step s c ≡ refused 7 (merge_all s).state
  unfolding step
  step_refuses e f = rw (e, f)

  pub step_view : StepView (step s c)
  unfolding step
  step_view =
      cond_elim StepView (eqb (early_refusal s.clock c) 0) _ _
      (λ e. cond_elim StepView (out_of_slots c.clock c.op s) _ _ (refused_7 e) (λ f. rw finish_accepts (passed e f))) turned_away

  pub accepted_clock : accepted_outcome.state.clock ≡ c.clock
  unfolding accepted_outcome
  accepted_clock = refl

  -- An accepted call ends in its pass.
  pub record Accepted : Type 0 where
    pub admitted : eqb (early_refusal s.clock c) 0 ≡ true
    pub slot : out_of_slots c.clock c.op s ≡ false
    pub ends : step s c ≡ accepted_outcome

  pub accepted_ends : accepted s c ≡ true → Accepted
  unfolding accepted
  accepted_ends = go (step s c) refl step_view
    where
      go : (r : Outcome S A) → step s c ≡ r → StepView r → eqb r.answer.refusal 0 ≡ true → Accepted
      go r e (turned_away d) h = absurd (false≢true (sym d ∙ h))
      go r e (refused_7 d g) h = absurd (false≢true h)
      go r e (passed d g) h = record { admitted = d; slot = g; ends = e }
