-- How large the numbers of an answer are, on tables of any content.
use mathlib.Core.Path.{ap}
use mathlib.Core.Bool.{Bool, true, false, cond}
use Prim.Native.Nat.{ℕ, ◌+◌, ◌<◌, ◌≤◌}
use native.Mathlib.Omega.{arith}
use lib.Dec.{eqb}
use borrow.Author.Tests.{eqb-true}
use Rattle.lists.proofs.Bools.{cond_elim, by_cases}
use Rattle.settings.proofs.Allowed.{allowed_bounds}
use Rattle.model.specs.declared.Tally.{Tally}
use Rattle.model.specs.Records.{State}
use Rattle.model.specs.Steps.{crowded}
use Rattle.model.specs.Calls.{Op, written, flush, tick, Call, Answer, count_written, early_refusal, out_of_slots, refusing, step}
use Rattle.model.specs.Erasure.{accepted}
use Rattle.model.proofs.Slots.{Whole}
use Rattle.model.proofs.Numbers.{purged_sum, most_merges, merges_most}
use Rattle.model.proofs.Demands as model
use Rattle.model.proofs.StepView.{early_most}
use Rattle.tables.specs.Words.{Fits32}
use Rattle.tables.specs.Slots.{slots_of}
use Rattle.tables.specs.Sound.{table_refusal}
use Rattle.tables.specs.Placed.{read_state}
use Rattle.tables.specs.Formed.{Formed}
use Rattle.tables.proofs.FormedSound.{sound_words}
use Rattle.tables.proofs.Whole.{whole}
use Rattle.call_tables.specs.Calls.{Tables, Called, wrote, call_tables}
use Rattle.tables.proofs.Numbers.{tables_refuse_low}
use Rattle.call_tables.proofs.Refusals.{refused_exactly}

-- An operation writes one record at most.
pub written_most : (op : Op Tally) → count_written op ≤ 1
written_most (written v) = omega arith
written_most flush = omega arith
written_most tick = omega arith

module _ (w : Tables) (c : Call Tally) where
  abbrev p : State ℕ Tally
  p = read_state w.entries w.levels

  -- Refusals are 1 to 10.
  pub refusal_most : (call_tables w c).answer.refusal ≤ 10
  refusal_most =
      let t : ℕ = table_refusal w.entries w.levels in
      let low = tables_refuse_low w.entries w.levels in
      omega (arith, refused_exactly w c, go (eqb t 0) (eqb (early_refusal p.clock c) 0) (out_of_slots c.clock c.op p) t low)
    where
      go : (a b o : Bool) (t : ℕ) → t ≤ 3 → cond a (cond b (cond o 7 0) (early_refusal p.clock c)) t ≤ 10
      go true true true t h = omega arith
      go true true false t h = omega arith
      go true false o t h = omega (arith, early_most p.clock c)
      go false b o t h = omega arith

  most : (op : Op Tally) → p.settings.deepest ≤ 6 → most_merges c.clock op p ≤ 12
  most (written v) h = room (crowded c.clock v p)
    where
      room : (b : Bool) → cond b p.settings.deepest 0 + p.settings.deepest ≤ 12
      room true = omega arith
      room false = omega arith
  most flush h = omega arith
  most tick h = omega arith

  step_most : 0 < p.settings.deepest → p.settings.deepest ≤ 6 → (step p c).answer.merges ≤ 12
  step_most low high =
      by_cases (accepted p c) (λ a. omega (arith, merges_most p c low a, most c.op high))
      (λ a. omega (arith, ap (λ r. r.merges) (model.refused_answer p c a)))

  -- No more can be purged than n slots held and one written.
  step-purged : (n : ℕ) → Whole n p → (step p c).answer.purged ≤ n + 1
  step-purged n f =
      by_cases (accepted p c) (λ a. omega (arith, purged_sum n p c f a, f.all, written_most c.op))
      (λ a. omega (arith, ap (λ r. r.purged) (model.refused_answer p c a)))

  module _ (fits : Fits32 w.entries) where
    -- What holds of the step's answer in a formed state, and of every refusal, holds of the call's.
    answer_holds : (P : Answer → Type 0) → (Formed (slots_of w.entries) p → P (step p c).answer) → ((n : ℕ) → P (refusing n))
        → P (call_tables w c).answer
    unfolding call_tables
    answer_holds P stepped refused =
        let t : ℕ = table_refusal w.entries w.levels in
        cond_elim (λ (r : Called). P r.answer) (eqb t 0) (wrote (slots_of w.entries) (step p c)) (record { tables = w; answer = refusing t })
        (λ q. stepped (sound_words w.entries w.levels fits (eqb-true t 0 q)).formed) (λ q. refused t)

    -- A call counts at most L merges for room and L in its pass.
    pub merges_most_12 : (call_tables w c).answer.merges ≤ 12
    merges_most_12 =
        answer_holds (λ r. r.merges ≤ 12)
        (λ f. let b = allowed_bounds p.settings f.settings_ok in step_most (omega (arith, b.deepest_low)) b.deepest_high) (λ n. omega arith)

    pub purged_most : (call_tables w c).answer.purged ≤ 65536
    purged_most =
        answer_holds (λ r. r.purged ≤ 65536)
        (λ f. omega (arith, step-purged (slots_of w.entries) (whole (slots_of w.entries) p f), f.many)) (λ n. omega arith)
