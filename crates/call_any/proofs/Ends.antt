-- A call's end, whichever its operation: turned away, out of slots, or done once its pass is.
use mathlib.Core.Path.{◌≡◌, refl, sym, ap, ◌∙◌}
use mathlib.Core.Bool.{Bool, true, false, cond}
use mathlib.Core.List.{List}
use Prim.Native.Nat.{ℕ, ◌+◌, ◌-◌, ◌≤◌}
use native.Mathlib.Omega.{arith}
use Rattle.settings.proofs.Allowed.{allowed_bounds}
use Rattle.model.specs.declared.Tally.{Tally}
use Rattle.model.specs.Records.{State, held_all}
use Rattle.model.specs.Steps.{Work, begin, merge_all, crowded, make_room, write, pass}
use Rattle.model.specs.Calls.{Op, written, flush, tick, Call, count_written, timed, prepared, step}
use Rattle.model.proofs.StepView.{let_in, worked, accepted_outcome, step_accepts, step_refuses}
use Rattle.model.proofs.Numbers.{held_most, merge_level-merges, merge_all-merges}
use Rattle.model.proofs.Counted.{add, pass_after}
use Rattle.tables.specs.Slots.{slots_of}
use Rattle.tables.specs.Placed.{read_state}
use Rattle.call_tables.specs.Calls.{wrote, lent, call_tables}
use Rattle.merge_levels.specs.Laid.{at_state}
use Rattle.call_refusal.specs.Began.{Began, store}
use Rattle.call_refusal.proofs.Begun.{Asked, begun_formed, begun_time, turned_away}
use Rattle.call_end.specs.declared.Answer.{Answer}
use Rattle.call_end.specs.Coded.{called}
use Rattle.call_end.specs.Ending.{Ending, Ended}
use Rattle.tables.proofs.Whole.{whole}
use Rattle.call_prepare.specs.Writing.{Done, OutOfSlots}
use Rattle.std.proofs.Common.{Ok, Err}
use Rattle.refusals.specs.declared.Refusal.{Refusal}
use Rattle.refusals.specs.Numbers.{number_of}
use Rattle.refusals.proofs.Numbers.{number_nonzero}

-- A call that is turned away by the number that the code found.
pub away : {e l : List ℕ} {t : ℕ} {op : Op Tally} {n : ℕ} → Asked e l t op n → (r : Refusal) → number_of r ≡ n
    → called e l (Err r) ≡ call_tables (lent e l) (record { clock = t; op = op })
away asked r q = rw q (sym (turned_away asked (λ z. number_nonzero r (q ∙ z))))

module _ {e l : List ℕ} {t : ℕ} {op : Op Tally} (b : Began e l t op) where
  abbrev p : State ℕ Tally
  p = read_state e l

  abbrev c : Call Tally
  c = record { clock = t; op = op }

  -- What the operation has done when its pass begins, and what the pass leaves.
  abbrev work : Work ℕ Tally
  work = prepared t op p

  abbrev after : Work ℕ Tally
  after = pass t (begin work.state)

  -- On sound tables the call is a step of what they read as.
  call_steps : call_tables (lent e l) c ≡ wrote (slots_of e) (step p c)
  unfolding call_tables
  call_steps = rw b.sound

  worked_is : worked p c ≡ add work.merges after
  unfolding worked
  worked_is = pass_after t work

  enough : held_all after.state.levels ≤ held_all p.levels + count_written op
  enough = rw worked_is at (held_most (slots_of e) p c (whole (slots_of e) p (begun_formed b)))

  -- What the step of an accepted call comes to.
  accepted_is : accepted_outcome p c ≡ record {
    state = timed t after.state;
    answer = record { refusal = 0; merges = work.merges + after.merges; purged = held_all p.levels + count_written op - held_all after.state.levels };
  }
  unfolding accepted_outcome
  accepted_is = rw worked_is

  -- The merges before the pass are few.
  few : work.merges ≤ 6
  unfolding prepared write make_room
  few = go op
    where
      shallow : p.settings.deepest ≤ 6
      shallow = (allowed_bounds p.settings (begun_formed b).settings_ok).deepest_high

      room : (r : Bool) → (cond r (merge_all p) (begin p)).merges ≤ 6
      room true = omega (arith, shallow, merge_all-merges p)
      room false = omega arith

      go : (o : Op Tally) → (prepared t o p).merges ≤ 6
      go (written v) = room (crowded t v p)
      go flush = omega (arith, merge_level-merges 0 (begin p))
      go tick = omega arith

  -- A put that finds no slot: the tables stay merged, the clock as it was.
  pub full : {e' l' : List ℕ} (r : Refusal) → OutOfSlots e l t op e' l' r → called e' l' (Err r) ≡ call_tables (lent e l) c
  full r d =
      rw (d.merged.0, d.merged.1, d.full)
      (sym (call_steps ∙ ap (wrote (slots_of e)) (step_refuses p c (let_in p.clock c b.dockets (begun_time b) b.dated) d.no_slot)))

  -- The tables e' and l', once the call has done its work.
  module _ {e' l' : List ℕ} {merges : ℕ} (d : Done e l t op e' l' merges) {before : ℕ} (adds : before ≡ held_all p.levels + count_written op) where
    pub ending : Ending (at_state (store e l t) work.state) e' l' t before merges
    ending = record { laid = d.works.laid; time_is = refl; few = rw d.works.counts few; enough = rw adds enough }

    pub ends : {e'' l'' : List ℕ} {a : Answer} → Ended (at_state (store e l t) work.state) t before merges e'' l'' a
        → called e'' l'' (Ok a) ≡ call_tables (lent e l) c
    ends f =
        rw (f.entries, f.levels, f.answer, d.works.counts, adds)
        (sym (call_steps ∙ ap (wrote (slots_of e)) (step_accepts p c (let_in p.clock c b.dockets (begun_time b) b.dated) d.slot ∙ accepted_is)))
