-- Demand 2 in its own words: the put that a lookup finds is the last of its docket that was accepted, and no delete that covers it was accepted after it.
use Rattle.std.specs.Prelude.{◌≡◌, Bool, false, List, ℕ, ◌<◌, eqb, get_or}
use Rattle.model.specs.declared.Tally.{Tally}
use Rattle.model.specs.Coverage.{over, covers}
use Rattle.model.specs.Steps.{put, delete, delete_range}
use Rattle.model.specs.Calls.{Op, written, flush, tick, Call}
use Rattle.model.specs.Erasure.{call_at}

-- The call puts docket k, or deletes what was put there at clock t: "The map removes a docket in the range when its current stamp is at most s".
abbrev pub overrides : Op Tally → ℕ → ℕ → Bool
overrides (written (put n a)) k t = eqb n k
overrides (written (delete n)) k t = over n n k
overrides (written (delete_range lo hi date)) k t = covers lo hi date k t
overrides flush k t = false
overrides tick k t = false

-- The refusal that the call at a place met; past the list's end 5, as the call there has clock 0.
abbrev pub refusal_at : List ℕ → ℕ → ℕ
refusal_at rs i = get_or rs i 5

-- Some call of the list cs, whose calls met the refusals rs, was a put of docket k with tally a at clock t, answered 0, and no later call that was answered 0
-- puts the docket or covers that put.
pub record LastPut (rs : List ℕ) (cs : List (Call Tally)) (k : ℕ) (a : Tally) (t : ℕ) : Type 0 where
  pub place : ℕ
  pub is_put : call_at cs place ≡ record { clock = t; op = written (put k a) }
  pub accepted : refusal_at rs place ≡ 0
  pub last : (j : ℕ) → place < j → refusal_at rs j ≡ 0 → overrides (call_at cs j).op k t ≡ false
