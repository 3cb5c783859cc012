-- Document 01, "The third demand": which put is erased, worked out from the settings and the list alone.
use Rattle.std.specs.Prelude.{◌≡◌, Bool, true, false, ◌&&◌, ◌||◌, List, ℕ, ◌-◌, ◌≤◌, ◌<◌, eqb, get_or, take, set}
use Rattle.model.specs.Records.{State}
use Rattle.model.specs.Coverage.{over, covers}
use Rattle.model.specs.Steps.{Write, put, delete, delete_range}
use Rattle.model.specs.Calls.{written, tick, Call, step, run}

module _ {A : Type 0} where
  -- The call at a place of the list; past its end, one that is always refused.
  abbrev pub call_at : List (Call A) → ℕ → Call A
  call_at cs i = get_or cs i (record { clock = 0; op = tick })

  -- The list whose put of docket k at place i carries the tally v.
  abbrev pub retally : ℕ → ℕ → A → List (Call A) → List (Call A)
  retally i k v cs = set cs i (record { clock = (call_at cs i).clock; op = written (put k v) })

  -- "an erased tally in the third demand is one that such a delete covered": the write at clock t covers the put of docket k at clock b. Only a date asks for b;
  -- "a range delete without a date has its own clock as s".
  abbrev pub erases : ℕ → Write A → ℕ → ℕ → Bool
  erases t (put n a) k b = false
  erases t (delete n) k b = over n n k
  erases t (delete_range lo hi date) k b = covers lo hi date k b || (eqb date t && over lo hi k)

module _ {S A : Type 0} where
  -- "Accepted is a call that meets no refusal."
  unfoldable pub accepted : State S A → Call A → Bool
  accepted s c = eqb (step s c).answer.refusal 0

  -- The state that the call at a place of the list meets.
  abbrev pub before : State S A → List (Call A) → ℕ → State S A
  before s cs j = run s (take j cs)

-- Demand 3's premises: in a list run from s, the put of docket k at place i, with the tally a, is covered by the delete at place j, which was accepted, and the term
-- has passed. Request S-4: "The erasure claim loses its condition about a flush."
pub record Erased {S A : Type 0} (s : State S A) (cs : List (Call A)) (i j k : ℕ) (a : A) : Type 0 where
  -- the put, accepted or refused
  pub is_put : (call_at cs i).op ≡ written (put k a)
  pub after : i < j
  pub write : Write A
  pub is_write : (call_at cs j).op ≡ written write
  -- "A delete covers the dockets from its lo to its hi."
  pub covers : erases (call_at cs j).clock write k (call_at cs i).clock ≡ true
  -- "Accepted is a call that meets no refusal."
  pub accept : accepted (before s cs j) (call_at cs j) ≡ true
  -- D ticks or more lie between the delete's clock and the last accepted one.
  pub term : s.settings.term ≤ (run s cs).clock - (call_at cs j).clock
