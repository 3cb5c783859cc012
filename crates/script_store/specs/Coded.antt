-- The code's room and what it prints as the definitions'.
use Rattle.std.specs.Prelude.{◌≡◌, List, ℕ, length, Result}
use Rattle.refusals.specs.declared.Refusal.{Refusal}
use Rattle.model.specs.declared.Tally.{Tally}
use Rattle.lookup.specs.Lookup as lookup
use Rattle.lookup.specs.Lookup.{numbers}
use Rattle.call_end.specs.declared.Answer.{Answer}
use Rattle.call_end.specs.Coded.{answer_of}
use Rattle.script_prints.specs.declared.Printed.{Printed}
use Rattle.script_prints.specs.declared.Printed.TheVariants.{Three, Four}
use Rattle.script_store.specs.Memory.{Memory}

-- Room for 3,275 slots and 6 levels.
pub record Room (e l : List ℕ) : Type 0 where
  pub entry_room : length e ≡ 16380
  pub level_room : length l ≡ 32

abbrev pub memory : List ℕ → List ℕ → ℕ → ℕ → Memory
memory e l slots deepest = record { entries = e; levels = l; slots = slots; deepest = deepest }

-- A number with two zeros.
abbrev pub answering : ℕ → Printed
answering n = Three n 0 0

-- What a timed call answers.
abbrev pub counting : Result Answer Refusal → Printed
counting r = let a = answer_of r in Three a.refusal a.merges a.purged

-- What a lookup answers.
abbrev pub finding : lookup.Answer Tally → Printed
finding a = let n = numbers a in Four n.refusal n.found n.count n.price
