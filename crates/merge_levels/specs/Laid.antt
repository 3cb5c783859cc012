-- Two tables that hold the words of a state.
use Rattle.std.specs.Prelude.{◌≡◌, List, ℕ}
use Rattle.lists.specs.All.{Exists}
use Rattle.model.specs.declared.Tally.{Tally}
use Rattle.model.specs.Records.{State}
use Rattle.model.specs.Steps.{Work}
use Rattle.model.specs.Calls.{timed}
use Rattle.tables.specs.Placed.{all_chains, level_words, top_of}
use Rattle.tables.specs.Formed.{Formed}
use Rattle.tables.proofs.Cells.{Holds}

-- A state in a table of so many slots, in the middle of a call at a time that no stamp is after.
pub record Store : Type 0 where
  pub slots : ℕ
  pub time : ℕ
  pub state : State ℕ Tally

pub record Laid (g : Store) (e l : List ℕ) : Type 0 where
  pub formed : Formed g.slots (timed g.time g.state)
  pub entries : Holds g.slots (top_of g.state) (all_chains g.state) e
  pub levels : l ≡ level_words g.state

-- Two tables that hold some store; and at this time.
abbrev pub Stored : List ℕ → List ℕ → Type 0
Stored e l = Exists (λ g. Laid g e l)

abbrev pub StoredAt : List ℕ → List ℕ → ℕ → Type 0
StoredAt e l t = Exists (λ g. Laid g e l × (g.time ≡ t))

-- The same store in another state.
abbrev pub at_state : Store → State ℕ Tally → Store
at_state g p = record { slots = g.slots; time = g.time; state = p }

-- The tables hold what the work has led to, and its merges have been counted.
pub record Worked (g : Store) (w : Work ℕ Tally) (e l : List ℕ) (merges : ℕ) : Type 0 where
  pub laid : Laid (at_state g w.state) e l
  pub counts : merges ≡ w.merges
