-- What a test of slots has to show to decide as a test of cells does.
use mathlib.Core.Path.{◌≡◌}
use mathlib.Core.Bool.{Bool}
use mathlib.Core.List.{List}
use Prim.Native.Nat.{ℕ}
use Rattle.std.specs.Borrow.{Bor}
use Rattle.tables.specs.Slots.{InTable}
use Rattle.tables.specs.Placed.{Cell}
use Rattle.chain_cells.specs.Cells.{cell_at}
use Rattle.chain_sieve.specs.Doomed.{Decides}

pub decides : {test : Cell → Bool} {asks : Bor (List ℕ) → ℕ → Type 0} {tells : Bor (List ℕ) → ℕ → Bool → Type 0}
    → ((e : Bor (List ℕ)) (s : ℕ) → InTable e.now s → asks e s)
    → ((e : Bor (List ℕ)) (s : ℕ) (r : Bool) → InTable e.now s → tells e s r → r ≡ test (cell_at e.now s))
    → Decides test asks tells
decides may says = record { may = may; says = says }
