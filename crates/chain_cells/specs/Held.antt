-- A table of n slots that holds a free chain and other chains, each slot once.
use Rattle.std.specs.Prelude.{List, ◌∷◌, map, ℕ, ◌≤◌}
use Rattle.tables.specs.Slots.{Slot, top_slot}
use Rattle.tables.specs.Placed.{Cell, free_cell, head}
use Rattle.tables.proofs.Cells.{chain_slots, Holds}
use Rattle.tables.proofs.Once.{OnceFacts}

-- Slot 0: the first free slot, and the last clock.
abbrev pub top : List ℕ → ℕ → Slot
top free clock = top_slot (head (map free_cell free)) clock

pub record Held (n clock : ℕ) (free : List ℕ) (chains : List (List Cell)) (e : List ℕ) : Type 0 where
  pub small : n ≤ 65535
  pub holds : Holds n (top free clock) (map free_cell free ∷ chains) e
  pub once : OnceFacts n (chain_slots (map free_cell free ∷ chains))
