-- What a walk along a chain relies on.
use Rattle.std.specs.Prelude.{◌≡◌, true, List, [], ◌∷◌, ◌≢◌, ℕ}
use Rattle.tables.specs.Slots.{InTable, next_of}
use Rattle.tables.specs.Sound.{chain_from, ascend}

-- The slots from h on, each in the table, each but the last naming the next; "zero ends the chain".
abbrev pub Walkable : List ℕ → ℕ → List ℕ → Type 0
Walkable e h [] = h ≡ 0
Walkable e h (s ∷ ss) = (h ≡ s) × (s ≢ 0) × InTable e s × Walkable e (next_of e s) ss

-- The chain from h ends with a zero and ascends. It may be of points or of ranges: one key orders both.
pub record Ordered (e : List ℕ) (h : ℕ) : Type 0 where
  pub chained : Walkable e h (chain_from e h)
  pub order : ascend e 0 (chain_from e h) ≡ true
