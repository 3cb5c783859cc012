-- Two chains on the way to one.
use Rattle.std.specs.Prelude.{◌≡◌, List, ◌∷◌, ◌++◌, ℕ, ◌+◌, length}
use Rattle.lists.specs.Lists.{merge}
use Rattle.tables.specs.Sound.{chain_from}
use Rattle.tables.specs.Placed.{Cell, head}
use Rattle.chain_cells.specs.Cells.{cell_before, last_slot}
use Rattle.chain_cells.specs.Held.{Held}
use Rattle.chain_cells.specs.declared.Pair.{Pair}

-- Two chains and all that is beside them.
pub record Chains : Type 0 where
  pub slots : ℕ
  pub clock : ℕ
  pub free : List ℕ
  pub upper : List Cell
  pub lower : List Cell
  pub others : List (List Cell)

pub record TwoHeld (g : Chains) (e : List ℕ) (upper lower : ℕ) : Type 0 where
  pub held : Held g.slots g.clock g.free (g.lower ∷ g.upper ∷ g.others) e
  pub upper_is : upper ≡ head g.upper
  pub lower_is : lower ≡ head g.lower

pub record Spliced (g : Chains) (e : List ℕ) (first : ℕ) : Type 0 where
  pub held : Held g.slots g.clock g.free (merge cell_before g.upper g.lower ∷ g.others) e
  pub head_is : first ≡ head (merge cell_before g.upper g.lower)

-- What the two are to become, and all that must not be touched.
pub record Splice : Type 0 where
  pub slots : ℕ
  pub clock : ℕ
  pub free : List ℕ
  pub whole : List Cell
  pub others : List (List Cell)

-- A splice with these upper cells, these passed or placed, and these left of the lower chain.
pub record SpliceAt (g : Splice) (e : List ℕ) (m : Pair) (upper done left : List Cell) : Type 0 where
  pub held : Held g.slots g.clock g.free ((done ++ left) ∷ upper ∷ g.others) e
  pub upper_is : m.upper ≡ head upper
  pub head_is : m.head ≡ head (done ++ left)
  pub prior_is : m.prior ≡ last_slot done
  pub at_is : m.at ≡ head left
  pub merges : done ++ merge cell_before upper left ≡ g.whole

pub record Splicing (g : Splice) (e : List ℕ) (m : Pair) : Type 0 where
  pub upper : List Cell
  pub done : List Cell
  pub left : List Cell
  pub here : SpliceAt g e m upper done left

-- How many cells have still to be passed or placed.
abbrev pub to_do : List ℕ → Pair → ℕ
to_do e m = length (chain_from e m.upper) + length (chain_from e m.at)
