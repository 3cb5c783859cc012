-- Ranges of two levels: which lower ones go, and which date and stamp the upper ones take.
use Rattle.std.specs.Prelude.{◌≡◌, Bool, true, cond, List, [], ◌∷◌, ◌++◌, map, ℕ, ◌+◌, max, eqb, length}
use Rattle.lists.specs.All.{All}
use Rattle.lists.specs.Lists.{any, select, reject}
use Rattle.model.specs.Merge.{release}
use Rattle.tables.specs.Sound.{chain_from}
use Rattle.tables.specs.Placed.{Cell, head}
use Rattle.tables.proofs.Cells.{cell_slots}
use Rattle.chain_cells.specs.Cells.{cell_before, cell_date, with_date, last_slot}
use Rattle.chain_cells.specs.Order.{CellsOrdered}
use Rattle.chain_cells.specs.Held.{Held}
use Rattle.chain_cells.specs.Sifting.{Chain, Sifting, sift_of, left_at}
use Rattle.chain_cells.specs.Splicing.{Chains, TwoHeld}
use Rattle.chain_cells.specs.declared.Cursor.{Cursor}
use Rattle.merge_unite.specs.declared.Progress.{Progress}

-- "of two with the same lo and hi": the same dockets.
abbrev pub same_span : Cell → Cell → Bool
same_span c d = eqb c.span d.span

abbrev pub doubled : List Cell → Cell → Bool
doubled upper c = any (λ d. same_span d c) upper

-- "Of two ranges with equal lo and hi the one left keeps the later s and the later stamp."
abbrev pub united_cell : Cell → Cell → Cell
united_cell c q = with_date (max (cell_date c) (cell_date q)) (max c.stamp q.stamp) c

-- An upper cell, seen beside the lower ones.
unfoldable pub later_cell : List Cell → Cell → Cell
later_cell [] c = c
later_cell (q ∷ qs) c = later_cell qs (cond (same_span q c) (united_cell c q) c)

pub record RangesHeld (g : Chains) (e : List ℕ) (upper lower : ℕ) : Type 0 where
  pub two : TwoHeld g e upper lower
  pub upper_ordered : CellsOrdered g.upper
  pub lower_ordered : CellsOrdered g.lower

pub record United (g : Chains) (e : List ℕ) (m : Cursor) : Type 0 where
  pub held : Held g.slots g.clock (release (cell_slots (select (doubled g.upper) g.lower)) g.free)
      (reject (doubled g.upper) g.lower ∷ map (later_cell g.lower) g.upper ∷ g.others) e
  pub head_is : m.head ≡ head (reject (doubled g.upper) g.lower)
  pub prior_is : m.prior ≡ last_slot (reject (doubled g.upper) g.lower)
  pub at_is : m.at ≡ 0
  pub counts : m.gone ≡ length (select (doubled g.upper) g.lower)

-- The lower ranges, beside the upper ones as they stand.
abbrev pub lower_chain : Chains → List Cell → Chain
lower_chain g upper = record { slots = g.slots; clock = g.clock; free = g.free; cells = g.lower; others = upper ∷ g.others }

-- Some upper ranges are passed, and come before every lower one that is left; those still ahead begin at m's `upper`.
-- The upper ranges have taken the dates and stamps of all lower ones but those that are left.
pub record Uniting (g : Chains) (e : List ℕ) (m : Progress) : Type 0 where
  pub upper : List Cell
  pub passed : List Cell
  pub ahead : List Cell
  pub left : List Cell
  pub sifting : Sifting (sift_of (doubled g.upper) (lower_chain g upper)) e m.cursor
  pub left_is : sifting.left ≡ left
  pub parts : upper ≡ passed ++ ahead
  pub upper_is : m.upper ≡ head ahead
  pub below : All (λ c. All (λ q. cell_before c q ≡ true) left) passed
  pub upper_ordered : CellsOrdered ahead
  pub lower_ordered : CellsOrdered left
  pub doubles : (q : Cell) → doubled upper q ≡ doubled g.upper q
  pub later : map (later_cell left) upper ≡ map (later_cell g.lower) g.upper

-- How many ranges have still to be passed.
abbrev pub to_see : List ℕ → Progress → ℕ
to_see e m = length (chain_from e m.upper) + left_at e m.cursor
