-- Which cells of a chain go, and what a test of slots is to be.
use Rattle.std.specs.Prelude.{◌≡◌, Bool, ◌&&◌, List, [], ◌∷◌, ℕ, eqb, Option, None, Some}
use Rattle.std.specs.Borrow.{Bor}
use Rattle.model.specs.Coverage.{covers}
use Rattle.tables.specs.Slots.{InTable}
use Rattle.tables.specs.Placed.{Cell}
use Rattle.chain_cells.specs.Cells.{cell_at, cell_lo, cell_hi}

-- The code asks a slot of a table: it may ask each, and is told what a test of cells says of the cell there.
pub record Decides (test : Cell → Bool) (asks : Bor (List ℕ) → ℕ → Type 0) (tells : Bor (List ℕ) → ℕ → Bool → Type 0) : Type 0 where
  pub may : (e : Bor (List ℕ)) (s : ℕ) → InTable e.now s → asks e s
  pub says : (e : Bor (List ℕ)) (s : ℕ) (r : Bool) → InTable e.now s → tells e s r → r ≡ test (cell_at e.now s)

-- The slot of the first of some cells.
abbrev pub first_of : List Cell → Option ℕ
first_of [] = None
first_of (c ∷ cs) = Some c.slot

-- The deletes among points, the point of a docket, the points that the delete from lo to hi with a date covers, the range from lo to hi.
abbrev pub is_delete : Cell → Bool
is_delete c = eqb c.kind 2

abbrev pub has_docket : ℕ → Cell → Bool
has_docket k c = eqb (cell_lo c) k

abbrev pub is_covered_by : ℕ → ℕ → ℕ → Cell → Bool
is_covered_by lo hi date c = covers lo hi date (cell_lo c) c.stamp

abbrev pub has_span : ℕ → ℕ → Cell → Bool
has_span lo hi c = eqb (cell_lo c) lo && eqb (cell_hi c) hi
