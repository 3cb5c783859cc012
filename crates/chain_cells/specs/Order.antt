-- Cells in ascending order, each with dockets that two halves of a word can hold.
use Rattle.std.specs.Prelude.{List, ◌≤◌}
use Rattle.lists.specs.All.{All, Ascending}
use Rattle.tables.specs.Placed.{Cell}
use Rattle.chain_cells.specs.Cells.{cell_hi, cell_before}

pub record CellsOrdered (cs : List Cell) : Type 0 where
  pub ascend : Ascending cell_before cs
  pub fit : All (λ c. cell_hi c ≤ 65535) cs
