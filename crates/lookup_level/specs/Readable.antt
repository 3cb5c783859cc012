-- What a lookup relies on in the two tables; sound tables have it.
use Rattle.std.specs.Prelude.{◌≡◌, List, ℕ, ◌≤◌, length}
use Rattle.tables.specs.Slots.{entry_length}
use Rattle.tables.specs.Rows.{level_length, settings_of, level_row}
use Rattle.chain_cover.specs.Walks.{Ordered}

pub record Readable (e l : List ℕ) : Type 0 where
  pub size : length e ≤ entry_length 65535
  pub rows : length l ≡ level_length (settings_of l).deepest
  pub deep : 2 ≤ (settings_of l).deepest
  pub shallow : (settings_of l).deepest ≤ 6
  pub points : (i : ℕ) → i ≤ (settings_of l).deepest → Ordered e (level_row l i).points
  pub ranges : (i : ℕ) → i ≤ (settings_of l).deepest → Ordered e (level_row l i).ranges
