-- A level's row as the code reads and writes it, and a level table that tells the records of a state.
use Rattle.std.specs.Prelude.{◌≡◌, List, ℕ, suc, ◌≤◌, length}
use Rattle.model.specs.declared.Tally.{Tally}
use Rattle.model.specs.Records.{State, held_all}
use Rattle.tables.specs.Rows.{Row, level_row}
use Rattle.tables.specs.Placed.{level_words}
use Rattle.table_levels.specs.declared.Level.{Level}

abbrev pub level_from : Row → Level
level_from r = record { points = r.points; ranges = r.ranges; held = r.held; owed = r.owed }

abbrev pub level_at : List ℕ → ℕ → Level
level_at l i = level_from (level_row l i)

abbrev pub row_at : Level → Row
row_at v = record { points = v.points; ranges = v.ranges; held = v.held; owed = v.owed }

-- The level table of a state whose records the slots can hold.
pub record RowsAre (p : State ℕ Tally) (l : List ℕ) : Type 0 where
  pub levels : l ≡ level_words p
  pub size : length p.levels ≡ suc p.settings.deepest
  pub few : held_all p.levels ≤ 65535
