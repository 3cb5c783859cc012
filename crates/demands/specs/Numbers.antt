-- What a timed call counts and leaves, by the words of the two tables.
use Rattle.std.specs.Prelude.{◌≡◌, ◌≢◌, List, ℕ, suc, ◌+◌, ◌-◌, ◌<◌, ◌≤◌}
use Rattle.lists.specs.Lists.{iterate}
use Rattle.settings.specs.declared.Settings.{Settings}
use Rattle.settings.specs.Limits.{capacity, limit}
use Rattle.tables.specs.Rows.{settings_of, Row, level_row}

-- "Held is the number of records": what the rows of levels 0 to L say, added up.
unfoldable pub records_of : List ℕ → ℕ
records_of l = iterate (λ i sum. sum + (level_row l i).held) 0 (suc (settings_of l).deepest) 0

-- By its row level i is not due at clock t: the buffer has not "B records or more", another level not "more than its capacity", and where "owed is not 0" it is not
-- so that "clock − owed is at least its limit".
pub record Settled (s : Settings) (t i : ℕ) (r : Row) : Type 0 where
  pub in_buffer : i ≡ 0 → r.held < s.buffer
  pub in_capacity : 1 ≤ i → r.held ≤ capacity s i
  pub in_limit : r.owed ≢ 0 → t - r.owed < limit s i
