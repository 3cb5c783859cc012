-- Whether a level is due, by its row.
use Rattle.std.specs.Prelude.{Bool, ◌||◌, ℕ}
use Rattle.settings.specs.declared.Settings.{Settings}
use Rattle.model.specs.Steps.{overfull, overdue}
use Rattle.tables.specs.Rows.{Row}

abbrev pub due_row : Settings → ℕ → ℕ → Row → Bool
due_row settings t i r = overfull settings i r.held || overdue settings t i r.owed
