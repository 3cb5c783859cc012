-- Request S-5 on the two tables: "the clock of the next due merge", refused 1, 2 and 3 in this order.
use Rattle.std.specs.Prelude.{cond, List, ℕ, eqb, Option, Result, Ok, Err}
use Rattle.model_wake.specs.Wake.{next_wake}
use Rattle.tables.specs.Rows.{settings_of, level_row}
use Rattle.tables.specs.Sound.{table_refusal}

-- What level i owes, by its row.
abbrev pub owed_of : List ℕ → ℕ → ℕ
owed_of l i = (level_row l i).owed

-- Refused as the check; else the clock or 'none' by the settings and by what the levels owe.
unfoldable pub wake_tables : List ℕ → List ℕ → Result (Option ℕ) ℕ
wake_tables e l = cond (eqb (table_refusal e l) 0) (Ok (next_wake (settings_of l) (owed_of l))) (Err (table_refusal e l))
