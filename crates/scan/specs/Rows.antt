-- A live docket's row, and what the grower is shown of it.
use Rattle.std.specs.Prelude.{List, ℕ}
use Rattle.model.specs.declared.Tally.{Tally}
use Rattle.model.specs.Lookup as model
use Rattle.tables.specs.Slots.{tally_of, stamp_of}
use Rattle.scan_step.specs.declared.Live.{Live}
use Rattle.scan.specs.declared.CountRow.{CountRow}
use Rattle.scan.specs.Scan.{written, without_price}

-- The row of a live docket whose put is in a slot.
abbrev pub row_in : List ℕ → Live → model.Row Tally
row_in e live = record { key = live.docket; tally = tally_of e live.slot; stamp = stamp_of e live.slot }

-- The grower's, from the hall's reading of it.
abbrev pub counted : model.Row Tally → CountRow
counted r = without_price (written r)
