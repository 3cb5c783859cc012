-- A range delete's record beside a range of the same dockets.
use Rattle.std.specs.Prelude.{List, [], ◌∷◌, ℕ, max}
use Rattle.lists.specs.Lists.{select}
use Rattle.model.specs.declared.Tally.{Tally}
use Rattle.tables.specs.Placed.{Cell}
use Rattle.chain_cells.specs.Cells.{cell_date}
use Rattle.chain_sieve.specs.Doomed.{has_span}
use Rattle.write_record.specs.declared.Record.{Record}

-- The date of the first of some ranges, 0 where there is none.
abbrev pub first_date : List Cell → ℕ
first_date [] = 0
first_date (c ∷ cs) = cell_date c

-- Words 2 and 4 with the later of two dates.
abbrev pub later_date : ℕ → Tally → Tally
later_date date a = record { count = max a.count date; price = a.price }

-- "Of two ranges with equal lo and hi the one left keeps the later s": the record, where these cells are the ranges of the buffer.
abbrev pub united : List Cell → Record → Record
united cs w =
    let alike = select (has_span w.lo w.hi) cs in
    record { kind = w.kind; lo = w.lo; hi = w.hi; tally = later_date (first_date alike) w.tally }
