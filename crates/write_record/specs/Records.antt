-- What a write puts into its slot, and which points it makes go.
use Rattle.std.specs.Prelude.{Bool, cond, ℕ, ◌+◌, ◌*◌, eqb}
use Rattle.model.specs.declared.Tally.{Tally}
use Rattle.model.specs.Steps.{Write, put, delete, delete_range}
use Rattle.tables.specs.Slots.{no_tally, dated}
use Rattle.tables.specs.Placed.{Cell}
use Rattle.table_slots.specs.Kinds.{kind_number}
use Rattle.table_slots.specs.declared.Kind.TheVariants.{Put, Delete, Range}
use Rattle.chain_sieve.specs.Doomed.{has_docket, is_covered_by}
use Rattle.write_record.specs.declared.Record.{Record}

-- "Kinds: … 1 put, 2 delete, 3 range delete", "lo = hi for kinds 1 and 2", "the tally; 0 for" kind 2, "Word 2 of kind 3 now holds s".
abbrev pub record_of : Write Tally → Record
record_of (put k a) = record { kind = Put; lo = k; hi = k; tally = a }
record_of (delete k) = record { kind = Delete; lo = k; hi = k; tally = no_tally }
record_of (delete_range lo hi date) = record { kind = Range; lo = lo; hi = hi; tally = dated date }

abbrev pub record_cell : ℕ → ℕ → Record → Cell
record_cell x t w = record { slot = x; kind = kind_number w.kind; span = w.lo + 65536 * w.hi; tally = w.tally; stamp = t }

-- "A point … goes if i has a point of that docket or a range over it", which covers by stamp too: the cells of points that go by a record.
abbrev pub displaces_as : ℕ → Record → Cell → Bool
displaces_as kind w c = cond (eqb kind 3) (is_covered_by w.lo w.hi w.tally.count c) (has_docket w.lo c)

abbrev pub displaces : Record → Cell → Bool
displaces w = displaces_as (kind_number w.kind) w
