-- Document 01, "What the tables hold": kinds as the upper half of a slot's first word has them.
use Rattle.std.specs.Prelude.{ℕ}
use Rattle.table_slots.specs.declared.Kind.{Kind}
use Rattle.table_slots.specs.declared.Kind.TheVariants.{Free, Put, Delete, Range}

-- "0 free, 1 put, 2 delete, 3 range delete".
abbrev pub kind_number : Kind → ℕ
kind_number Free = 0
kind_number Put = 1
kind_number Delete = 2
kind_number Range = 3
