-- The code's store as the definitions' memory.
use Rattle.script_prints.specs.declared.Printed.{Printed}
use Rattle.script_prints.specs.Texts.{numbers_of}
use Rattle.script_store.specs.declared.Store.{Store}
use Rattle.script_store.specs.Memory.{Memory, Stepped}
use Rattle.script_store.specs.Coded.{memory}

abbrev pub memory_of : Store → Memory
memory_of s = memory s.entries s.levels s.size.slots s.size.deepest

-- The store after a line, and the numbers that the line prints.
abbrev pub stepped_to : Store → Printed → Stepped
stepped_to s printed = record { memory = memory_of s; printed = numbers_of printed }
