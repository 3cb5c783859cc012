use Prim.Native.Nat.{◌+◌, ◌≤◌}
use Rattle.make_fresh.specs.Fresh.{made_entries}
use Rattle.make_fresh.proofs.Parts.{Agree}
use Rattle.make_fresh.proofs.Entries.{slot_parts}
use Rattle.make_fresh.proofs.free_slots.Given as goal

abbrev pub invariant-loop-slot : goal.invariant-loop-slot
invariant-loop-slot l =
    record { upto : l.slot ≤ l.slots + 1; slots : Agree slot_parts (made_entries l.slots) l.slot l.entries }
