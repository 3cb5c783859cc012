-- `free_slots`: the loop keeps that the slots before `slot` are those of the made table.
use mathlib.Core.Path.{◌≡◌}
use Prim.Native.Nat.{◌+◌}
use native.Mathlib.Omega.{arith}
use Rattle.make_fresh.specs.Fresh.{made_entries}
use Rattle.make_fresh.proofs.Parts.{Agree, agree_none, agree_next}
use Rattle.make_fresh.proofs.Entries.{slot_parts, length-made_entries, made_entries_first, made_entries_slot, entries_made}
use Rattle.make_fresh.proofs.free_slots.Goals as goal
use Rattle.make_fresh.proofs.free_slots.Goals.{After-free_slot}

pub loop-slot-init : goal.loop-slot-init
loop-slot-init c =
    let n = c.args.slots in
    let e = c.args.entries.now in
    let none = agree_none slot_parts (made_entries n) e (omega (arith, length-made_entries n)) in
    record { upto = omega arith; slots = rw c.set_top.ensures (agree_next slot_parts (made_entries n) e 0 _ none (omega arith) (made_entries_first n)) }

-- The slots up to this one are those of the made table.
next : (c : After-free_slot) → Agree slot_parts (made_entries c.args.slots) (c.loop-slot.slot + 1) c.free_slot.new.entries
next c =
    let n = c.args.slots in
    let now = c.loop-slot in
    let before = now.invariant.slots in
    let is = made_entries_slot n now.slot (omega arith) (omega arith) in
    rw c.free_slot.ensures
    (agree_next slot_parts (made_entries n) now.entries now.slot _ before (omega (arith, before.size, length-made_entries n)) is)

pub loop-slot-preserved : goal.loop-slot-preserved
loop-slot-preserved c =
    record { upto = omega arith; slots = next (goal.at.loop-slot-preserved c).After-free_slot }

-- No slot stands in the table.
pub returns : goal.returns
returns c =
    let all : c.loop-slot.slot ≡ c.args.slots + 1 = omega arith in
    entries_made c.args.slots _ (rw all at c.loop-slot.invariant.slots)

pub returns-2 : goal.returns-2
returns-2 c =
    let all : c.loop-slot.slot ≡ c.args.slots = omega arith in
    entries_made c.args.slots _ (rw all at (next (goal.at.returns-2 c).After-free_slot))
