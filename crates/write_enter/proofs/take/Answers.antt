-- The first free slot leaves the free chain and takes the record.
use mathlib.Core.Path.{ap}
use native.Mathlib.Omega.{arith}
use lib.ListN.{length}
use Rattle.tables.specs.Slots.{slot_at, with_link}
use Rattle.tables.proofs.Slots.{length-set_slot}
use Rattle.write_enter.proofs.Takes.{kind_fits, first_slot, first_in_table, take_ends}
use Rattle.write_enter.proofs.take.Goals as goal

pub next_of-requires : goal.next_of-requires
next_of-requires c =
    omega (arith, c.first_free-slot.ensures, first_slot c.requires.has, first_in_table c.requires.has)

pub set_record-requires : goal.set_record-requires
set_record-requires c =
    let h = c.requires.has in
    let e = c.args.e.now in
    let same = length-set_slot e 0 (with_link c.next_of.result (slot_at e 0)) in
    record {
      in_table = omega (arith, c.first_free-slot.ensures, first_slot h, first_in_table h, ap length c.set_first_free.ensures, same);
      kind_bound = omega (arith, c.number_of.ensures, kind_fits c.args.w.kind);
      lo_bound = (omega (arith, h.lo_fits), omega (arith, h.hi_fits));
    }

pub returns : goal.returns
returns c =
    λ g h. take_ends h c.args.clock c.first_free-slot.ensures c.next_of.ensures c.number_of.ensures
    (rw c.set_first_free.ensures at c.set_record.ensures)
