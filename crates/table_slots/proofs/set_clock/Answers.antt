-- `set_clock`: one word written is slot 0 with another clock.
use Rattle.tables.proofs.Slots.{clock_written}
use Rattle.table_slots.proofs.set_clock.Goals as goal

pub returns : goal.returns
returns c =
    clock_written c.args.e.now 0 c.args.clock
