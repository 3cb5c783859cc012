-- `set_tally`: three words written are a slot with another tally and stamp.
use Rattle.tables.proofs.Slots.{tally_written}
use Rattle.table_slots.proofs.set_tally.Goals as goal

pub returns : goal.returns
returns c =
    tally_written c.args.e.now c.args.slot _ _
