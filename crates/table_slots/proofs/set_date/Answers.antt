-- `set_date`: two words written are a slot with another date and stamp.
use Rattle.tables.proofs.Slots.{date_written}
use Rattle.table_slots.proofs.set_date.Goals as goal

pub returns : goal.returns
returns c =
    date_written c.args.e.now c.args.slot _ _
