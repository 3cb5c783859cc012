-- `set_link`: one word written is a slot with another link.
use Rattle.tables.proofs.Slots.{link_written}
use Rattle.table_slots.proofs.set_link.Goals as goal

pub returns : goal.returns
returns c =
    link_written c.args.e.now c.args.slot _
