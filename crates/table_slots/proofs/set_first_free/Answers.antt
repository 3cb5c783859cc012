-- `set_first_free`: one word written is slot 0 with another link.
use Rattle.tables.proofs.Slots.{link_written}
use Rattle.table_slots.proofs.set_first_free.Goals as goal

pub returns : goal.returns
returns c =
    link_written c.args.e.now 0 c.args.first
