-- `table_slots::entries_fit`: the tests of the definition, of the slots that were counted.
use Rattle.tables.specs.Sound.{entries_fit}
use Rattle.table_slots.proofs.entries_fit.Goals as goal

pub returns : goal.returns
unfolding entries_fit
returns c =
    rw c.slot_count-n.ensures
