-- `chain_cover::front_at`: where the chain has a record, the other place is the next slot.
use Rattle.chain_cover.proofs.Fronts.{front_at_none, front_at_some}
use Rattle.chain_cover.proofs.front_at.Goals as goal

pub returns-then-head-eq0 : goal.returns-then-head-eq0
returns-then-head-eq0 c =
    front_at_none _ _ c.if-head-eq0.true

pub returns-else-head-eq0 : goal.returns-else-head-eq0
returns-else-head-eq0 c =
    front_at_some _ _ _ c.if-head-eq0.false c.next_of-behind.ensures
