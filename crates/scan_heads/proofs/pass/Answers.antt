-- `scan_heads::pass`: the first record is in the table, and what comes behind it in order.
use Rattle.chain_cover.proofs.Chains.{go_on}
use Rattle.scan_heads.proofs.pass.Goals as goal

pub next_of-next-requires : goal.next_of-next-requires
next_of-next-requires c =
    (go_on _ _ c.requires.ordered c.requires.slot_nonzero).within

pub head-h-requires-clause-ordered : goal.head-h-requires-clause-ordered
head-h-requires-clause-ordered c =
    rw c.next_of-next.ensures (go_on _ _ c.requires.ordered c.requires.slot_nonzero).rest
