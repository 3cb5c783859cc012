-- `scan_heads::key_at`: a chain that is not empty begins with its first slot.
use Rattle.chain_cover.proofs.Chains.{go_on}
use Rattle.scan_heads.proofs.key_at.Goals as goal

pub lo_of-requires : goal.lo_of-requires
lo_of-requires c =
    (go_on _ _ c.requires c.if-slot-eq0.false).within
