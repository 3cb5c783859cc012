-- `chain_cover::covers`: the three tests tell it.
use Rattle.chain_cover.proofs.Walks.{covers_tests}
use Rattle.chain_cover.proofs.covers.Goals as goal

pub returns : goal.returns
returns c =
    covers_tests _ _ _ _ _
