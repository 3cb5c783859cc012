-- `take_later`: of the dates and of the stamps that were read the later ones are written.
use Rattle.chain_links.specs.Links.{stamped}
use Rattle.chain_links.proofs.take_later.Goals as goal

pub returns : goal.returns
unfolding stamped
returns c = cc
