-- `release`: the slot is wiped and linked to the first free one, and then is the first itself.
use native.Mathlib.Omega.{arith}
use Rattle.tables.proofs.Slots.{link_small}
use Rattle.chain_links.specs.Links.{released}
use Rattle.chain_links.proofs.release.Goals as goal

pub set_free-requires-clause-next_bound : goal.set_free-requires-clause-next_bound
set_free-requires-clause-next_bound c =
    omega (arith, link_small c.args.e.now (λ i. omega (arith, c.slice_known-1.given i)) 0)

pub returns : goal.returns
unfolding released
returns c = cc
