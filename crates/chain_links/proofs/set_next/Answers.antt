-- `set_next`: the kind stays, and the next slot is the one given.
use native.Mathlib.Omega.{arith}
use Rattle.tables.proofs.Slots.{kind_small}
use Rattle.chain_links.specs.Links.{linked}
use Rattle.chain_links.proofs.set_next.Goals as goal

pub set_link-requires-clause-kind_bound : goal.set_link-requires-clause-kind_bound
set_link-requires-clause-kind_bound c =
    omega (arith, kind_small c.args.e.now (λ i. omega (arith, c.slice_known-1.given i)) c.args.slot)

pub returns : goal.returns
unfolding linked
returns c = cc
