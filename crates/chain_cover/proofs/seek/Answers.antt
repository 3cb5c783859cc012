-- `chain_cover::seek`: the bound is lo.
use borrow.Author.Rules.{rules}
use Rattle.tables.specs.Slots.{lo_of}
use Rattle.chain_cover.proofs.Skips.{computes}
use Rattle.chain_cover.proofs.seek.Goals as goal

pub pass-requires-clause-computes : goal.pass-requires-clause-computes
pass-requires-clause-computes c =
    record { value = lo_of; has = search (rules, computes) }

pub returns : goal.returns
returns c =
    c.pass.ensures lo_of (search (rules, computes))
