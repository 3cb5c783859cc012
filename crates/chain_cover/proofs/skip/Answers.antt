-- `chain_cover::skip`: the bound is hi.
use borrow.Author.Rules.{rules}
use Rattle.tables.specs.Slots.{hi_of}
use Rattle.chain_cover.proofs.Skips.{computes}
use Rattle.chain_cover.proofs.skip.Goals as goal

pub pass-requires-clause-computes : goal.pass-requires-clause-computes
pass-requires-clause-computes c =
    record { value = hi_of; has = search (rules, computes) }

pub returns : goal.returns
returns c =
    c.pass.ensures hi_of (search (rules, computes))
