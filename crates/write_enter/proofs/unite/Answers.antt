-- The range of the same dockets is searched for, and the later of the two dates is kept.
use borrow.Author.Rules.{rules}
use Rattle.chain_sieve.specs.Doomed.{has_span}
use Rattle.chain_sieve.proofs.Decisions.{decides}
use Rattle.write_enter.proofs.Unites.{alike_in_table, alike_later}
use Rattle.write_enter.proofs.unite.Goals as goal

pub first_doomed-requires : goal.first_doomed-requires
first_doomed-requires c =
    record { held = c.requires; decides = record { value = has_span c.args.w.lo c.args.w.hi; has = search (rules, decides) } }

pub date_of-requires : goal.date_of-requires
date_of-requires c =
    let w = c.args.w in
    let h = c.requires.has in
    alike_in_table h w (c.first_doomed.ensures _ (has_span w.lo w.hi) (search (rules, decides)) h) c.in-Some.is

pub returns : goal.returns
returns c =
    λ g h.
    let w = c.args.w in
    let found = c.first_doomed.ensures _ (has_span w.lo w.hi) (search (rules, decides)) h in
    alike_later h w found c.in-Some.is c.date_of.ensures c.max-count.ensures
