-- The docket's point is found, and its tally and stamp are changed; a docket without a point changes nothing.
use borrow.Author.Rules.{rules}
use Rattle.chain_sieve.specs.Doomed.{has_docket}
use Rattle.chain_sieve.proofs.Decisions.{decides}
use Rattle.write_act.proofs.Overwrites.{points_chain, search_asked, kept, slot_in_table, changed}
use Rattle.write_act.proofs.overwrite.Goals as goal

pub first_doomed-requires : goal.first_doomed-requires
first_doomed-requires c = record {
  held = record { value = points_chain c.requires.value; has = search_asked c.requires.has };
  decides = record { value = has_docket c.args.docket; has = search (rules, decides) };
}

pub returns-in_default : goal.returns-in_default
returns-in_default c =
    λ g h. let k = c.args.docket in
    kept h k (c.first_doomed.ensures _ (has_docket k) (search (rules, decides)) (search_asked h)) c.in_default.is c.args.tally c.args.clock

pub set_tally-requires : goal.set_tally-requires
set_tally-requires c =
    let h = c.requires.has in
    let k = c.args.docket in
    slot_in_table h k (c.first_doomed.ensures _ (has_docket k) (search (rules, decides)) (search_asked h)) c.in-Some.is

pub returns : goal.returns
returns c =
    λ g h. let k = c.args.docket in
    rw c.set_tally.ensures
    (changed h k (c.first_doomed.ensures _ (has_docket k) (search (rules, decides)) (search_asked h)) c.in-Some.is c.args.tally c.args.clock)
