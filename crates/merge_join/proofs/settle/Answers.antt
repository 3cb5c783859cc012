-- `merge_join::settle`: whatever level the table held, its deletes among the points go, then all its ranges, and the settled level is left.
use mathlib.Core.Bool.{true}
use native.Mathlib.Omega.{arith}
use borrow.Author.Rules.{rules}
use Rattle.chain_sieve.specs.Doomed.{is_delete}
use Rattle.chain_sieve.proofs.Decisions.{decides}
use Rattle.merge_join.proofs.Settling.{point_chain, range_chain, sieve_points_asks, sieve_ranges_asks, held_rest, settle_leaves}
use Rattle.merge_join.proofs.settle.Goals as goal

pub sieve-puts-requires : goal.sieve-puts-requires
sieve-puts-requires c = record {
  held = record { value = point_chain c.requires.value; has = sieve_points_asks c.requires.has };
  decides = record { value = is_delete; has = search (rules, decides) };
}

pub sieve-ranges-requires : goal.sieve-ranges-requires
sieve-ranges-requires c =
    let h = c.requires.has in
    let points = c.sieve-puts.ensures _ is_delete (search (rules, decides)) (sieve_points_asks h) in
    record {
      held = record { value = range_chain c.requires.value; has = sieve_ranges_asks h points };
      decides = record { value = λ d. true; has = search (rules, decides) };
    }

pub overflow_sub-result : goal.overflow_sub-result
overflow_sub-result c =
    let h = c.requires.has in
    let points = c.sieve-puts.ensures _ is_delete (search (rules, decides)) (sieve_points_asks h) in
    omega (arith, held_rest h points (c.sieve-ranges.ensures _ _ (search (rules, decides)) (sieve_ranges_asks h points)))

pub overflow_sub-result-2 : goal.overflow_sub-result-2
overflow_sub-result-2 c =
    let h = c.requires.has in
    let points = c.sieve-puts.ensures _ is_delete (search (rules, decides)) (sieve_points_asks h) in
    omega (arith, held_rest h points (c.sieve-ranges.ensures _ _ (search (rules, decides)) (sieve_ranges_asks h points)))

pub returns : goal.returns
returns c =
    λ g h.
    let points = c.sieve-puts.ensures _ is_delete (search (rules, decides)) (sieve_points_asks h) in
    settle_leaves h points (c.sieve-ranges.ensures _ _ (search (rules, decides)) (sieve_ranges_asks h points))
