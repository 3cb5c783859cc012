-- `chain_cover::is_covered`: the loop keeps true that the chain from `at` is ordered and its ranges say of the record what those from `head` say.
use mathlib.Core.Path.{sym, ◌∙◌}
use native.Mathlib.Omega.{arith}
use lib.Dec.{eqb, ltb}
use Rattle.chain_cover.proofs.Walks.{covers_read, covers_late, ranges_end, walk_covered, walk_past, walk_on}
use Rattle.chain_cover.proofs.is_covered.Goals as goal

pub returns-then-covers : goal.returns-then-covers
returns-then-covers c =
    let i = c.loop-at.invariant in
    let said = covers_read _ _ _ _ _ _ _ _ _ c.lo_of-lo.ensures c.hi_of.ensures c.date_of-date.ensures c.covers.ensures in
    walk_covered _ _ _ _ _ i.0 c.loop-at-test.true i.1 (said ∙ c.if-covers.true)

pub returns-then-docket-lo-2 : goal.returns-then-docket-lo-2
returns-then-docket-lo-2 c =
    let i = c.loop-at.invariant in
    walk_past _ _ _ _ _ i.0 c.loop-at-test.true i.1 (λ j. omega (arith, c.type_inv.e j)) (omega (arith, c.lo_of-lo.ensures, c.if-docket-lo-2.true))

pub loop-at-preserved-else-docket-lo-2 : goal.loop-at-preserved-else-docket-lo-2
loop-at-preserved-else-docket-lo-2 c =
    let i = c.loop-at.invariant in
    let said = covers_read _ _ _ _ _ _ _ _ _ c.lo_of-lo.ensures c.hi_of.ensures c.date_of-date.ensures c.covers.ensures in
    walk_on _ _ _ _ _ i.0 c.loop-at-test.true i.1 _ c.next_of-next.ensures (said ∙ c.if-covers.false)

pub loop-at-preserved : goal.loop-at-preserved
loop-at-preserved c =
    let i = c.loop-at.invariant in
    walk_on _ _ _ _ _ i.0 c.loop-at-test.true i.1 _ c.next_of-next.ensures
    (covers_late _ _ _ _ _ (ltb c.args.docket c.lo_of-lo.result) (eqb c.next_of-next.result 0) c.date_of-date.ensures c.if-docket-lo.false)

pub returns : goal.returns
returns c =
    sym (ranges_end _ _ _ _ c.loop-at-test.false) ∙ c.loop-at.invariant.1
