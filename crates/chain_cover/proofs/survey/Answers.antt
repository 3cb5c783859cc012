-- `chain_cover::survey`: the loop keeps true that the chain from `at` is ordered, and that `m` comes to the same there as what was seen does from `head`.
use mathlib.Core.Path.{sym, ◌∙◌}
use native.Mathlib.Omega.{arith}
use Rattle.chain_cover.proofs.Chains.{go_on}
use Rattle.chain_cover.proofs.Dates.{walk_end, walk_past, walk_next}
use Rattle.chain_cover.proofs.survey.Goals as goal

pub returns-then-docket-lo : goal.returns-then-docket-lo
returns-then-docket-lo c =
    let on = go_on _ _ c.loop-at.invariant.0 c.loop-at-test.true in
    rw c.lo_of-lo.ensures (sym (walk_past _ _ _ _ on (omega (arith, c.if-docket-lo.true, c.lo_of-lo.ensures))) ∙ c.loop-at.invariant.1)

pub loop-at-preserved : goal.loop-at-preserved
loop-at-preserved c =
    let on = go_on _ _ c.loop-at.invariant.0 c.loop-at-test.true in
    rw (c.next_of-at.ensures, c.meet-m.ensures)
    (on.rest, sym (walk_next _ _ _ _ on (omega (arith, c.if-docket-lo.false, c.lo_of-lo.ensures))) ∙ c.loop-at.invariant.1)

pub returns : goal.returns
returns c =
    sym (walk_end _ _ _ _ c.loop-at-test.false) ∙ c.loop-at.invariant.1
