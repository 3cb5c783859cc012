-- `chain_cover::front_latest`: where the first range has begun it is met, and then those behind.
use mathlib.Core.Path.{sym}
use native.Mathlib.Omega.{arith}
use Rattle.chain_cover.proofs.Dates.{front_met_none, front_met_past, front_met_next}
use Rattle.chain_cover.proofs.front_latest.Goals as goal

pub returns-then-f-eq0 : goal.returns-then-f-eq0
returns-then-f-eq0 c =
    sym (front_met_none _ _ _ _ c.if-f-eq0.true)

pub returns-then-docket-lo : goal.returns-then-docket-lo
returns-then-docket-lo c =
    rw c.lo_of-lo.ensures (sym (front_met_past _ _ _ _ c.if-f-eq0.false (omega (arith, c.if-docket-lo.true, c.lo_of-lo.ensures))))

pub returns : goal.returns
returns c =
    rw (c.survey.ensures, c.meet-m.ensures)
    (sym (front_met_next _ _ _ _ c.if-f-eq0.false (omega (arith, c.if-docket-lo.false, c.lo_of-lo.ensures))))
