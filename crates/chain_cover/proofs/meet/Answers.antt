-- `chain_cover::meet`: each way out is one of the ways in which a range is met.
use mathlib.Core.Path.{sym}
use native.Mathlib.Omega.{arith}
use Rattle.chain_cover.proofs.Dates.{met_ended, met_older, met_later}
use Rattle.chain_cover.proofs.meet.Goals as goal

pub returns-then-hi-docket : goal.returns-then-hi-docket
returns-then-hi-docket c =
    sym (met_ended _ _ _ _ (omega (arith, c.if-hi-docket.true, c.hi_of-hi.ensures)))

pub returns-then-m-date : goal.returns-then-m-date
returns-then-m-date c =
    rw (c.date_of-date.ensures, c.hi_of-hi.ensures)
    (sym (met_later _ _ _ _ (omega (arith, c.if-hi-docket.false, c.hi_of-hi.ensures)) (omega (arith, c.if-m-date.true, c.date_of-date.ensures))))

pub returns-else-m-date : goal.returns-else-m-date
returns-else-m-date c =
    sym (met_older _ _ _ _ (omega (arith, c.if-m-date.false, c.date_of-date.ensures)))
