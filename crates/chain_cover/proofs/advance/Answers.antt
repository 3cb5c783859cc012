-- `chain_cover::advance`: each way out is one of the ways in which a front is advanced.
use mathlib.Core.Path.{◌∙◌}
use native.Mathlib.Omega.{arith}
use Rattle.tables.specs.Slots.{hi_of}
use Rattle.chain_cover.proofs.Skips.{front_ordered}
use Rattle.chain_cover.proofs.Fronts.{front_at_ordered, advanced_none, advanced_early, advanced_here, advanced_next}
use Rattle.chain_cover.proofs.advance.Goals as goal

pub returns-then-f-eq0 : goal.returns-then-f-eq0
returns-then-f-eq0 c =
    advanced_none _ _ _ c.if-f-eq0.true

pub returns-then-docket-lo_of : goal.returns-then-docket-lo_of
returns-then-docket-lo_of c =
    advanced_early _ _ _ c.if-f-eq0.false (omega (arith, c.if-docket-lo_of.true, c.lo_of.ensures))

pub returns-then-docket-hi_of : goal.returns-then-docket-hi_of
returns-then-docket-hi_of c =
    c.pass_behind.ensures
    ∙ advanced_here _ _ _ c.if-f-eq0.false (omega (arith, c.if-docket-lo_of.false, c.lo_of.ensures))
    (omega (arith, c.if-docket-hi_of.true, c.hi_of.ensures))

pub front_at-requires : goal.front_at-requires
front_at-requires c =
    front_ordered _ (hi_of c.args.e.now) _ c.args.docket c.requires.rest _ c.skip-first.ensures

pub pass_behind-requires-else-docket-hi_of : goal.pass_behind-requires-else-docket-hi_of
pass_behind-requires-else-docket-hi_of c =
    let ordered = front_ordered _ (hi_of c.args.e.now) _ c.args.docket c.requires.rest _ c.skip-first.ensures in
    rw c.front_at.ensures (front_at_ordered _ _ ordered).rest

pub returns-else-docket-hi_of : goal.returns-else-docket-hi_of
returns-else-docket-hi_of c =
    c.pass_behind-else-docket-hi_of.ensures
    ∙ rw (c.front_at.ensures, c.skip-first.ensures)
    (advanced_next _ _ _ c.if-f-eq0.false (omega (arith, c.if-docket-lo_of.false, c.lo_of.ensures))
    (omega (arith, c.if-docket-hi_of.false, c.hi_of.ensures)))
