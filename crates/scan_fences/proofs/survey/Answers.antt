-- `scan_fences::survey`: the loop keeps what a survey of the first `i` levels says, and that with the levels still to come it is the survey of all.
use mathlib.Core.Path.{sym, ap, ◌∙◌}
use Prim.Native.Nat.{◌+◌, ◌<◌}
use native.Mathlib.Numerals.{add-one}
use native.Mathlib.Omega.{arith}
use Rattle.lists.proofs.Loops.{iterate_end, iterate_next}
use Rattle.tables.specs.Words.{Fits32}
use Rattle.chain_cover.specs.Fronts.{FrontOrdered}
use Rattle.chain_cover.proofs.Fronts.{advanced_ordered}
use Rattle.scan_fences.specs.Fences.{Survey, survey_level, view, surveyed}
use Rattle.scan_fences.proofs.Levels.{first_low, behind_low}
use Rattle.scan_fences.proofs.Surveys.{level_surveyed, surveying_next}
use Rattle.scan_fences.proofs.survey.Goals as goal

pub overflow_cast-ranges : goal.overflow_cast-ranges
overflow_cast-ranges c =
    let ready = c.loop-i.invariant.above.ready in
    let o : FrontOrdered c.args.e.now c.advance-f.result = rw c.advance-f.ensures (advanced_ordered _ _ _ (ready.order _ (omega arith))) in
    omega (arith, first_low o ready.size)

pub overflow_cast-ranges-in-loop-i : goal.overflow_cast-ranges-in-loop-i
overflow_cast-ranges-in-loop-i c =
    let ready = c.loop-i.invariant.above.ready in
    let o : FrontOrdered c.args.e.now c.advance-f.result = rw c.advance-f.ensures (advanced_ordered _ _ _ (ready.order _ (omega arith))) in
    omega (arith, behind_low o ready.size)

pub front_latest-l-requires : goal.front_latest-l-requires
front_latest-l-requires c =
    rw c.advance-f.ensures (advanced_ordered _ _ _ (c.loop-i.invariant.above.ready.order _ (omega arith)))

pub loop-i-preserved : goal.loop-i-preserved
loop-i-preserved c =
    let words : Fits32 c.args.e.now = λ i. omega (arith, c.shared_slice_known-1.given i) in
    let a = c.args in
    let more : c.loop-i.i < a.levels = omega arith in
    let v : Survey = record { ranges = c.loop-i.ranges; seen = c.loop-i.seen } in
    let next = level_surveyed a.e.now a.docket c.loop-i.i v _ c.advance-f.ensures _ c.front_latest-l.ensures _ c.see-seen.ensures in
    rw next
    (record {
      above = surveying_next _ words _ _ _ c.requires.docket_bound c.loop-i.i v more c.loop-i.invariant.above;
      all = sym (iterate_next (survey_level a.e.now a.docket) a.levels c.loop-i.i v (c.loop-i.i + 1) more (add-one c.loop-i.i)) ∙ c.loop-i.invariant.all;
    })

pub returns : goal.returns
unfolding surveyed
returns c =
    let a = c.args in
    let v : Survey = record { ranges = c.loop-i.ranges; seen = c.loop-i.seen } in
    rw c.min.ensures (ap view (sym (iterate_end (survey_level a.e.now a.docket) a.levels c.loop-i.i v (omega arith)) ∙ c.loop-i.invariant.all))
