-- `scan_sweep::search`: the loop keeps that from here on the sweep arrives where it was to arrive, and each turn passes a record.
use mathlib.Core.Path.{sym, ◌∙◌}
use Rattle.scan_step.proofs.Steps.{fewer_steps}
use Rattle.scan_sweep.proofs.Crossing.{step_stepped}
use Rattle.scan_sweep.proofs.Arriving.{turned, stopped}
use Rattle.scan_sweep.proofs.search.Goals as goal

pub loop-r-smaller : goal.loop-r-smaller
loop-r-smaller c =
    rw c.step-r.ensures (fewer_steps (step_stepped ((λ i. (c.shared_slice_known-1.given i).fits)) c.loop-r.invariant.0) c.loop-r-test.true)

pub loop-r-preserved : goal.loop-r-preserved
loop-r-preserved c =
    let next = turned c.args.e.now ((λ i. (c.shared_slice_known-1.given i).fits)) c.loop-r.r c.loop-r.invariant.0 c.loop-r-test.true in
    rw c.step-r.ensures ((step_stepped ((λ i. (c.shared_slice_known-1.given i).fits)) c.loop-r.invariant.0).sweeping, next ∙ c.loop-r.invariant.1)

pub returns : goal.returns
returns c =
    sym (stopped c.args.e.now ((λ i. (c.shared_slice_known-1.given i).fits)) c.loop-r.r c.loop-r-test.false) ∙ c.loop-r.invariant.1
