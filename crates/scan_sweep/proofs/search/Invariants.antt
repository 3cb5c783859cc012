use mathlib.Core.Path.{◌≡◌}
use Rattle.scan_step.specs.Sweeps.{Sweeping}
use Rattle.scan_step.proofs.Steps.{steps_left}
use Rattle.scan_sweep.specs.Sweeps.{arrived}
use Rattle.scan_sweep.proofs.search.Given as goal

abbrev pub invariant-loop-r : goal.invariant-loop-r
invariant-loop-r l =
    Sweeping l.e l.r × (arrived (steps_left l.e l.r) l.e l.r ≡ arrived (steps_left l.e l.initial.r) l.e l.initial.r)

abbrev pub decreases-loop-r : goal.decreases-loop-r
decreases-loop-r l =
    steps_left l.e l.r
