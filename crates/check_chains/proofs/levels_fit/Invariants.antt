use Rattle.check_chains.proofs.Levels.{Levels}
use Rattle.check_chains.proofs.levels_fit.Given as goal

abbrev pub invariant-loop-i : goal.invariant-loop-i
invariant-loop-i l =
    Levels l.e l.l l.initial.marks l.free l.marks l.total l.i
