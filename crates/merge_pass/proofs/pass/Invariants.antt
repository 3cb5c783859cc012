use mathlib.Core.Path.{◌≡◌}
use Prim.Native.Nat.{◌-◌, ◌≤◌}
use Rattle.settings.specs.Carried.{at_level}
use Rattle.model.specs.Steps.{begin, pass_level, pass}
use Rattle.merge_levels.specs.Laid.{Store, Laid}
use Rattle.merge_levels.proofs.Turns.{Reached}
use Rattle.merge_pass.proofs.pass.Given as goal

abbrev pub invariant-loop-at : goal.invariant-loop-at
invariant-loop-at l =
    (l.at ≡ at_level l.settings l.at.level) × (l.at.level ≤ l.settings.deepest)
    × ((g : Store) → Laid g l.initial.e l.initial.l → g.time ≡ l.clock
    → Reached (pass_level l.clock) (pass l.clock (begin g.state)) g l.e l.l l.merges l.at.level)

abbrev pub decreases-loop-at : goal.decreases-loop-at
decreases-loop-at l =
    l.settings.deepest - l.at.level
