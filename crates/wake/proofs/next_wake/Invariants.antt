use mathlib.Core.Path.{◌≡◌}
use Prim.Native.Nat.{◌-◌, ◌≤◌}
use Rattle.settings.specs.Carried.{at_level}
use Rattle.wake.specs.Wake.{owed_of}
use Rattle.wake.proofs.Turns.{from}
use Rattle.wake.proofs.next_wake.Given as goal

abbrev pub invariant-loop-at : goal.invariant-loop-at
invariant-loop-at l =
    (l.at ≡ at_level l.settings l.at.level)
    × (l.at.level ≤ l.settings.deepest)
    × (from l.settings (owed_of l.l) l.at.level l.next ≡ from l.settings (owed_of l.l) l.initial.at.level l.initial.next)

abbrev pub decreases-loop-at : goal.decreases-loop-at
decreases-loop-at l =
    l.settings.deepest - l.at.level
