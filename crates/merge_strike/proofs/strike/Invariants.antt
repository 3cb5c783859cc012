use mathlib.Core.Path.{◌≡◌}
use lib.ListN.{length}
use Rattle.merge_strike.specs.Striking.{Meeting, MeetingHeld, Striking, left_of}
use Rattle.merge_strike.proofs.Strikes.{strike_of}
use Rattle.merge_strike.proofs.strike.Given as goal

abbrev pub invariant-loop-m : goal.invariant-loop-m
invariant-loop-m l =
    (length l.e ≡ length l.initial.e) × ((g : Meeting) → MeetingHeld g l.initial.e l.lower l.points l.ranges → Striking (strike_of g) l.e l.m)

abbrev pub decreases-loop-m : goal.decreases-loop-m
decreases-loop-m l =
    left_of l.e l.m
