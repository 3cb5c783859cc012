use Rattle.check_walk.proofs.Walks.{Going}
use Rattle.check_walk.specs.Walks.{unmarked}
use Rattle.tables.specs.Sound.{chain_from}
use Rattle.tables.specs.Slots.{slots_of}
use Rattle.check_walk.proofs.walk.Given as goal

abbrev pub invariant-loop-at : goal.invariant-loop-at
invariant-loop-at g l =
    Going g.F.Form.asked l.e l.owed l.initial.marks (chain_from l.e l.head) l.marks l.at l.least l.count

abbrev pub decreases-loop-at : goal.decreases-loop-at
decreases-loop-at g l =
    unmarked (slots_of l.e) l.marks
