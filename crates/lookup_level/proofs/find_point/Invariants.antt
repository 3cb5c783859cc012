use mathlib.Core.Path.{◌≡◌}
use lib.ListN.{length}
use Rattle.tables.specs.Sound.{chain_from}
use Rattle.chain_cover.specs.Walks.{Ordered}
use Rattle.lookup_level.proofs.Walks.{points_say}
use Rattle.lookup_level.proofs.find_point.Given as goal

abbrev pub invariant-loop-at : goal.invariant-loop-at
invariant-loop-at l =
    Ordered l.e l.at × (points_say l.e l.at l.date l.docket ≡ points_say l.e l.head l.date l.docket)

abbrev pub decreases-loop-at : goal.decreases-loop-at
decreases-loop-at l =
    length (chain_from l.e l.at)
