use mathlib.Core.Path.{◌≡◌}
use lib.ListN.{length}
use Rattle.tables.specs.Sound.{chain_from}
use Rattle.chain_cover.specs.Walks.{Ordered}
use Rattle.chain_cover.proofs.Walks.{ranges_say}
use Rattle.chain_cover.proofs.is_covered.Given as goal

abbrev pub invariant-loop-at : goal.invariant-loop-at
invariant-loop-at l =
    Ordered l.e l.at × (ranges_say l.e l.at l.docket l.stamp ≡ ranges_say l.e l.head l.docket l.stamp)

abbrev pub decreases-loop-at : goal.decreases-loop-at
decreases-loop-at l =
    length (chain_from l.e l.at)
