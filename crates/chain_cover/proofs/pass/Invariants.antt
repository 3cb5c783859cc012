use mathlib.Core.Path.{◌≡◌}
use lib.ListN.{length}
use Rattle.tables.specs.Sound.{chain_from}
use Rattle.chain_cover.specs.Walks.{Ordered}
use Rattle.chain_cover.specs.Skips.{from_bound, Computes}
use Rattle.chain_cover.proofs.pass.Given as goal

abbrev pub invariant-loop-at : goal.invariant-loop-at
invariant-loop-at g l =
    Ordered l.e l.at × ((bound : _) → Computes bound (goal.F-pre g l.bound_of) (goal.F-post g l.bound_of)
    → from_bound (bound l.e) l.docket (chain_from l.e l.at) ≡ from_bound (bound l.e) l.docket (chain_from l.e l.from))

abbrev pub decreases-loop-at : goal.decreases-loop-at
decreases-loop-at g l =
    length (chain_from l.e l.at)
