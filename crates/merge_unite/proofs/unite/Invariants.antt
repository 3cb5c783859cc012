use mathlib.Core.Path.{◌≡◌}
use lib.ListN.{length}
use Rattle.chain_cells.specs.Splicing.{Chains}
use Rattle.merge_unite.specs.Uniting.{RangesHeld, Uniting, to_see}
use Rattle.merge_unite.proofs.unite.Given as goal

abbrev pub invariant-loop-m : goal.invariant-loop-m
invariant-loop-m l =
    (length l.e ≡ length l.initial.e) × ((g : Chains) → RangesHeld g l.initial.e l.upper l.lower → Uniting g l.e l.m)

abbrev pub decreases-loop-m : goal.decreases-loop-m
decreases-loop-m l =
    to_see l.e l.m
