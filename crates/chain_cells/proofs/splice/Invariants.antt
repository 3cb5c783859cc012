use mathlib.Core.Path.{◌≡◌}
use lib.ListN.{length}
use Rattle.chain_cells.specs.Splicing.{Chains, TwoHeld, Splicing, to_do}
use Rattle.chain_cells.proofs.Splices.{splice_of}
use Rattle.chain_cells.proofs.splice.Given as goal

abbrev pub invariant-loop-m : goal.invariant-loop-m
invariant-loop-m l =
    (length l.e ≡ length l.initial.e) × ((g : Chains) → TwoHeld g l.initial.e l.upper l.lower → Splicing (splice_of g) l.e l.m)

abbrev pub decreases-loop-m : goal.decreases-loop-m
decreases-loop-m l =
    to_do l.e l.m
