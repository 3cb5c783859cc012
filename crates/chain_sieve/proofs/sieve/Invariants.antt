use mathlib.Core.Path.{◌≡◌}
use lib.ListN.{length}
use Rattle.chain_cells.specs.Sifting.{Chain, OneHeld, Sifting, left_at, sift_of}
use Rattle.chain_sieve.specs.Doomed.{Decides}
use Rattle.chain_sieve.proofs.sieve.Given as goal

abbrev pub invariant-loop-m : goal.invariant-loop-m
invariant-loop-m g l =
    (length l.e ≡ length l.initial.e)
    × ((h : Chain) (test : _) → Decides test (goal.F-pre g l.goes) (goal.F-post g l.goes) → OneHeld h l.initial.e l.first → Sifting (sift_of test h) l.e l.m)

abbrev pub decreases-loop-m : goal.decreases-loop-m
decreases-loop-m g l =
    left_at l.e l.m
