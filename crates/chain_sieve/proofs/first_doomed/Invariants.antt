use lib.ListN.{length}
use Rattle.tables.specs.Sound.{chain_from}
use Rattle.chain_cells.specs.Sifting.{Chain, OneHeld}
use Rattle.chain_sieve.specs.Doomed.{Decides}
use Rattle.chain_sieve.proofs.Walks.{Walking}
use Rattle.chain_sieve.proofs.first_doomed.Given as goal

abbrev pub invariant-loop-at : goal.invariant-loop-at
invariant-loop-at g l =
    (h : Chain) (test : _) → Decides test (goal.F-pre g l.goes) (goal.F-post g l.goes) → OneHeld h l.e l.first → Walking test h l.e l.at

abbrev pub decreases-loop-at : goal.decreases-loop-at
decreases-loop-at g l =
    length (chain_from l.e l.at)
