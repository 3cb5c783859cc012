-- After count rows the sweep has come to the next live docket, and the rows before it are filled.
use mathlib.Core.Path.{◌≡◌}
use Prim.Native.Nat.{◌≤◌}
use lib.ListN.{length}
use Rattle.scan.proofs.Filling.{so_far}
use Rattle.scan.proofs.Reached.{Reached, live_rows}
use Rattle.scan.proofs.scan.Given as goal

abbrev pub invariant-loop-count : goal.invariant-loop-count
invariant-loop-count g l = record {
  reached : Reached l.entries l.levels l.lo l.hi l.count l.m;
  inside : l.count ≤ length (live_rows l.entries l.levels l.lo l.hi);
  filled : l.rows ≡ so_far g.R.Listed.shown (live_rows l.entries l.levels l.lo l.hi) l.initial.rows l.count;
}
