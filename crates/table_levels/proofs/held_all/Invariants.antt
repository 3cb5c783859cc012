use Rattle.std.proofs.Common.{ℕ}
use Rattle.model.specs.declared.Tally.{Tally}
use Rattle.model.specs.Records.{State}
use Rattle.table_levels.specs.Levels.{RowsAre}
use Rattle.table_levels.proofs.Adds.{Adds}
use Rattle.table_levels.proofs.held_all.Given as goal

abbrev pub invariant-loop-i : goal.invariant-loop-i
invariant-loop-i l = (p : State ℕ Tally) → RowsAre p l.l → Adds p l.l l.i-end l.held l.i
