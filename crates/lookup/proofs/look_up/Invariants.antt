-- The levels that are left, with the latest date met so far, give what all levels give.
use mathlib.Core.Path.{◌≡◌}
use Prim.Native.Nat.{◌+◌}
use Rattle.model.specs.Lookup.{lookup}
use Rattle.tables.specs.Rows.{settings_of}
use Rattle.tables.specs.Placed.{read_state}
use Rattle.lookup.proofs.Levels.{look_on}
use Rattle.lookup.proofs.look_up.Given as goal

abbrev pub invariant-loop-level : goal.invariant-loop-level
invariant-loop-level l =
    (l.levels ≡ (settings_of l.l).deepest + 1) × (look_on l.e l.l l.docket l.level l.date ≡ lookup (read_state l.e l.l).levels l.docket)
