use mathlib.Core.Path.{◌≡◌}
use Rattle.tables.specs.Rows.{settings_of}
use Rattle.make_fresh.specs.Fresh.{made_levels}
use Rattle.make_fresh.proofs.Parts.{Agree}
use Rattle.make_fresh.proofs.Levels.{row_parts}
use Rattle.make_fresh.proofs.lay_levels.Given as goal

abbrev pub invariant-loop-i : goal.invariant-loop-i
invariant-loop-i l =
    record { settings : settings_of l.levels ≡ l.fn.s; rows : Agree row_parts (made_levels l.fn.s) l.i l.levels }
