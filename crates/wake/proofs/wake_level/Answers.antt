-- The level's row tells what it owes; owed and limit together have room in 64 bits.
use native.Mathlib.Omega.{arith}
use Rattle.wake.proofs.Turns.{clock_most}
use Rattle.wake.proofs.wake_level.Goals as goal

pub overflow_add-result : goal.overflow_add-result
overflow_add-result c =
    let a = c.args in
    omega (arith, c.limit.ensures, clock_most a.at.settings a.at.level c.level_at-row.result.owed c.requires.carried.settings_ok c.requires.carried.above (omega arith))
