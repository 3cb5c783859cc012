-- `settings::LevelSettings::next`: the power below, multiplied once, makes those of the next level.
use native.Mathlib.Omega.{arith}
use Rattle.settings.proofs.Carried.{carried_next, carried_next_fits}
use Rattle.settings.proofs.LevelSettings.next.Goals as goal

pub overflow_mul-below : goal.overflow_mul-below
overflow_mul-below c =
    omega (arith, carried_next_fits c.args.self c.requires)

pub returns : goal.returns
returns c =
    carried_next c.args.self c.requires
