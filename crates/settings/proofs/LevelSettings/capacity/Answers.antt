-- `settings::LevelSettings::capacity`: the buffer times the power carried.
use native.Mathlib.Omega.{arith}
use Rattle.settings.proofs.Carried.{carried_capacity, carried_capacity_fits}
use Rattle.settings.proofs.LevelSettings.capacity.Goals as goal

pub overflow_mul-result : goal.overflow_mul-result
overflow_mul-result c =
    omega (arith, carried_capacity_fits c.args.self c.requires)

pub returns : goal.returns
returns c =
    carried_capacity c.args.self c.requires
