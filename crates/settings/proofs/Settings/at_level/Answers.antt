-- `settings::Settings::at_level`: both numbers are powers of levels; multiplied once, that of the level is the next one's, and that of L is above 0.
use native.Mathlib.Omega.{arith}
use Rattle.settings.proofs.Allowed.{Allowed, allowed_bounds}
use Rattle.settings.proofs.Powers.{power_one, power_fits, once_fits}
use Rattle.settings.proofs.Carried.{at_level_powers}
use Rattle.settings.proofs.Settings.at_level.Goals as goal

pub overflow_mul-result : goal.overflow_mul-result
overflow_mul-result c =
    let bounds : Allowed c.args.self = allowed_bounds c.args.self c.requires.self_value in
    let a = c.args in
    let fits = power_fits a.self bounds a.level (omega (arith, c.requires.level_lt_deepest)) in
    omega (arith, once_fits a.self bounds c.power-power.result (omega (arith, c.power-power.ensures, fits)))

pub overflow_sub-result : goal.overflow_sub-result
overflow_sub-result c =
    let bounds : Allowed c.args.self = allowed_bounds c.args.self c.requires.self_value in
    let s = c.args.self in
    omega (arith, c.power-last.ensures, power_one s bounds.ratio_low s.deepest)

pub returns : goal.returns
returns c =
    at_level_powers c.args.self c.args.level c.power-power.ensures c.power-last.ensures
