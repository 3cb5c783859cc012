-- `settings::LevelSettings::limit`: the product fits 64 bits, and the divisor carried is not 0.
use native.Mathlib.Omega.{arith}
use Rattle.settings.proofs.Carried.{carried_limit, carried_below_fits, carried_product_fits, carried_divides}
use Rattle.settings.proofs.LevelSettings.limit.Goals as goal

pub overflow_sub-share : goal.overflow_sub-share
overflow_sub-share c =
    omega (arith, carried_below_fits c.args.self c.requires)

pub overflow_mul-product : goal.overflow_mul-product
overflow_mul-product c =
    omega (arith, carried_product_fits c.args.self c.requires)

pub nonzero_div-result : goal.nonzero_div-result
nonzero_div-result c =
    omega (arith, carried_divides c.args.self c.requires)

pub returns : goal.returns
returns c =
    carried_limit c.args.self c.requires
