-- `settings::Settings::power`: a power up to T^L is at most 10^6.
use Rattle.std.proofs.Common.{arith, rules}
use Rattle.settings.specs.Limits.{power}
use Rattle.settings.proofs.Allowed.{allowed_bounds}
use Rattle.settings.proofs.Powers.{power_fits}
use Rattle.settings.proofs.Settings.power.Goals as goal

pub pow-requires : goal.pow-requires
unfolding power
pow-requires c =
    omega (arith, power_fits c.args.self (allowed_bounds _ c.requires.self_value) c.args.i c.requires.i_le_deepest)

pub returns : goal.returns
unfolding power
returns c = search rules
