-- `settings::Settings::is_allowed`: each range is a part of `allowed`, in its order.
use Rattle.std.proofs.Common.{rules}
use Rattle.settings.specs.Limits.{allowed}
use Rattle.settings.proofs.Settings.is_allowed.Goals as goal

pub returns-then-in_range-3 : goal.returns-then-in_range-3
unfolding allowed
returns-then-in_range-3 c = search rules

pub returns-else-in_range-3 : goal.returns-else-in_range-3
unfolding allowed
returns-else-in_range-3 c = search rules
