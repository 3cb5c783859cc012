-- `settings::Settings::is_level_from`: of allowed settings L is at least 2, so level L−1 can be computed and compared with.
use Rattle.std.proofs.Common.{arith, sym, ◌∙◌}
use Rattle.settings.proofs.Allowed.{allowed_bounds}
use Rattle.settings.proofs.Settings.is_level_from.Goals as goal

pub overflow_sub-self : goal.overflow_sub-self
overflow_sub-self c = let bounds = allowed_bounds _ (sym c.is_allowed.ensures ∙ c.if-is_allowed.true) in omega arith
