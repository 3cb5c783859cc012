-- `settings::Settings::new`: the one test is `allowed`, and what it passes is answered as it came.
use Rattle.std.proofs.Common.{sym, ◌∙◌}
use Rattle.settings.proofs.Answers.{checked_accepted, checked_refused}
use Rattle.settings.proofs.Settings.new.Goals as goal

pub returns-then-is_allowed : goal.returns-then-is_allowed
returns-then-is_allowed c = sym (checked_accepted _ (sym c.is_allowed.ensures ∙ c.if-is_allowed.true))

pub returns-else-is_allowed : goal.returns-else-is_allowed
returns-else-is_allowed c = sym (checked_refused _ (sym c.is_allowed.ensures ∙ c.if-is_allowed.false))
