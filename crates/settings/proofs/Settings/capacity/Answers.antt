-- `settings::Settings::capacity`: the one test is `level_from 1`, and a level's capacity is taken from what is carried to it.
use Rattle.std.proofs.Common.{sym, ap, ◌∙◌, Some}
use Rattle.settings.specs.declared.LevelSettings.{LevelSettings}
use Rattle.settings.specs.Limits.{capacity}
use Rattle.settings.proofs.Answers.{capacity_of_level, capacity_of_other}
use Rattle.settings.proofs.Settings.capacity.Goals as goal

pub returns-then-is_level_from : goal.returns-then-is_level_from
returns-then-is_level_from c =
    ap Some (c.capacity.ensures ∙ ap (λ (x : LevelSettings). capacity x.settings x.level) c.at_level.ensures)
    ∙ sym (capacity_of_level _ _ (sym c.is_level_from.ensures ∙ c.if-is_level_from.true))

pub returns-else-is_level_from : goal.returns-else-is_level_from
returns-else-is_level_from c = sym (capacity_of_other _ _ (sym c.is_level_from.ensures ∙ c.if-is_level_from.false))
