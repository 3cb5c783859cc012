-- `settings::Settings::limit`: the one test is `level_from 0`, and a level's limit is taken from what is carried to it.
use Rattle.std.proofs.Common.{sym, ap, ◌∙◌, Some}
use Rattle.settings.specs.declared.LevelSettings.{LevelSettings}
use Rattle.settings.specs.Limits.{limit}
use Rattle.settings.proofs.Answers.{limit_of_level, limit_of_other}
use Rattle.settings.proofs.Carried.{carried_at, level_from_above}
use Rattle.settings.proofs.Settings.limit.Goals as goal

pub at_level-requires : goal.at_level-requires
at_level-requires c =
    let above = level_from_above _ _ _ (sym c.is_level_from.ensures ∙ c.if-is_level_from.true) in
    record { self_value = above.0; level_lt_deepest = above.1 }

pub limit-requires : goal.limit-requires
limit-requires c =
    carried_at _ _ (level_from_above _ _ _ (sym c.is_level_from.ensures ∙ c.if-is_level_from.true)) _ c.at_level.ensures

pub returns-then-is_level_from : goal.returns-then-is_level_from
returns-then-is_level_from c =
    ap Some (c.limit.ensures ∙ ap (λ (x : LevelSettings). limit x.settings x.level) c.at_level.ensures)
    ∙ sym (limit_of_level _ _ (sym c.is_level_from.ensures ∙ c.if-is_level_from.true))

pub returns-else-is_level_from : goal.returns-else-is_level_from
returns-else-is_level_from c = sym (limit_of_other _ _ (sym c.is_level_from.ensures ∙ c.if-is_level_from.false))
