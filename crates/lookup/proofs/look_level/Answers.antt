-- `look_level`: the chains of the level's row are those that the level reads as.
use mathlib.Core.Path.{ap, ◌∙◌}
use Rattle.table_levels.specs.declared.Level.{Level}
use Rattle.lookup_level.specs.Answers.{level_decides, chain_level}
use Rattle.lookup.proofs.look_level.Goals as goal

pub returns : goal.returns
unfolding level_decides
returns c =
    let a = c.args in
    c.look_chains.ensures
    ∙ ap (λ (v : Level). level_decides a.date (chain_level a.e.now v.points v.ranges) a.docket) c.level_at-row.ensures
