-- `level`: the points are walked, then over their marks the ranges, and a level whose two walks fit is asked for its numbers.
use mathlib.Core.Path.{sym, ◌∙◌}
use native.Mathlib.Omega.{arith}
use Rattle.check_level.proofs.Levels.{points_fail, ranges_fail, level_room, level_ends}
use Rattle.check_level.proofs.level.Goals as goal

pub returns-in_default : goal.returns-in_default
returns-in_default c =
    points_fail _ _ _ _ c.level_at-row.ensures c.walk.ensures c.in_default.is

pub returns-in_default-walk : goal.returns-in_default-walk
returns-in_default-walk c =
    ranges_fail _ _ _ _ c.level_at-row.ensures c.walk.ensures c.in-Some.is c.walk-2.ensures c.in_default-walk.is

pub overflow_add-count : goal.overflow_add-count
overflow_add-count c =
    let room = level_room _ c.args.l.now c.args.i _ c.level_at-row.ensures c.walk.ensures c.in-Some.is c.walk-2.ensures c.in-Some-walk.is in
    omega (arith, room (omega arith) (omega arith))

pub returns-then-numbers_fit : goal.returns-then-numbers_fit
returns-then-numbers_fit c =
    level_ends _ _ _ _ c.level_at-row.ensures c.walk.ensures c.in-Some.is c.walk-2.ensures c.in-Some-walk.is
    (sym c.if-numbers_fit.true ∙ c.numbers_fit.ensures)

pub returns-else-numbers_fit : goal.returns-else-numbers_fit
returns-else-numbers_fit c =
    level_ends _ _ _ _ c.level_at-row.ensures c.walk.ensures c.in-Some.is c.walk-2.ensures c.in-Some-walk.is
    (sym c.if-numbers_fit.false ∙ c.numbers_fit.ensures)
