-- `levels_fit`: the loop keeps that what the levels left say, over the marks so far, is what all levels say.
use mathlib.Core.Path.{ap}
use native.Mathlib.Omega.{arith}
use Rattle.std.specs.Result.{result_ok}
use Rattle.check_level.specs.Levels.{fitting}
use Rattle.check_chains.proofs.Levels.{level_sum, levels_end, levels_fail, levels_go}
use Rattle.check_chains.proofs.levels_fit.Goals as goal
use Rattle.check_chains.proofs.levels_fit.Goals.{else-loop-i-test, then-loop-i-test+in-Ok+else-i-i-end}

pub returns-in_default : goal.returns-in_default
returns-in_default c =
    levels_fail c.loop-i.invariant (omega arith) (ap fitting c.level.ensures) (ap result_ok c.in_default.is)

pub overflow_add-total : goal.overflow_add-total
overflow_add-total c =
    let inv = c.loop-i.invariant in
    omega (
      arith,
      inv.sum,
      level_sum _ _ _ _ (omega (arith, c.requires.e_bound, inv.len)) (ap fitting c.level.ensures) (ap result_ok c.in-Ok.is),
      c.requires.marks_bound,
    )

pub loop-i-preserved : goal.loop-i-preserved
loop-i-preserved c =
    let inv = c.loop-i.invariant in
    levels_go inv (omega arith) (ap fitting c.level.ensures) (ap result_ok c.in-Ok.is) (omega (arith, c.requires.e_bound, inv.len)) c.level.auto.marks

-- The loop ends where there is no level, or after the deepest.
pub returns : goal.returns
returns c =
    let inv = c.loop-i.invariant in
    rw c.slot_count.ensures
    (elim c.loop-i-test.branch [
      | else-loop-i-test w ↦ rw (w.total-is, w.marks-is) (levels_end inv (omega arith))
      | then-loop-i-test+in-Ok+else-i-i-end w ↦
          let all = levels_go inv (omega arith) (ap fitting w.level.ensures) (ap result_ok w.in-Ok.is) (omega (arith, c.requires.e_bound, inv.len)) w.level.auto.marks in
          rw (w.total-is, w.marks-is) (levels_end all (omega arith))
    ])
