-- The test is the model's, and what is merged is that level of every store that the tables hold.
use mathlib.Core.Path.{sym, ◌∙◌}
use native.Mathlib.Omega.{arith}
use Rattle.merge_levels.proofs.Store.{laid_length}
use Rattle.merge_pass.proofs.Due.{laid_above, laid_due, laid_owed}
use Rattle.merge_pass.proofs.Passing.{level_stays, level_merged}
use Rattle.merge_pass.proofs.pass_level.Goals as goal

pub is_due-requires : goal.is_due-requires
is_due-requires c =
    let h = c.requires.exists.has in
    let above = laid_above _ _ _ h.0 _ c.requires.carried h.2 in
    record {
      carried = c.requires.carried;
      in_rows = omega (arith, laid_length _ _ _ h.0, above);
      level_bound = omega (arith, h.1, laid_owed _ _ _ h.0 c.args.at.level (omega (arith, above)));
    }

pub merge_level-requires : goal.merge_level-requires
merge_level-requires c =
    let h = c.requires.exists in
    record { value = h.value; has = (h.has.0, laid_above _ _ _ h.has.0 _ c.requires.carried h.has.2) }

pub returns-then-is_due : goal.returns-then-is_due
returns-then-is_due c =
    λ g laid now same.
    let found = c.is_due.ensures ∙ laid_due g _ _ laid _ c.requires.carried same c.args.clock in
    level_merged g _ _ _ _ (sym found ∙ c.if-is_due.true) (c.merge_level.ensures g laid (laid_above g _ _ laid _ c.requires.carried same))

pub returns-else-is_due : goal.returns-else-is_due
returns-else-is_due c =
    λ g laid now same.
    let found = c.is_due.ensures ∙ laid_due g _ _ laid _ c.requires.carried same c.args.clock in
    level_stays g _ _ _ _ (sym found ∙ c.if-is_due.false) laid
