-- `lookup`: a refusal is answered as it is, and a docket that is allowed is looked up in the levels of sound tables.
use mathlib.Core.Path.{sym, ◌∙◌}
use Rattle.std.proofs.lemmas.Result.{err_from_is_err_and}
use Rattle.check_refusal.proofs.Refusals.{allowed_sound}
use Rattle.lookup_level.proofs.Sound.{readable}
use Rattle.lookup.proofs.Refused.{found_answered, refused, looked_up}
use Rattle.lookup.proofs.Numbers.{promised}
use Rattle.lookup.proofs.lookup.Goals as goal

pub returns-in_err-check_dockets-clause-value : goal.returns-in_err-check_dockets-clause-value
returns-in_err-check_dockets-clause-value c =
    let p = err_from_is_err_and c.from_residual.result c.from_residual.ensures.1 in
    rw (p.1, p.2) (refused _ _ _ _ c.in_err-check_dockets.ensures)

pub look_up-requires : goal.look_up-requires
look_up-requires c =
    let k = c.args.docket in
    readable _ _ (allowed_sound _ _ k k (sym c.in_ok-check_dockets.ensures))

pub returns : goal.returns
returns c =
    let answers = found_answered c.look_up.result ∙ looked_up _ _ c.args.docket c.in_ok-check_dockets.ensures _ c.look_up.ensures in
    record { value = answers; result_value = c.in_ok-check_dockets.ensures; numbers_value = (promised _ _ c.args.docket answers).1 }
