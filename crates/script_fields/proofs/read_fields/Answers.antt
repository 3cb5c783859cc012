-- `script_fields::read_fields`: the numbers that are read and those that are left make the whole.
use Rattle.std.proofs.Common.{◌∙◌}
use Rattle.std.proofs.lemmas.List.{length-replicate}
use Rattle.script_fields.proofs.Several.{read_none, none_there, read_one, too_many, read_all}
use Rattle.script_fields.proofs.read_fields.Goals as goal

pub loop-number-init : goal.loop-number-init
loop-number-init g c = read_none _ _ _ _ (length-replicate g.row.N 0)

pub returns-in_err-field : goal.returns-in_err-field
returns-in_err-field g c =
    c.from_residual.ensures ∙ none_there c.loop-number.invariant c.loop-number-test.true c.in_err-field.ensures

pub loop-number-preserved : goal.loop-number-preserved
loop-number-preserved g c = read_one c.loop-number.invariant c.loop-number-test.true c.in_ok-field.field c.in_ok-field.ensures

pub returns-then-at-text : goal.returns-then-at-text
returns-then-at-text g c = too_many c.loop-number.invariant c.loop-number-test.false c.if-at-text.true

pub returns-else-at-text : goal.returns-else-at-text
returns-else-at-text g c = read_all c.loop-number.invariant c.loop-number-test.false c.if-at-text.false
