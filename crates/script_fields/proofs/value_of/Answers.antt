-- `script_fields::value_of`: each digit counts ten times what stands before it.
use Rattle.std.proofs.Common.{◌∙◌, sym, arith}
use Rattle.script_fields.proofs.Digits.{digit_at, one_more, one_place, none_left}
use Rattle.script_fields.proofs.value_of.Goals as goal

pub overflow_sub-digit : goal.overflow_sub-digit
overflow_sub-digit c = (digit_at c.args.written.now c.requires.all c.loop-digit.digit-index (omega arith)).0

pub loop-digit-preserved : goal.loop-digit-preserved
loop-digit-preserved c =
    let high = (digit_at c.args.written.now c.requires.all c.loop-digit.digit-index (omega arith)).1 in (
      one_place c.loop-digit.digit-index c.loop-digit.invariant.0 (omega (arith, high, c.from.ensures)),
      one_more c.loop-digit.value c.args.written.now c.loop-digit.digit-index c.from.ensures (omega arith) ∙ c.loop-digit.invariant.1,
    )

pub returns : goal.returns
returns c = sym (none_left _ c.args.written.now _ c.loop-digit-test.false) ∙ c.loop-digit.invariant.1
