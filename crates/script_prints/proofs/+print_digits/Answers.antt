-- `script_prints::print_digits`: the digits before the last are a text at the position, and the last is a text after them.
use Rattle.std.proofs.Common.{ℕ, ◌∙◌, arith}
use Rattle.script_prints.proofs.Fronts.{front, length_front, length_tenth, front_printed, front_none, last_printed}
use Rattle.script_prints.proofs.Overwrites.{Printed}
use Rattle.script_prints.proofs.+print_digits.Goals as goal
use Rattle.script_prints.proofs.+print_digits.Goals.{then-number-ge-TWO_DIGITS, else-number-ge-TWO_DIGITS}

-- What stands before the last digit.
before_last : (t : ℕ) (c : goal.Joined-number-ge-TWO_DIGITS t) → Printed c.args.out.now c.args.at (front c.args.number) c.if-number-ge-TWO_DIGITS.last c.if-number-ge-TWO_DIGITS.out
before_last t c =
    elim c.if-number-ge-TWO_DIGITS.branch [
      | then-number-ge-TWO_DIGITS w ↦ front_printed c.args.out.now c.args.at c.args.number c.if-number-ge-TWO_DIGITS.last c.if-number-ge-TWO_DIGITS.out w.if-number-ge-TWO_DIGITS.true
          (w.last-is ∙ w.print_digits-last.ensures.value) (w.out-is ∙ w.print_digits-last.ensures.out_after)
      | else-number-ge-TWO_DIGITS w ↦ front_none c.args.out.now c.args.at c.args.number c.if-number-ge-TWO_DIGITS.last c.if-number-ge-TWO_DIGITS.out w.if-number-ge-TWO_DIGITS.false w.last-is w.out-is
    ]

pub print_digits-last-requires : goal.print_digits-last-requires
print_digits-last-requires t c =
    (omega (arith, c.decreases), omega (arith, c.requires, length_tenth c.args.number (omega arith) c.if-number-ge-TWO_DIGITS.true))

pub bounds-out-last : goal.bounds-out-last
bounds-out-last t c =
    let p = before_last t c in
    omega (arith, p.0, c.requires, c.if-number-ge-TWO_DIGITS.auto.out, length_front c.args.number (omega arith))

pub overflow_add-result : goal.overflow_add-result
overflow_add-result t c =
    let p = before_last t c.before in
    omega (arith, p.0, c.requires, c.if-number-ge-TWO_DIGITS.auto.out, length_front c.args.number (omega arith))

pub returns-clause-value : goal.returns-clause-value
returns-clause-value t c =
    let p = before_last t c.before in
    (last_printed c.args.out.now c.args.at c.args.number c.if-number-ge-TWO_DIGITS.last c.if-number-ge-TWO_DIGITS.out (omega arith) c.requires c.if-number-ge-TWO_DIGITS.auto.out p).0

pub returns-clause-out_after : goal.returns-clause-out_after
returns-clause-out_after t c =
    let p = before_last t c.before in
    (last_printed c.args.out.now c.args.at c.args.number c.if-number-ge-TWO_DIGITS.last c.if-number-ge-TWO_DIGITS.out (omega arith) c.requires c.if-number-ge-TWO_DIGITS.auto.out p).1
