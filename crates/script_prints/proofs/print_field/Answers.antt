-- `script_prints::print_field`: the digits are a text at the position, the ending is a text after them, and both together are the field.
use Rattle.std.proofs.Common.{[], ◌∷◌, arith}
use Rattle.script_prints.specs.Texts.{decimal_text}
use Rattle.script_prints.proofs.Digits.{length_decimal}
use Rattle.script_prints.proofs.Overwrites.{printed_byte, printed_append}
use Rattle.script_prints.proofs.print_field.Goals as goal

pub print_digits-end-requires : goal.print_digits-end-requires
print_digits-end-requires c = omega (arith, length_decimal c.args.number)

pub bounds-out-end : goal.bounds-out-end
bounds-out-end c = omega (arith, c.print_digits-end.ensures.value, c.print_digits-end.auto.out, length_decimal c.args.number)

pub overflow_add-result : goal.overflow_add-result
overflow_add-result c = omega (arith, c.print_digits-end.ensures.value, length_decimal c.args.number)

pub returns-clause-out_after : goal.returns-clause-out_after
returns-clause-out_after c =
    let a = c.args in
    let few = length_decimal a.number in
    let room = c.print_digits-end.ensures.value in
    (printed_append a.out.now _ _ a.at _ _ (decimal_text a.number) (a.ending ∷ []) (omega (arith, few))
    (room, c.print_digits-end.ensures.out_after)
    (printed_byte _ _ _ (omega (arith, few, room, c.print_digits-end.auto.out)))).1
