-- `script_prints::print_all`: each number is printed where the one before it ends.
use Rattle.std.proofs.Common.{◌≡◌, sym, ap, ◌∙◌, ◌+◌, ◌++◌, get_or, drop, arith}
use Rattle.script_prints.specs.Texts.{field_text, numbers_text}
use Rattle.script_prints.proofs.Several.{followed, last, printing_none, printing_one, printing_all}
use Rattle.script_prints.proofs.print_all.Goals as goal
use Rattle.script_prints.proofs.print_all.Goals.{then-i-numbers, else-i-numbers}

pub loop-i-init : goal.loop-i-init
loop-i-init c = printing_none _ _ _

pub print_field-end-requires : goal.print_field-end-requires
print_field-end-requires c = omega (arith, c.loop-i.invariant.few, c.loop-i.invariant.kept)

pub loop-i-preserved : goal.loop-i-preserved
loop-i-preserved c =
    let numbers = c.args.numbers.now in
    let i = c.loop-i.i in
    let rest = numbers_text (drop (i + 1) numbers) in
    let number = get_or numbers i 0 in
    let split : numbers_text (drop i numbers) ≡ field_text number c.if-i-numbers.ending ++ rest =
    elim c.if-i-numbers.branch [
      | then-i-numbers w ↦ followed numbers i c.loop-i-test.true w.if-i-numbers.true ∙ ap (λ e. field_text number e ++ rest) (sym w.ending-is)
      | else-i-numbers w ↦ last numbers i c.loop-i-test.true w.if-i-numbers.false ∙ ap (λ e. field_text number e ++ rest) (sym w.ending-is)
    ] in
    printing_one c.args.out.now c.args.at numbers c.loop-i.out c.loop-i.end i c.loop-i.invariant number c.if-i-numbers.ending c.print_field-end.result c.print_field-end.new.out
    (omega (arith, c.loop-i.invariant.few, c.loop-i.invariant.kept, c.requires, c.loop-i-test.true)) c.print_field-end.auto.out split
    (c.print_field-end.ensures.value, c.print_field-end.ensures.out_after)

pub returns-clause-value : goal.returns-clause-value
returns-clause-value c = (printing_all _ _ _ _ _ _ c.loop-i.invariant c.loop-i-test.false).0

pub returns-clause-out_after : goal.returns-clause-out_after
returns-clause-out_after c = (printing_all _ _ _ _ _ _ c.loop-i.invariant c.loop-i-test.false).1
