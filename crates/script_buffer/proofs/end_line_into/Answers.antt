-- `script_buffer::end_line_into`: the line that is kept is carried out, and what it answers is printed after what waited.
use Rattle.std.proofs.Common.{rules, ap, ◌∙◌, arith}
use Rattle.script_lines.specs.Lines.{line_of}
use Rattle.script_prints.proofs.Digits.{length-printed}
use Rattle.script_store.specs.Stores.{memory_of}
use Rattle.script_command.specs.Script.{line_step}
use Rattle.script_buffer.specs.Room.{progress_in}
use Rattle.script_buffer.proofs.Steps.{ends, emptied}
use Rattle.script_buffer.proofs.end_line_into.Goals as goal

pub returns-clause-result_after : goal.returns-clause-result_after
returns-clause-result_after c =
    let a = c.args in
    let before = a.store.now in
    let store = c.run_line-printed.new.store in
    let output = c.print_numbers.new.out in
    let waiting = c.print_numbers.result in
    emptied store.entries store.levels a.line.now.bytes output
    (record { slots = store.size.slots; deepest = store.size.deepest; length = 0; waiting = waiting }) (search rules) (search rules)
    ∙ ends before.entries before.levels a.line.now.bytes a.output.now (progress_in before a.line.now a.waiting) store.entries store.levels output
    store.size.slots store.size.deepest c.run_line-printed.result waiting (omega arith) c.requires
    (c.run_line-printed.ensures ∙ ap (λ text. line_step (line_of text) (memory_of before)) c.as_slice.ensures)
    (c.print_numbers.ensures.value, c.print_numbers.ensures.out_after)

pub returns-clause-waiting_bound : goal.returns-clause-waiting_bound
returns-clause-waiting_bound c = omega (arith, length-printed c.run_line-printed.result, c.print_numbers.ensures.value)
