-- `script_stream::finish_into`: with no byte of a line kept nothing is left to do, and with some the line ends as if a line feed had come.
use Rattle.std.proofs.Common.{rules, ◌≡◌, ◌≢◌, ◌≤◌, length, arith}
use Rattle.script_buffer.specs.Room.{progress_in}
use Rattle.script_stream.proofs.Steps.{finishes_none, finishes_line}
use Rattle.script_stream.proofs.finish_into.Goals as goal

pub returns-then-is_empty-clause-result_after : goal.returns-then-is_empty-clause-result_after
returns-then-is_empty-clause-result_after c =
    let a = c.args in
    let store = a.store.now in
    let none : a.line.now.count ≡ 0 = search rules in
    finishes_none store.entries store.levels a.line.now.bytes a.output.now (progress_in store a.line.now a.waiting) none

pub returns-clause-result_after : goal.returns-clause-result_after
returns-clause-result_after c =
    let a = c.args in
    let store = a.store.now in
    let line = a.line.now in
    let whole : length line.bytes ≡ 64 = line.whole in
    let within : line.count ≤ 64 = line.within in
    let some : line.count ≢ 0 = search rules in
    finishes_line store.entries store.levels line.bytes a.output.now (progress_in store line a.waiting) _ (omega (arith, whole, within)) some
    c.end_line_into.ensures.result_after
