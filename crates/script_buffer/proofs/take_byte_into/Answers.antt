-- `script_buffer::take_byte_into`: a line feed ends the line as `end_line_into` does, and any other byte is kept.
use Rattle.std.proofs.Common.{rules}
use Rattle.script_buffer.specs.Room.{standing_in, progress_in}
use Rattle.script_buffer.proofs.Steps.{takes_end, takes_byte}
use Rattle.script_buffer.proofs.take_byte_into.Goals as goal

pub returns-then-byte-eq10-clause-result_after : goal.returns-then-byte-eq10-clause-result_after
returns-then-byte-eq10-clause-result_after c =
    let a = c.args in
    takes_end a.byte (standing_in a.store.now a.line.now a.output.now a.waiting) _ c.if-byte-eq10.true c.end_line_into.ensures.result_after

pub returns-clause-result_after : goal.returns-clause-result_after
returns-clause-result_after c =
    let a = c.args in
    let store = a.store.now in
    takes_byte store.entries store.levels a.line.now.bytes a.output.now (progress_in store a.line.now a.waiting) a.byte
    c.keep.new.self.count c.keep.new.self.bytes (search rules) c.if-byte-eq10.false c.keep.ensures.kept c.keep.ensures.rest
