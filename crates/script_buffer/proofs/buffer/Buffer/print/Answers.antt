-- `script_buffer::Buffer::print`: a line takes at most 44 bytes.
use Rattle.std.proofs.Common.{arith}
use Rattle.script_prints.proofs.Digits.{length-printed}
use Rattle.script_buffer.proofs.buffer.Buffer.print.Goals as goal

pub invariant_of-self : goal.invariant_of-self
invariant_of-self g c = omega (arith, length-printed c.args.printed, c.print_numbers-self.ensures.value, c.requires)
