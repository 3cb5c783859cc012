-- `script_buffer::Buffer::keep`: a byte takes the first place of the rest.
use Rattle.script_buffer.proofs.Steps.{one_fewer}
use Rattle.script_buffer.proofs.buffer.Buffer.keep.Goals as goal

pub returns-then-self-clause-rest : goal.returns-then-self-clause-rest
returns-then-self-clause-rest g c = one_fewer c.args.self.now.bytes c.args.self.now.count c.args.byte
