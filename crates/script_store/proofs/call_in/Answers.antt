-- `script_store::call_in`: the call is lent the words of the store alone, and what it leaves of them stands before the rest of the memory.
use Rattle.call_op.specs.Ops.{op_of}
use Rattle.script_store.proofs.Turns.{done}
use Rattle.script_store.proofs.call_in.Goals as goal

pub returns : goal.returns
returns c =
    let a = c.args in
    done c.requires a.size c.entry_length-words.ensures c.level_length-rows.ensures (record { clock = a.clock; op = op_of a.op })
    c.call.new.entries c.call.new.levels c.call.result c.call.ensures c.call.auto.entries c.call.auto.levels
