-- `script_command::run_line`: a line that is read is carried out as its command, any other is answered by 9.
use Rattle.std.proofs.Common.{sym, ap, ◌∙◌}
use Rattle.script_store.specs.Coded.{answering}
use Rattle.script_store.specs.Stores.{memory_of, stepped_to}
use Rattle.script_command.proofs.Commands.{unreadable, commanded}
use Rattle.script_command.proofs.run_line.Goals as goal

pub returns-in_default : goal.returns-in_default
returns-in_default c =
    ap (stepped_to c.args.store.now) (c.alone.ensures ∙ ap answering c.number.ensures)
    ∙ unreadable _ (memory_of c.args.store.now) (sym c.read_line.ensures ∙ c.in_default.is)

pub returns : goal.returns
returns c =
    commanded _ c.in-Some.command (memory_of c.args.store.now) _ (sym c.read_line.ensures ∙ c.in-Some.is) c.run_command.ensures
