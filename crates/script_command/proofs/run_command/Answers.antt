-- `script_command::run_command`: each arm carries out the command that it is for, and a call before any making is answered by 9.
use Rattle.std.proofs.Common.{sym, ap, ◌∙◌}
use Rattle.script_store.specs.Coded.{answering}
use Rattle.script_store.specs.Stores.{memory_of, stepped_to}
use Rattle.script_command.proofs.Commands.{carried, early}
use Rattle.script_command.proofs.run_command.Goals as goal

pub returns-then-is_early : goal.returns-then-is_early
returns-then-is_early c =
    ap (stepped_to c.args.store.now) (c.alone.ensures ∙ ap answering c.number.ensures)
    ∙ early c.args.command (memory_of c.args.store.now) (sym c.is_early.ensures ∙ c.if-is_early.true)

pub returns-in-Make : goal.returns-in-Make
returns-in-Make c =
    carried _ _ (memory_of c.args.store.now) _ (sym c.is_early.ensures ∙ c.if-is_early.false) c.in-Make.is c.run_make.ensures

pub returns-in-Put : goal.returns-in-Put
returns-in-Put c =
    carried _ _ (memory_of c.args.store.now) _ (sym c.is_early.ensures ∙ c.if-is_early.false) c.in-Put.is c.run_call.ensures

pub returns-in-Delete : goal.returns-in-Delete
returns-in-Delete c =
    carried _ _ (memory_of c.args.store.now) _ (sym c.is_early.ensures ∙ c.if-is_early.false) c.in-Delete.is c.run_call-in-Delete.ensures

pub returns-in-DeleteRange : goal.returns-in-DeleteRange
returns-in-DeleteRange c =
    carried _ _ (memory_of c.args.store.now) _ (sym c.is_early.ensures ∙ c.if-is_early.false) c.in-DeleteRange.is c.run_call-in-DeleteRange.ensures

pub returns-in-DeleteRangeDated : goal.returns-in-DeleteRangeDated
returns-in-DeleteRangeDated c =
    carried _ _ (memory_of c.args.store.now) _ (sym c.is_early.ensures ∙ c.if-is_early.false) c.in-DeleteRangeDated.is c.run_call-in-DeleteRangeDated.ensures

pub returns-in-Flush : goal.returns-in-Flush
returns-in-Flush c =
    carried _ _ (memory_of c.args.store.now) _ (sym c.is_early.ensures ∙ c.if-is_early.false) c.in-Flush.is c.run_call-in-Flush.ensures

pub returns-in-Tick : goal.returns-in-Tick
returns-in-Tick c =
    carried _ _ (memory_of c.args.store.now) _ (sym c.is_early.ensures ∙ c.if-is_early.false) c.in-Tick.is c.run_call-in-Tick.ensures

pub returns-in-Lookup : goal.returns-in-Lookup
returns-in-Lookup c =
    carried _ _ (memory_of c.args.store.now) _ (sym c.is_early.ensures ∙ c.if-is_early.false) c.in-Lookup.is c.run_lookup.ensures
