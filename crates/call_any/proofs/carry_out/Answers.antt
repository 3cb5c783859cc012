-- `call_any::carry_out`: the work is the definition's, so what is handed to the end of the call is too, and the end is the call's.
use Rattle.std.proofs.Common.{rules, arith, ◌≡◌, ◌+◌}
use Rattle.model.specs.Records.{held_all}
use Rattle.model.specs.Calls.{count_written}
use Rattle.tables.specs.Placed.{read_state}
use Rattle.call_refusal.proofs.Begun.{begun_laid}
use Rattle.merge_levels.proofs.Free.{laid_rows}
use Rattle.call_op.specs.Ops.{op_of}
use Rattle.call_tables.proofs.Bounds.{written_most}
use Rattle.call_any.proofs.Ends.{ending, ends, full}
use Rattle.call_any.proofs.carry_out.Goals as goal

pub held_all-requires : goal.held_all-requires
held_all-requires c = record { value = _; has = laid_rows _ _ _ (begun_laid c.requires) }

pub overflow_add-before : goal.overflow_add-before
overflow_add-before c =
    let rows = laid_rows _ _ _ (begun_laid c.requires) in
    omega (arith, c.held_all.ensures _ rows, c.records_written.ensures, rows.few, written_most (op_of c.args.op))

pub returns-in_err-merges : goal.returns-in_err-merges
returns-in_err-merges c =
    let refused = full c.requires _ (rw c.in_err-merges.was at c.prepare.ensures) in
    search rules

pub finish-requires : goal.finish-requires
finish-requires c =
    let rows = laid_rows _ _ _ (begun_laid c.requires) in
    record { value = _; has = ending c.requires (rw c.in_ok-merges.was at c.prepare.ensures) (omega (arith, c.held_all.ensures _ rows, c.records_written.ensures)) }

pub returns : goal.returns
returns c =
    let rows = laid_rows _ _ _ (begun_laid c.requires) in
    let done = rw c.in_ok-merges.was at c.prepare.ensures in
    let a = c.args in
    let before : c.held_all.result + c.records_written.result ≡ held_all (read_state a.entries.now a.levels.now).levels + count_written (op_of a.op) =
    omega (arith, c.held_all.ensures _ rows, c.records_written.ensures) in
    ends c.requires done before (c.finish.ensures _ (ending c.requires done before))
