-- `call_prepare::prepare`: each arm does the work of the operation that it is for; a write is handed its record.
use mathlib.Core.Path.{sym, ◌∙◌}
use Rattle.call_op.proofs.Known.{is_flush, is_tick}
use Rattle.call_refusal.proofs.Begun.{begun_deep, begun_laid}
use Rattle.call_prepare.proofs.Works.{writes, flushes, ticks}
use Rattle.call_prepare.proofs.prepare.Goals as goal

pub write-requires : goal.write-requires
write-requires c =
    let x = writes _ c.requires (sym c.in-Write.is ∙ c.work.ensures) in
    record { value = x.value; has = x.has.1 }

pub merge_level-requires : goal.merge_level-requires
merge_level-requires c =
    let b = rw (is_flush _ (sym c.work.ensures ∙ c.in-Merge.is)) at c.requires in
    record { value = _; has = (begun_laid b, begun_deep b) }

pub returns-in-Write : goal.returns-in-Write
returns-in-Write c =
    let x = writes _ c.requires (sym c.in-Write.is ∙ c.work.ensures) in
    rw x.has.0 (c.write.ensures x.value x.has.1)

pub returns-in-Merge : goal.returns-in-Merge
returns-in-Merge c =
    let flushed = is_flush _ (sym c.work.ensures ∙ c.in-Merge.is) in
    let b = rw flushed at c.requires in
    rw flushed (flushes (c.merge_level.ensures _ (begun_laid b) (begun_deep b)))

pub returns-in-Nothing : goal.returns-in-Nothing
returns-in-Nothing c =
    let ticked = is_tick _ (sym c.work.ensures ∙ c.in-Nothing.is) in
    let b = rw ticked at c.requires in
    rw ticked (ticks (begun_laid b))
