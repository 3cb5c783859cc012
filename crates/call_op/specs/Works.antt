-- What an operation does before its pass.
use Rattle.model.specs.declared.Tally.{Tally}
use Rattle.model.specs.Calls.{Op, written, flush, tick}
use Rattle.write_record.specs.Records.{record_of}
use Rattle.call_op.specs.declared.Work.{Work}
use Rattle.call_op.specs.declared.Work.TheVariants.{Write, Merge, Nothing}

-- A write puts its record, a flush merges the buffer, a tick does the pass alone.
abbrev pub work_of : Op Tally → Work
work_of (written w) = Write (record_of w)
work_of flush = Merge
work_of tick = Nothing
