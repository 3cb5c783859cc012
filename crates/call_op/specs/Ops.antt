-- The code's operation as the definitions'.
use Rattle.model.specs.declared.Tally.{Tally}
use Rattle.model.specs.Steps.{put, delete, delete_range}
use Rattle.model.specs.Calls as model
use Rattle.call_op.specs.declared.Op.{Op}
use Rattle.call_op.specs.declared.Op.TheVariants.{Put, Delete, DeleteRange, Flush, Tick}

abbrev pub op_of : Op → model.Op Tally
op_of (Put docket tally) = model.written (put docket tally)
op_of (Delete docket) = model.written (delete docket)
op_of (DeleteRange lo hi date) = model.written (delete_range lo hi date)
op_of Flush = model.flush
op_of Tick = model.tick
