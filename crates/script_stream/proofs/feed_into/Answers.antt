-- `script_stream::feed_into`: the loop keeps that the bytes that are left lead from where the script stands to where the block leads.
use Rattle.std.proofs.Common.{arith}
use Rattle.script_buffer.specs.Room.{standing_in}
use Rattle.script_stream.proofs.Steps.{feeds_one, feeds_all}
use Rattle.script_stream.proofs.feed_into.Goals as goal

pub loop-byte-preserved : goal.loop-byte-preserved
loop-byte-preserved c =
    let l = c.loop-byte in (
      omega (arith, l.invariant.0, c.take_byte_into-end.ensures.waiting_bound),
      feeds_one c.args.block.now l.byte-index (standing_in l.store l.line l.output l.end) _ _ c.loop-byte-test.true l.invariant.1
          c.take_byte_into-end.ensures.result_after,
    )

pub returns-clause-result_after : goal.returns-clause-result_after
returns-clause-result_after c =
    let l = c.loop-byte in
    feeds_all c.args.block.now l.byte-index (standing_in l.store l.line l.output l.end) _ c.loop-byte-test.false l.invariant.1
