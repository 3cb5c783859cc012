-- The bytes that are left lead from where the script stands to where the block leads.
use Rattle.std.proofs.Common.{◌≡◌, ◌+◌, ◌*◌, ◌≤◌, drop}
use Rattle.script_buffer.specs.Room.{standing_in}
use Rattle.script_stream.specs.Blocks.{fed}
use Rattle.script_stream.proofs.feed_into.Given as goal

abbrev pub invariant-loop-byte : goal.invariant-loop-byte
invariant-loop-byte l =
    (l.end ≤ l.initial.end + 44 * l.byte-index)
    × (fed (drop l.byte-index l.block) (standing_in l.store l.line l.output l.end)
    ≡ fed l.block (standing_in l.initial.store l.initial.line l.initial.output l.initial.end))
