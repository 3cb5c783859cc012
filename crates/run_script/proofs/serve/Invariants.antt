-- Blocks led to where the script stands, nothing waits, and the input has not ended.
use Rattle.std.proofs.Common.{◌≡◌, true, length}
use Rattle.script_buffer.specs.Room.{standing_of}
use Rattle.run_script.proofs.Runs.{Going}
use Rattle.run_script.proofs.serve.Given as goal

abbrev pub invariant-loop : goal.invariant-loop
invariant-loop g l =
    (l.script.output.count ≡ 0) × (length l.input ≡ length l.initial.input) × Going (standing_of l.initial.script) (standing_of l.script) true
