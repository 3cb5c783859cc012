-- A write that failed gives the writer nothing, and each failure leaves fewer tries.
use Rattle.std.specs.Io.KnownBytes.{Keeps}
use Rattle.run_script.proofs.retry.write_some.Given as goal

abbrev pub invariant-loop-tries : goal.invariant-loop-tries
invariant-loop-tries g l = Keeps (g.W.Write.contents l.initial.writer) (g.W.Write.contents l.writer)

abbrev pub decreases-loop-tries : goal.decreases-loop-tries
decreases-loop-tries g l = l.tries
