-- `run_script::serve`: each turn goes on from the blocks that led to it.
use Rattle.std.proofs.Common.{refl, ◌∙◌}
use Rattle.run_script.proofs.Runs.{begins, goes_further}
use Rattle.run_script.proofs.serve.Goals as goal

pub loop-init : goal.loop-init
loop-init g c = (c.requires.none_waits, refl, begins _ _)

pub loop-preserved : goal.loop-preserved
loop-preserved g c =
    (c.serve_block.ensures.none_waits, c.serve_block.auto.input ∙ c.loop.invariant.1, goes_further refl c.loop.invariant.2 c.if-not-serve_block.ensures.turn)

pub returns-then-not-serve_block : goal.returns-then-not-serve_block
returns-then-not-serve_block g c = (goes_further refl c.loop.invariant.2 c.serve_block.ensures.turn).run
