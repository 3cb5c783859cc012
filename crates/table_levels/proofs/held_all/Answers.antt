-- `held_all`: the loop keeps that the sum so far, with what the levels from i on hold, is what all hold.
use Rattle.std.proofs.Common.{arith}
use Rattle.table_levels.proofs.Adds.{adds_nothing, adds_one, adds_all, rows_length}
use Rattle.table_levels.proofs.held_all.Goals as goal

pub deepest_of-i-end-requires : goal.deepest_of-i-end-requires
deepest_of-i-end-requires c = let x = c.requires in omega (arith, rows_length x.value _ x.has)

pub loop-i-init : goal.loop-i-init
loop-i-init c = λ p r. rw c.deepest_of-i-end.ensures (adds_nothing p _ r)

pub loop-i-preserved : goal.loop-i-preserved
loop-i-preserved c = λ p r. rw c.held_at-held.ensures (adds_one p _ r _ _ _ (c.loop-i.invariant p r) c.loop-i-test.true)

pub overflow_add-held : goal.overflow_add-held
overflow_add-held c = let x = c.requires in omega (arith, (loop-i-preserved c x.value x.has).sum_is, x.has.few)

pub returns : goal.returns
returns c = λ p r. adds_all p _ r _ _ _ (c.loop-i.invariant p r) c.loop-i-test.false
