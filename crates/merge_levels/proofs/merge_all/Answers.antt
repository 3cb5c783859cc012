-- The loop keeps: the merges from level i on lead to what all merges lead to.
use native.Mathlib.Omega.{arith}
use Rattle.merge_levels.proofs.Store.{laid_length, laid_below, laid_deepest, laid_allowed}
use Rattle.merge_levels.proofs.Turns.{merge_counts, reached_store, reached_level, reached_next, reached_end, merge_all_begun}
use Rattle.merge_levels.proofs.merge_all.Goals as goal

pub deepest_of-i-end-requires : goal.deepest_of-i-end-requires
deepest_of-i-end-requires c =
    omega (arith, laid_length _ _ _ c.requires.has)

pub loop-i-init : goal.loop-i-init
loop-i-init c =
    λ g laid. merge_all_begun g _ _ laid

pub merge_level-merges-requires : goal.merge_level-merges-requires
merge_level-merges-requires c =
    let h = c.requires in
    let w = c.loop-i.invariant h.value h.has in
    let deep = laid_below _ _ _ h.has _ c.deepest_of-i-end.ensures _ c.loop-i-test.true in
    record { value = reached_store w; has = (w.worked.laid, reached_level w deep) }

pub loop-i-preserved : goal.loop-i-preserved
loop-i-preserved c =
    λ g laid.
    let w = c.loop-i.invariant g laid in
    let deep = laid_below _ _ _ laid _ c.deepest_of-i-end.ensures _ c.loop-i-test.true in
    reached_next merge_counts w deep (c.merge_level-merges.ensures (reached_store w) w.worked.laid (reached_level w deep))

pub overflow_add-merges : goal.overflow_add-merges
overflow_add-merges c =
    let h = c.requires in
    let next = loop-i-preserved c h.value h.has in
    omega (arith, next.few, next.here, laid_allowed _ _ _ h.has)

pub returns : goal.returns
returns c =
    λ g laid. reached_end (c.loop-i.invariant g laid) (omega (arith, c.loop-i-test.false, c.deepest_of-i-end.ensures, laid_deepest _ _ _ laid))
