-- The loop keeps: what is carried is that of its level, and the pass from that level on leads to what the whole pass leads to.
use native.Mathlib.Omega.{arith}
use Rattle.merge_levels.proofs.Store.{laid_length}
use Rattle.merge_levels.proofs.Turns.{reached_store, few_more, reached_next, reached_end}
use Rattle.merge_pass.proofs.Passing.{pass_counts, pass_begun, reached_as}
use Rattle.merge_pass.proofs.Passing.{read_allowed, read_ok, read_above, read_below, read_carried, read_same, first_here, next_here}
use Rattle.merge_pass.proofs.pass.Goals as goal

pub settings_of-settings-requires : goal.settings_of-settings-requires
settings_of-settings-requires c =
    omega (arith, laid_length _ _ _ c.requires.has.0)

pub at_level-at-requires : goal.at_level-at-requires
at_level-at-requires c =
    let laid = c.requires.has.0 in
    let read = c.settings_of-settings.ensures in
    record { self_value = read_ok _ _ _ laid _ read; level_lt_deepest = omega (arith, (read_allowed _ _ _ laid _ read).deepest_low) }

pub loop-at-init : goal.loop-at-init
loop-at-init c =
    let first = first_here _ _ c.at_level-at.ensures in
    (first.0, omega (arith, first.1), λ g laid now. reached_as first.1 (pass_begun _ g _ _ laid))

pub pass_level-merges-requires : goal.pass_level-merges-requires
pass_level-merges-requires c =
    let h = c.requires in
    let i = c.loop-at.invariant in
    let w = i.2 h.value h.has.0 h.has.1 in
    let read = c.settings_of-settings.ensures in
    record {
      carried = read_carried _ _ _ h.has.0 _ read _ i.0 c.loop-at-test.true;
      exists = record { value = reached_store w; has = (w.worked.laid, h.has.1, read_same _ _ _ h.has.0 _ read _ i.0 w) };
    }

pub overflow_add-merges : goal.overflow_add-merges
overflow_add-merges c =
    let h = c.requires in
    let i = c.loop-at.invariant in
    let w = i.2 h.value h.has.0 h.has.1 in
    let read = c.settings_of-settings.ensures in
    let done = c.pass_level-merges.ensures (reached_store w) w.worked.laid h.has.1 (read_same _ _ _ h.has.0 _ read _ i.0 w) in
    let few = few_more (pass_counts c.args.clock) w (read_above _ _ _ h.has.0 _ read _ c.loop-at-test.true) done in
    omega (arith, few, c.loop-at-test.true, (read_allowed _ _ _ h.has.0 _ read).deepest_high)

pub next-at-requires : goal.next-at-requires
next-at-requires c =
    read_carried _ _ _ c.requires.has.0 _ c.settings_of-settings.ensures _ c.loop-at.invariant.0 c.loop-at-test.true

pub loop-at-smaller : goal.loop-at-smaller
loop-at-smaller c =
    omega (arith, (next_here _ _ _ c.loop-at.invariant.0 c.next-at.ensures).1, c.loop-at-test.true)

pub loop-at-preserved : goal.loop-at-preserved
loop-at-preserved c =
    let i = c.loop-at.invariant in
    let next = next_here _ _ _ i.0 c.next-at.ensures in
    let read = c.settings_of-settings.ensures in (
      next.0,
      omega (arith, next.1, c.loop-at-test.true),
      λ g laid now.
          let w = i.2 g laid now in
          let done = c.pass_level-merges.ensures (reached_store w) w.worked.laid now (read_same _ _ _ laid _ read _ i.0 w) in
          reached_as next.1 (reached_next (pass_counts c.args.clock) w (read_above _ _ _ laid _ read _ c.loop-at-test.true) done),
    )

pub returns : goal.returns
returns c =
    λ g laid now.
    reached_end (c.loop-at.invariant.2 g laid now) (read_below _ _ _ laid _ c.settings_of-settings.ensures _ c.loop-at-test.false)
