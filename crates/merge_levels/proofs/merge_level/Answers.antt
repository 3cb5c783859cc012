-- The join is of levels i and i+1 of every store that the tables hold, and the two rows are then those of the merged state.
use mathlib.Core.Path.{ap}
use native.Mathlib.Omega.{arith}
use Rattle.std.proofs.Common.{rules}
use lib.ListN.{length}
use Rattle.tables.proofs.Rows.{length-set_row}
use Rattle.merge_levels.proofs.Pair.{pair, pair_held, pair_joined, rows_in, shallow, row_small, merged_worked, counts_none, counts_one}
use Rattle.merge_levels.proofs.merge_level.Goals as goal

pub level_at-upper-requires : goal.level_at-upper-requires
level_at-upper-requires c =
    omega (arith, rows_in _ _ _ c.requires.has.0 _ c.requires.has.1)

pub overflow_add-i : goal.overflow_add-i
overflow_add-i c =
    omega (arith, shallow _ _ _ c.requires.has.0 _ c.requires.has.1)

pub level_at-lower-requires : goal.level_at-lower-requires
level_at-lower-requires c =
    omega (arith, rows_in _ _ _ c.requires.has.0 _ c.requires.has.1)

pub overflow_add-deepest : goal.overflow_add-deepest
overflow_add-deepest c =
    omega (arith, shallow _ _ _ c.requires.has.0 _ c.requires.has.1)

pub deepest_of-requires : goal.deepest_of-requires
deepest_of-requires c =
    omega (arith, rows_in _ _ _ c.requires.has.0 _ c.requires.has.1)

pub join-joined-requires : goal.join-joined-requires
join-joined-requires c =
    let h = c.requires in
    record {
      value = pair h.value c.args.i;
      has = pair_held _ _ _ h.has.0 _ h.has.1 _ _ c.level_at-upper.ensures c.level_at-lower.ensures;
    }

pub clear_level-requires : goal.clear_level-requires
clear_level-requires c =
    omega (arith, rows_in _ _ _ c.requires.has.0 _ c.requires.has.1)

pub overflow_add-i-2 : goal.overflow_add-i-2
overflow_add-i-2 c =
    omega (arith, shallow _ _ _ c.requires.has.0 _ c.requires.has.1)

pub set_level-requires : goal.set_level-requires
set_level-requires c =
    let h = c.requires.has in
    let joined = pair_joined _ _ _ h.0 _ h.1 _ _ c.level_at-upper.ensures c.level_at-lower.ensures _ c.deepest_of.ensures (search rules) _ _ c.join-joined.ensures in
    let same = simp length-set_row at (ap length c.clear_level.ensures) in
    record { in_rows = omega (arith, rows_in _ _ _ h.0 _ h.1, same); points_bound = row_small _ _ _ _ joined }

pub returns-then-upper-eq0 : goal.returns-then-upper-eq0
returns-then-upper-eq0 c =
    λ g laid deep.
    let joined = pair_joined g _ _ laid _ deep _ _ c.level_at-upper.ensures c.level_at-lower.ensures _ c.deepest_of.ensures (search rules) _ _ c.join-joined.ensures in
    merged_worked g _ _ laid _ deep _ _ _ 0 joined (rw c.clear_level.ensures at c.set_level.ensures)
    (counts_none g _ _ laid _ deep _ c.level_at-upper.ensures c.if-upper-eq0.true)

pub returns-else-upper-eq0 : goal.returns-else-upper-eq0
returns-else-upper-eq0 c =
    λ g laid deep.
    let joined = pair_joined g _ _ laid _ deep _ _ c.level_at-upper.ensures c.level_at-lower.ensures _ c.deepest_of.ensures (search rules) _ _ c.join-joined.ensures in
    merged_worked g _ _ laid _ deep _ _ _ 1 joined (rw c.clear_level.ensures at c.set_level.ensures)
    (counts_one g _ _ laid _ deep _ c.level_at-upper.ensures c.if-upper-eq0.false)
