-- `merge_join::merge`: whatever levels the table held, what each call leaves is what the next one asks for, and the last leaves the merged level.
use native.Mathlib.Omega.{arith}
use Rattle.merge_join.proofs.Merging.{meeting, point_chains, range_chains, united_chains, held_few, held_rest, merge_leaves}
use Rattle.merge_join.proofs.Merging.{strike_asks, splice_points_asks, unite_asks, splice_ranges_asks}
use Rattle.merge_join.proofs.merge.Goals as goal

pub strike-struck-requires : goal.strike-struck-requires
strike-struck-requires c =
    record { value = meeting c.requires.value; has = strike_asks c.requires.has }

pub splice-points-requires : goal.splice-points-requires
splice-points-requires c =
    let h = c.requires.has in
    let struck = c.strike-struck.ensures _ (strike_asks h) in
    record { value = point_chains c.requires.value; has = splice_points_asks h struck }

pub unite-united-requires : goal.unite-united-requires
unite-united-requires c =
    let h = c.requires.has in
    let struck = c.strike-struck.ensures _ (strike_asks h) in
    let points = c.splice-points.ensures _ (splice_points_asks h struck) in
    record { value = range_chains c.requires.value; has = unite_asks h points }

pub splice-ranges-requires : goal.splice-ranges-requires
splice-ranges-requires c =
    let h = c.requires.has in
    let struck = c.strike-struck.ensures _ (strike_asks h) in
    let points = c.splice-points.ensures _ (splice_points_asks h struck) in
    let united = c.unite-united.ensures _ (unite_asks h points) in
    record { value = united_chains c.requires.value; has = splice_ranges_asks h united }

pub overflow_add-held : goal.overflow_add-held
overflow_add-held c =
    omega (arith, held_few c.requires.has)

pub overflow_sub-held : goal.overflow_sub-held
overflow_sub-held c =
    let h = c.requires.has in
    let struck = c.strike-struck.ensures _ (strike_asks h) in
    let points = c.splice-points.ensures _ (splice_points_asks h struck) in
    let united = c.unite-united.ensures _ (unite_asks h points) in
    omega (arith, held_rest h struck united)

pub overflow_sub-held-2 : goal.overflow_sub-held-2
overflow_sub-held-2 c =
    let h = c.requires.has in
    let struck = c.strike-struck.ensures _ (strike_asks h) in
    let points = c.splice-points.ensures _ (splice_points_asks h struck) in
    let united = c.unite-united.ensures _ (unite_asks h points) in
    omega (arith, held_rest h struck united)

pub returns : goal.returns
returns c =
    λ g h.
    let struck = c.strike-struck.ensures _ (strike_asks h) in
    let points = c.splice-points.ensures _ (splice_points_asks h struck) in
    let united = c.unite-united.ensures _ (unite_asks h points) in
    let ranges = c.splice-ranges.ensures _ (splice_ranges_asks h united) in
    merge_leaves h struck points united ranges c.earlier.ensures
