-- The later date is read, points and a doubled range are sieved out, a free slot is taken, and its cell is put among the ranges.
use native.Mathlib.Omega.{arith}
use mathlib.Core.List.{List, ◌∷◌, map}
use Rattle.tables.specs.Placed.{Cell, point_cell, range_cell}
use borrow.Author.Rules.{rules}
use Rattle.chain_sieve.specs.Doomed.{has_span}
use Rattle.chain_sieve.proofs.Decisions.{decides}
use Rattle.write_record.specs.Records.{displaces}
use Rattle.write_enter.specs.Entering.{Entry}
use Rattle.write_enter.proofs.Entries.{kept_points, buffer_points, points_asked, points_head, points_count}
use Rattle.write_enter.proofs.Entries.{all_ranges, ranges_held, kept_ranges, buffer_ranges, ranges_asked, ranges_head, ranges_count, range_room}
use Rattle.write_enter.proofs.Entries.{united_fits, to_take, to_splice, slot_asked, chains_asked}
use Rattle.write_enter.proofs.Entered.{buffer_held, held_few, points_fewer, ranges_fewer, range_entered}
use Rattle.write_enter.proofs.enter_range.Goals as goal

-- The ranges that stay, and the chains beside them.
abbrev chain : Entry → List Cell
chain g = map range_cell (kept_ranges g)

abbrev others : Entry → List (List Cell)
others g = map point_cell (kept_points g) ∷ g.others

abbrev ranges : Entry → List Cell
ranges g = map range_cell g.buffer.ranges

pub unite-united-requires : goal.unite-united-requires
unite-united-requires c =
    record { value = all_ranges c.requires.enters.value; has = ranges_held c.requires.enters.has }

pub sieve-points-requires : goal.sieve-points-requires
sieve-points-requires c =
    record {
      held = record { value = buffer_points c.requires.enters.value; has = points_asked c.requires.enters.has };
      decides = record { value = displaces c.args.w; has = search (rules, decides) };
    }

pub sieve-ranges-requires : goal.sieve-ranges-requires
sieve-ranges-requires c =
    let s = c.sieve-points.ensures _ (displaces c.args.w) (search (rules, decides)) (points_asked c.requires.enters.has) in
    record {
      held = record { value = buffer_ranges c.requires.enters.value; has = ranges_asked c.requires.enters.has s };
      decides = record { value = has_span c.args.w.lo c.args.w.hi; has = search (rules, decides) };
    }

pub take-slot-requires : goal.take-slot-requires
take-slot-requires c =
    let g = c.requires.enters.value in
    let h = c.requires.enters.has in
    let w = c.unite-united.result in
    let fits = united_fits h (ranges g) (c.unite-united.ensures _ (ranges_held h)) in
    let s = c.sieve-points.ensures _ (displaces c.args.w) (search (rules, decides)) (points_asked h) in
    let room = range_room h c.requires.ranged (c.sieve-ranges.ensures _ (has_span c.args.w.lo c.args.w.hi) (search (rules, decides)) (ranges_asked h s)) in
    record { value = to_take h w (chain g) (others g); has = slot_asked h w (chain g) (others g) fits room }

pub splice-first-requires : goal.splice-first-requires
splice-first-requires c =
    let g = c.requires.enters.value in
    let h = c.requires.enters.has in
    let w = c.unite-united.result in
    let ranged = c.requires.ranged in
    let fits = united_fits h (ranges g) (c.unite-united.ensures _ (ranges_held h)) in
    let s = c.sieve-points.ensures _ (displaces c.args.w) (search (rules, decides)) (points_asked h) in
    let r = c.sieve-ranges.ensures _ (has_span c.args.w.lo c.args.w.hi) (search (rules, decides)) (ranges_asked h s) in
    let k = c.take-slot.ensures _ (slot_asked h w (chain g) (others g) fits (range_room h ranged r)) in
    record { value = to_splice h w (chain g) (others g); has = chains_asked h w (chain g) (others g) k (ranges_head h ranged r) }

pub overflow_sub-result : goal.overflow_sub-result
overflow_sub-result c =
    let h = c.requires.enters.has in
    let s = c.sieve-points.ensures _ (displaces c.args.w) (search (rules, decides)) (points_asked h) in
    omega (arith, points_count h s, points_fewer h, buffer_held h)

pub overflow_sub-result-2 : goal.overflow_sub-result-2
overflow_sub-result-2 c =
    let h = c.requires.enters.has in
    let s = c.sieve-points.ensures _ (displaces c.args.w) (search (rules, decides)) (points_asked h) in
    let r = c.sieve-ranges.ensures _ (has_span c.args.w.lo c.args.w.hi) (search (rules, decides)) (ranges_asked h s) in
    omega (arith, points_count h s, ranges_count h c.requires.ranged r, points_fewer h, ranges_fewer h, buffer_held h)

pub overflow_add-result : goal.overflow_add-result
overflow_add-result c =
    omega (arith, held_few c.requires.enters.has)

pub returns : goal.returns
returns c =
    λ g h. let w = c.unite-united.result in
    let ranged = c.requires.ranged in
    let united≡ = c.unite-united.ensures _ (ranges_held h) in
    let s = c.sieve-points.ensures _ (displaces c.args.w) (search (rules, decides)) (points_asked h) in
    let r = c.sieve-ranges.ensures _ (has_span c.args.w.lo c.args.w.hi) (search (rules, decides)) (ranges_asked h s) in
    let k = c.take-slot.ensures _ (slot_asked h w (chain g) (others g) (united_fits h (ranges g) united≡) (range_room h ranged r)) in
    let joined = c.splice-first.ensures _ (chains_asked h w (chain g) (others g) k (ranges_head h ranged r)) in
    range_entered h ranged united≡ (points_head h s) (points_count h s) (ranges_count h ranged r) c.earlier.ensures joined
