-- The docket's point is sieved out, a free slot is taken, and its cell is put among the points.
use native.Mathlib.Omega.{arith}
use mathlib.Core.List.{List, ◌∷◌, map}
use Rattle.tables.specs.Placed.{Cell, point_cell, range_cell}
use borrow.Author.Rules.{rules}
use Rattle.chain_sieve.proofs.Decisions.{decides}
use Rattle.write_record.specs.Records.{displaces}
use Rattle.write_enter.specs.Entering.{Entry}
use Rattle.write_enter.proofs.Entries.{kept_points, buffer_points, points_asked, points_head, points_count, point_room}
use Rattle.write_enter.proofs.Entries.{write_fits, to_take, to_splice, slot_asked, chains_asked}
use Rattle.write_enter.proofs.Entered.{buffer_held, held_few, points_fewer, point_entered}
use Rattle.write_enter.proofs.enter_point.Goals as goal

-- The points that stay, and the chains beside them.
abbrev chain : Entry → List Cell
chain g = map point_cell (kept_points g)

abbrev others : Entry → List (List Cell)
others g = map range_cell g.buffer.ranges ∷ g.others

pub sieve-points-requires : goal.sieve-points-requires
sieve-points-requires c = record {
  held = record { value = buffer_points c.requires.enters.value; has = points_asked c.requires.enters.has };
  decides = record { value = displaces c.args.w; has = search (rules, decides) };
}

pub take-slot-requires : goal.take-slot-requires
take-slot-requires c =
    let w = c.args.w in
    let g = c.requires.enters.value in
    let h = c.requires.enters.has in
    let s = c.sieve-points.ensures _ (displaces w) (search (rules, decides)) (points_asked h) in
    record { value = to_take h w (chain g) (others g); has = slot_asked h w (chain g) (others g) (write_fits h) (point_room h s c.requires.pointed) }

pub splice-first-requires : goal.splice-first-requires
splice-first-requires c =
    let w = c.args.w in
    let g = c.requires.enters.value in
    let h = c.requires.enters.has in
    let s = c.sieve-points.ensures _ (displaces w) (search (rules, decides)) (points_asked h) in
    let k = c.take-slot.ensures _ (slot_asked h w (chain g) (others g) (write_fits h) (point_room h s c.requires.pointed)) in
    record { value = to_splice h w (chain g) (others g); has = chains_asked h w (chain g) (others g) k (points_head h s) }

pub overflow_sub-result : goal.overflow_sub-result
overflow_sub-result c =
    let h = c.requires.enters.has in
    let s = c.sieve-points.ensures _ (displaces c.args.w) (search (rules, decides)) (points_asked h) in
    omega (arith, points_count h s, points_fewer h, buffer_held h)

pub overflow_add-result : goal.overflow_add-result
overflow_add-result c =
    omega (arith, held_few c.requires.enters.has)

pub returns : goal.returns
returns c =
    λ g h. let w = c.args.w in
    let pointed = c.requires.pointed in
    let s = c.sieve-points.ensures _ (displaces w) (search (rules, decides)) (points_asked h) in
    let k = c.take-slot.ensures _ (slot_asked h w (chain g) (others g) (write_fits h) (point_room h s pointed)) in
    let joined = c.splice-first.ensures _ (chains_asked h w (chain g) (others g) k (points_head h s)) in
    point_entered h pointed (points_count h s) c.owed_with.ensures joined
