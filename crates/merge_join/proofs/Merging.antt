-- A merge, call by call: what each call asks for follows from what the one before it leaves.
use mathlib.Core.Path.{◌≡◌, ap, ◌∙◌}
use mathlib.Core.List.{List, ◌∷◌, map}
use Prim.Native.Nat.{ℕ, ◌+◌, ◌-◌, ◌≤◌}
use native.Mathlib.Omega.{arith}
use lib.ListN.{length, length-map}
use Rattle.lists.specs.Lists.{select, reject}
use Rattle.model.specs.Records.{held}
use Rattle.model.specs.Merge.{point_goes, range_goes, earlier, later, release, merged, point_slots, range_slots}
use Rattle.tables.specs.Placed.{Cell, point_cell, range_cell, head}
use Rattle.tables.proofs.Back.{point_cell_slots, range_cell_slots}
use Rattle.chain_cells.specs.Splicing.{Chains, TwoHeld, Spliced}
use Rattle.merge_strike.specs.Striking.{Meeting, MeetingHeld, Struck}
use Rattle.merge_unite.specs.Uniting.{RangesHeld, United}
use Rattle.chain_cells.specs.declared.Cursor.{Cursor}
use Rattle.table_levels.specs.declared.Level.{Level}
use Rattle.merge_join.specs.Joining.{Levels, LevelsHeld, MergedHeld, merging}
use Rattle.merge_join.proofs.Points.{points_ordered}
use Rattle.merge_join.proofs.Ranges.{ranges_ordered, later_ranges, later-head}
use Rattle.merge_join.proofs.Levels.{points_gone, points_left, points-merged, ranges_gone, ranges_left, ranges-merged, release_append}
use Rattle.merge_join.proofs.Counts.{held-merged, four_few}
use Rattle.chain_cells.proofs.Laws.{swapped, third_first}

-- The chains of each call: the lower points and what they meet, then the points to splice, the ranges to unite, and the ranges to splice.
abbrev pub meeting : Levels → Meeting
meeting g = record {
  slots = g.slots;
  clock = g.clock;
  free = g.free;
  lower = map point_cell g.lower.points;
  points = map point_cell g.upper.points;
  ranges = map range_cell g.upper.ranges;
  others = map range_cell g.lower.ranges ∷ g.others;
}

-- The free slots once the struck points have gone.
abbrev points_free : Levels → List ℕ
points_free g = release (point_slots (select (point_goes g.upper) g.lower.points)) g.free

abbrev pub point_chains : Levels → Chains
point_chains g = record {
  slots = g.slots;
  clock = g.clock;
  free = points_free g;
  upper = map point_cell g.upper.points;
  lower = map point_cell (reject (point_goes g.upper) g.lower.points);
  others = map range_cell g.upper.ranges ∷ map range_cell g.lower.ranges ∷ g.others;
}

abbrev pub range_chains : Levels → Chains
range_chains g = record {
  slots = g.slots;
  clock = g.clock;
  free = points_free g;
  upper = map range_cell g.upper.ranges;
  lower = map range_cell g.lower.ranges;
  others = map point_cell (merged g.upper g.lower).points ∷ g.others;
}

abbrev pub united_chains : Levels → Chains
united_chains g = record {
  slots = g.slots;
  clock = g.clock;
  free = release (range_slots (select (range_goes g.upper.ranges) g.lower.ranges)) (points_free g);
  upper = map range_cell (map (later g.lower.ranges) g.upper.ranges);
  lower = map range_cell (reject (range_goes g.upper.ranges) g.lower.ranges);
  others = map point_cell (merged g.upper g.lower).points ∷ g.others;
}

module _ {g : Levels} {e : List ℕ} {upper lower : Level} (h : LevelsHeld g e upper lower) where
  upper-points : upper.points ≡ head (map point_cell g.upper.points)
  upper-points = ap (λ (v : Level). v.points) h.upper_is

  upper-ranges : upper.ranges ≡ head (map range_cell g.upper.ranges)
  upper-ranges = ap (λ (v : Level). v.ranges) h.upper_is

  lower-points : lower.points ≡ head (map point_cell g.lower.points)
  lower-points = ap (λ (v : Level). v.points) h.lower_is

  lower-ranges : lower.ranges ≡ head (map range_cell g.lower.ranges)
  lower-ranges = ap (λ (v : Level). v.ranges) h.lower_is

  -- What each call asks for.
  pub strike_asks : MeetingHeld (meeting g) e lower.points upper.points upper.ranges
  strike_asks = record {
    held = h.held;
    lower_is = lower-points;
    points_is = upper-points;
    ranges_is = upper-ranges;
    lower_ordered = points_ordered g.lower.points h.lower_formed.keys h.lower_formed.points_ascend;
    points_ordered = points_ordered g.upper.points h.upper_formed.keys h.upper_formed.points_ascend;
    ranges_ordered = ranges_ordered g.upper.ranges h.upper_formed.spans h.upper_formed.ranges_ascend;
  }

  pub splice_points_asks : {e' : List ℕ} {m : Cursor} → Struck (meeting g) e' m → TwoHeld (point_chains g) e' upper.points m.head
  splice_points_asks s =
      let left = points_left h.upper_formed h.lower_formed in
      let went = points_gone h.upper_formed h.lower_formed in
      record {
        held = rw (went, left, point_cell_slots (select (point_goes g.upper) g.lower.points)) at s.held;
        upper_is = upper-points;
        lower_is = s.head_is ∙ ap head left;
      }

  pub unite_asks : {e' : List ℕ} {first : ℕ} → Spliced (point_chains g) e' first → RangesHeld (range_chains g) e' upper.ranges lower.ranges
  unite_asks {e'} s =
      let points : List Cell = map point_cell (merged g.upper g.lower).points in
      let upper_cells : List Cell = map range_cell g.upper.ranges in
      let lower_cells : List Cell = map range_cell g.lower.ranges in
      let joined = points-merged h.upper_formed h.lower_formed in
      let last = swapped g.slots g.clock (points_free g) points upper_cells (lower_cells ∷ g.others) e' (rw joined at s.held) in
      record {
        two = record {
          held = third_first g.slots g.clock (points_free g) upper_cells points lower_cells g.others e' last;
          upper_is = upper-ranges;
          lower_is = lower-ranges;
        };
        upper_ordered = ranges_ordered g.upper.ranges h.upper_formed.spans h.upper_formed.ranges_ascend;
        lower_ordered = ranges_ordered g.lower.ranges h.lower_formed.spans h.lower_formed.ranges_ascend;
      }

  pub splice_ranges_asks : {e' : List ℕ} {m : Cursor} → United (range_chains g) e' m → TwoHeld (united_chains g) e' upper.ranges m.head
  splice_ranges_asks s =
      let left = ranges_left h.upper_formed h.lower_formed in
      let went = ranges_gone h.upper_formed h.lower_formed in
      let dates = later_ranges g.lower.ranges h.lower_formed.spans g.upper.ranges h.upper_formed.spans in
      record {
        held = rw (went, left, dates, range_cell_slots (select (range_goes g.upper.ranges) g.lower.ranges)) at s.held;
        upper_is = upper-ranges ∙ later-head g.lower.ranges g.upper.ranges;
        lower_is = s.head_is ∙ ap head left;
      }

  -- Both levels' records are at most the slots of a table.
  pub held_few : upper.held + lower.held ≤ 65535
  held_few =
      let u = g.upper in
      let l = g.lower in
      omega (
        arith,
        ap (λ (v : Level). v.held) h.upper_is,
        ap (λ (v : Level). v.held) h.lower_is,
        four_few h.held,
        length-map l.points point_cell,
        length-map u.points point_cell,
        length-map u.ranges range_cell,
        length-map l.ranges range_cell,
      )

  -- What the merged level holds and what has gone are all that both levels held.
  pub held_rest : {e₁ e₂ : List ℕ} {m k : Cursor} → Struck (meeting g) e₁ m → United (range_chains g) e₂ k
      → held (merged g.upper g.lower) + m.gone + k.gone ≡ upper.held + lower.held
  held_rest s r = omega (
    arith,
    held-merged g.upper g.lower,
    ap (λ (v : Level). v.held) h.upper_is,
    ap (λ (v : Level). v.held) h.lower_is,
    s.counts ∙ ap length (points_gone h.upper_formed h.lower_formed),
    length-map (select (point_goes g.upper) g.lower.points) point_cell,
    r.counts ∙ ap length (ranges_gone h.upper_formed h.lower_formed),
    length-map (select (range_goes g.upper.ranges) g.lower.ranges) range_cell,
  )

  -- The level that the calls leave is the merged one.
  pub merge_leaves : {e₁ e₂ e₃ e₄ : List ℕ} {m k : Cursor} {points ranges owed : ℕ} → Struck (meeting g) e₁ m → Spliced (point_chains g) e₂ points
      → United (range_chains g) e₃ k → Spliced (united_chains g) e₄ ranges → owed ≡ earlier upper.owed lower.owed
      → MergedHeld (merging g) e₄ (record { points = points; ranges = ranges; held = upper.held + lower.held - m.gone - k.gone; owed = owed })
  unfolding merged
  merge_leaves {m = m} {k = k} {points = points} {ranges = ranges} {owed = owed} s ps r rs o =
      let u = g.upper in
      let l = g.lower in
      let point_cells = points-merged h.upper_formed h.lower_formed in
      let range_cells = ranges-merged h.upper_formed h.lower_formed in
      let frees = release_append (point_slots (select (point_goes u) l.points)) (range_slots (select (range_goes u.ranges) l.ranges)) g.free in
      let first : points ≡ head (map point_cell (merged u l).points) = ps.head_is ∙ ap head point_cells in
      let second : ranges ≡ head (map range_cell (merged u l).ranges) = rs.head_is ∙ ap head range_cells in
      let rest : upper.held + lower.held - m.gone - k.gone ≡ held (merged u l) = omega (arith, held_rest s r) in
      let early : owed ≡ (merged u l).owed = o ∙ rw (ap (λ (v : Level). v.owed) h.upper_is, ap (λ (v : Level). v.owed) h.lower_is) in
      let last = rw (range_cells, ← frees) at rs.held in
      record {
        held = swapped g.slots g.clock _ (map range_cell (merged u l).ranges) (map point_cell (merged u l).points) g.others _ last;
        level_is = rw (first, second, rest, early);
      }
