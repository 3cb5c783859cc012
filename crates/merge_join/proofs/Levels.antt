-- The merge of two levels, in records and in cells.
use mathlib.Core.Path.{◌≡◌, refl}
use mathlib.Core.Bool.{Bool, not}
use mathlib.Core.List.{List, [], ◌∷◌, ◌++◌, map}
use Prim.Native.Nat.{ℕ}
use Rattle.lists.specs.Lists.{select, reject, merge}
use Rattle.lists.specs.All.{All}
use Rattle.lists.proofs.Tests.{all_select, all_weaken}
use Rattle.model.specs.declared.Tally.{Tally}
use Rattle.model.specs.Records.{Level}
use Rattle.model.specs.Merge.{point_goes, range_goes, later, release, merged}
use Rattle.tables.specs.Placed.{Cell, point_cell, range_cell}
use Rattle.tables.specs.Formed.{LevelFormed}
use Rattle.chain_cells.specs.Cells.{cell_before}
use Rattle.merge_strike.specs.Striking.{goes_under}
use Rattle.merge_unite.specs.Uniting.{doubled}
use Rattle.merge_join.proofs.Maps.{select-map_where, reject-map_where}
use Rattle.merge_join.proofs.Points.{Keyed, point_lo, points_name, points_merge}
use Rattle.merge_join.proofs.Ranges.{Spanned, ranges_cover, ranges_merge, range_doubled, all_later_spanned}

-- Slots that go one after the other.
pub release_append : (xs ys free : List ℕ) → release (xs ++ ys) free ≡ release ys (release xs free)
release_append [] ys free = refl
release_append (x ∷ xs) ys free = release_append xs ys (x ∷ free)

module _ {t : ℕ} {u l : Level ℕ Tally} (f : LevelFormed t u) (g : LevelFormed t l) where
  abbrev under : Cell → Bool
  under = goes_under (map point_cell u.points) (map range_cell u.ranges)

  abbrev double : Cell → Bool
  double = doubled (map range_cell u.ranges)

  -- The cells that go are those of the records that go.
  points-under : All (λ p. under (point_cell p) ≡ point_goes u p) l.points
  points-under =
      all_weaken Keyed _
      (λ p low. rw (point_lo p low, points_name u.points f.keys p.key, ranges_cover u.ranges f.spans p.key p.stamp)) l.points g.keys

  ranges_doubled : All (λ q. double (range_cell q) ≡ range_goes u.ranges q) l.ranges
  ranges_doubled = all_weaken Spanned _ (range_doubled u.ranges f.spans) l.ranges g.spans

  pub points_gone : select under (map point_cell l.points) ≡ map point_cell (select (point_goes u) l.points)
  points_gone = select-map_where point_cell under (point_goes u) l.points points-under

  pub points_left : reject under (map point_cell l.points) ≡ map point_cell (reject (point_goes u) l.points)
  points_left = reject-map_where point_cell under (point_goes u) l.points points-under

  pub ranges_gone : select double (map range_cell l.ranges) ≡ map range_cell (select (range_goes u.ranges) l.ranges)
  ranges_gone = select-map_where range_cell double (range_goes u.ranges) l.ranges ranges_doubled

  pub ranges_left : reject double (map range_cell l.ranges) ≡ map range_cell (reject (range_goes u.ranges) l.ranges)
  ranges_left = reject-map_where range_cell double (range_goes u.ranges) l.ranges ranges_doubled

  -- The cells that stay, merged with the upper ones, are those of the merged level.
  pub points-merged : merge cell_before (map point_cell u.points) (map point_cell (reject (point_goes u) l.points)) ≡ map point_cell (merged u l).points
  unfolding merged
  points-merged = points_merge u.points f.keys (reject (point_goes u) l.points) (all_select Keyed (λ p. not (point_goes u p)) l.points g.keys)

  pub ranges-merged : merge cell_before (map range_cell (map (later l.ranges) u.ranges)) (map range_cell (reject (range_goes u.ranges) l.ranges))
      ≡ map range_cell (merged u l).ranges
  unfolding merged
  ranges-merged = ranges_merge (map (later l.ranges) u.ranges) (all_later_spanned l.ranges u.ranges f.spans)
      (reject (range_goes u.ranges) l.ranges) (all_select Spanned (λ q. not (range_goes u.ranges q)) l.ranges g.spans)
