-- Lower points held against an upper level's points and ranges.
use Rattle.std.specs.Prelude.{◌≡◌, Bool, ◌||◌, List, [], ◌∷◌, ◌++◌, map, ℕ}
use Rattle.lists.specs.All.{All, Ascending}
use Rattle.model.specs.Merge.{covered, names}
use Rattle.tables.specs.Sound.{chain_from}
use Rattle.tables.specs.Placed.{Cell, head, read_point, read_range}
use Rattle.chain_cells.specs.Cells.{cell_lo, cell_before, cells_cover, cells_name}
use Rattle.chain_cells.specs.Held.{Held}
use Rattle.chain_cells.specs.Sifting.{Sift, Sifting, Chain, Sifted, left_at}
use Rattle.chain_cells.specs.Order.{CellsOrdered}
use Rattle.chain_cells.specs.declared.Cursor.{Cursor}
use Rattle.chain_cover.specs.Fronts.{front_slots}
use Rattle.chain_cover.specs.declared.Front.{Front}
use Rattle.merge_strike.specs.declared.Progress.{Progress}

-- "A point of i+1 goes if i has a point of that docket or a range over it", which covers by stamp too.
abbrev pub goes_under : List Cell → List Cell → Cell → Bool
goes_under points ranges c = cells_name points (cell_lo c) || cells_cover ranges (cell_lo c) c.stamp

-- The same of docket k and stamp t, of the upper points from a slot on and of a front of the upper ranges.
abbrev pub struck_by : List ℕ → ℕ → Front → ℕ → ℕ → Bool
struck_by e points ranges k t = names (map (read_point e) (chain_from e points)) k || covered (map (read_range e) (front_slots e ranges)) k t

-- The lower points, the upper points and ranges that they meet, and all that is beside them.
pub record Meeting : Type 0 where
  pub slots : ℕ
  pub clock : ℕ
  pub free : List ℕ
  pub lower : List Cell
  pub points : List Cell
  pub ranges : List Cell
  pub others : List (List Cell)

pub record MeetingHeld (g : Meeting) (e : List ℕ) (lower points ranges : ℕ) : Type 0 where
  pub held : Held g.slots g.clock g.free (g.lower ∷ g.points ∷ g.ranges ∷ g.others) e
  pub lower_is : lower ≡ head g.lower
  pub points_is : points ≡ head g.points
  pub ranges_is : ranges ≡ head g.ranges
  pub lower_ordered : CellsOrdered g.lower
  pub points_ordered : CellsOrdered g.points
  pub ranges_ordered : CellsOrdered g.ranges

abbrev pub lower_chain : Meeting → Chain
lower_chain g = record { slots = g.slots; clock = g.clock; free = g.free; cells = g.lower; others = g.points ∷ g.ranges ∷ g.others }

abbrev pub Struck : Meeting → List ℕ → Cursor → Type 0
Struck g e m = Sifted (goes_under g.points g.ranges) (lower_chain g) e m

-- What is to be left of the lower points and of the free slots, how many points go, the upper points and ranges, and all that is beside them.
pub record Strike : Type 0 where
  pub slots : ℕ
  pub clock : ℕ
  pub kept : List Cell
  pub free : List ℕ
  pub gone : ℕ
  pub points : List Cell
  pub ranges : List Cell
  pub others : List (List Cell)

abbrev pub sift_under : Strike → Sift
sift_under g = record {
  slots = g.slots;
  clock = g.clock;
  test = goes_under g.points g.ranges;
  kept = g.kept;
  free = g.free;
  gone = g.gone;
  others = g.points ∷ g.ranges ∷ g.others;
}

-- A slot stands where the rest of an upper chain begins.
pub record Place (cells : List Cell) (at : ℕ) : Type 0 where
  pub passed : List Cell
  pub rest : List Cell
  pub whole : passed ++ rest ≡ cells
  pub at_is : at ≡ head rest

-- The points from a slot on say of the docket of each lower point that is left what all do.
pub record PointsAt (cells lower : List Cell) (at : ℕ) : Type 0 where
  pub place : Place cells at
  pub same : All (λ c. cells_name place.rest (cell_lo c) ≡ cells_name cells (cell_lo c)) lower

-- The ranges that a front stands for, where its two places are these: the first of the one, and the other.
abbrev pub front_cells : List Cell → List Cell → List Cell
front_cells [] behind = []
front_cells (c ∷ cs) behind = c ∷ behind

-- The ranges of a front ascend, and say of each lower point that is left what all do.
pub record RangesAt (cells lower : List Cell) (f : Front) : Type 0 where
  pub first : Place cells f.first
  pub behind : Place cells f.behind
  pub ascend : Ascending cell_before (front_cells first.rest behind.rest)
  pub same : All (λ c. cells_cover (front_cells first.rest behind.rest) (cell_lo c) c.stamp ≡ cells_cover cells (cell_lo c) c.stamp) lower

pub record Striking (g : Strike) (e : List ℕ) (m : Progress) : Type 0 where
  pub sifting : Sifting (sift_under g) e m.cursor
  pub lower_ordered : CellsOrdered sifting.left
  pub points_ordered : CellsOrdered g.points
  pub ranges_ordered : CellsOrdered g.ranges
  pub points_at : PointsAt g.points sifting.left m.points
  pub ranges_at : RangesAt g.ranges sifting.left m.ranges

-- How many lower points have still to be seen.
abbrev pub left_of : List ℕ → Progress → ℕ
left_of e m = left_at e m.cursor
