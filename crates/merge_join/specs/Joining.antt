-- Two levels whose chains a table holds, and the level that their merge leaves.
use Rattle.std.specs.Prelude.{◌≡◌, Bool, List, ◌∷◌, map, ℕ}
use Rattle.model.specs.declared.Tally.{Tally}
use Rattle.model.specs.Records as model
use Rattle.model.specs.Merge.{gone, release, merged, settled, delete_slots, joined, freed}
use Rattle.tables.specs.Placed.{Cell, point_cell, range_cell, head}
use Rattle.tables.specs.Formed.{LevelFormed}
use Rattle.chain_cells.specs.Held.{Held}
use Rattle.table_levels.specs.declared.Level.{Level}

-- What the row of a level tells.
abbrev pub level_of : model.Level ℕ Tally → Level
level_of l = record { points = head (map point_cell l.points); ranges = head (map range_cell l.ranges); held = model.held l; owed = l.owed }

-- Two levels and all that is beside them; time is a clock that no stamp is after.
pub record Levels : Type 0 where
  pub slots : ℕ
  pub clock : ℕ
  pub time : ℕ
  pub free : List ℕ
  pub upper : model.Level ℕ Tally
  pub lower : model.Level ℕ Tally
  pub others : List (List Cell)

pub record LevelsHeld (g : Levels) (e : List ℕ) (upper lower : Level) : Type 0 where
  pub held : Held g.slots g.clock g.free
      (map point_cell g.lower.points ∷ map point_cell g.upper.points ∷ map range_cell g.upper.ranges ∷ map range_cell g.lower.ranges ∷ g.others) e
  pub upper_is : upper ≡ level_of g.upper
  pub lower_is : lower ≡ level_of g.lower
  pub upper_formed : LevelFormed g.time g.upper
  pub lower_formed : LevelFormed g.time g.lower

pub record Joined (deepest : Bool) (g : Levels) (e : List ℕ) (r : Level) : Type 0 where
  pub held : Held g.slots g.clock (release (freed deepest g.upper g.lower) g.free)
      (map point_cell (joined deepest g.upper g.lower).points ∷ map range_cell (joined deepest g.upper g.lower).ranges ∷ g.others) e
  pub level_is : r ≡ level_of (joined deepest g.upper g.lower)

-- One level, on its way to be settled.
pub record Merged : Type 0 where
  pub slots : ℕ
  pub clock : ℕ
  pub free : List ℕ
  pub level : model.Level ℕ Tally
  pub others : List (List Cell)

pub record MergedHeld (g : Merged) (e : List ℕ) (level : Level) : Type 0 where
  pub held : Held g.slots g.clock g.free (map point_cell g.level.points ∷ map range_cell g.level.ranges ∷ g.others) e
  pub level_is : level ≡ level_of g.level

-- What two levels come to be before their deletes are wiped.
abbrev pub merging : Levels → Merged
merging g = record {
  slots = g.slots;
  clock = g.clock;
  free = release (gone g.upper g.lower) g.free;
  level = merged g.upper g.lower;
  others = g.others;
}

pub record Settled (g : Merged) (e : List ℕ) (r : Level) : Type 0 where
  pub held : Held g.slots g.clock (release (delete_slots g.level) g.free)
      (map point_cell (settled g.level).points ∷ map range_cell (settled g.level).ranges ∷ g.others) e
  pub level_is : r ≡ level_of (settled g.level)
