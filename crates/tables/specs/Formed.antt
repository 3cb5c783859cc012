-- What "Sound tables" of document 01 asks of a state with slots, beyond the form of its words.
use Rattle.std.specs.Prelude.{◌≡◌, true, false, List, [], ◌∷◌, ◌++◌, ℕ, suc, ◌≤◌, length}
use Rattle.settings.specs.Limits.{allowed}
use Rattle.lists.specs.All.{All, Ascending}
use Rattle.model.specs.declared.Tally.{Tally}
use Rattle.model.specs.Records.{Level, State, is_put, level, held}
use Rattle.model.specs.Merge.{point_before, range_before, point_slots, range_slots}
use Rattle.tables.specs.Sound.{every_slot_once}

-- "Points … ascend strictly by docket; ranges ascend strictly by lo, then hi, with lo ≤ hi. … Stamps lie from 1 to the last clock. …
-- Word 2 of kind 3 … from 1 to its stamp. …
-- where a level holds a delete, its owed is not 0 and not later than the stamp of any delete there; it is 0 for an empty level."
pub record LevelFormed {S A : Type 0} (clock : ℕ) (l : Level S A) : Type 0 where
  pub keys : All (λ p. p.key ≤ 65535) l.points
  pub points_ascend : Ascending point_before l.points
  pub spans : All (λ r. (r.lo ≤ r.hi) × (r.hi ≤ 65535)) l.ranges
  pub ranges_ascend : Ascending range_before l.ranges
  pub point_stamps : All (λ p. (1 ≤ p.stamp) × (p.stamp ≤ clock)) l.points
  pub range_stamps : All (λ r. (1 ≤ r.stamp) × (r.stamp ≤ clock)) l.ranges
  pub range_dates : All (λ r. (1 ≤ r.date) × (r.date ≤ r.stamp)) l.ranges
  pub owed_clock : l.owed ≤ clock
  pub owed_points : All (λ p. is_put p.entry ≡ false → (1 ≤ l.owed) × (l.owed ≤ p.stamp)) l.points
  pub owed_ranges : All (λ r. (1 ≤ l.owed) × (l.owed ≤ r.stamp)) l.ranges
  pub owed_empty : held l ≡ 0 → l.owed ≡ 0

module _ {S A : Type 0} where
  abbrev pub levels_slots : List (Level S A) → List S
  levels_slots [] = []
  levels_slots (l ∷ ls) = (point_slots l.points ++ range_slots l.ranges) ++ levels_slots ls

-- A state of n slots that sound tables can hold.
pub record Formed (n : ℕ) (p : State ℕ Tally) : Type 0 where
  pub few : 1 ≤ n
  pub many : n ≤ 65535
  pub settings_ok : allowed p.settings ≡ true
  pub size : length p.levels ≡ suc p.settings.deepest
  pub levels_ok : All (LevelFormed p.clock) p.levels
  pub deepest_owes_nothing : (level p.settings.deepest p).owed ≡ 0
  pub slots_once : every_slot_once n (p.free ++ levels_slots p.levels) ≡ true
