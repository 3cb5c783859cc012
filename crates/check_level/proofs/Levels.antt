-- Laws of one level, as the code asks them.
use mathlib.Core.Path.{◌≡◌}
use mathlib.Core.Bool.{Bool}
use mathlib.Core.List.{List}
use Prim.Native.Nat.{ℕ, ◌+◌, ◌*◌, ◌<◌, ◌≤◌}
use native.Mathlib.Omega.{arith}
use lib.ListN.{length}
use Rattle.std.specs.Prelude.{Option, Some, None, Ok, Err, cond}
use Rattle.tables.specs.Slots.{slots_of}
use Rattle.tables.specs.Rows.{level_row}
use Rattle.tables.specs.Sound.{chain_from, point_chain, range_chain}
use Rattle.table_levels.specs.declared.Level.{Level}
use Rattle.table_levels.specs.Levels.{level_at}
use Rattle.check_forms.specs.Forms.{point_fits, range_fits}
use Rattle.check_walk.specs.Walks.{walked}
use Rattle.check_walk.proofs.Unmarked.{unmarked_le}
use Rattle.check_walk.proofs.Passed.{walk_sum}
use Rattle.check_level.specs.Levels.{broken, numbers_fit, leveled}

-- A level whose row the code has read, and the walks along its two chains.
module _ (e l : List ℕ) (i : ℕ) (m : List ℕ) {row : Level} (is : row ≡ level_at l i) {m1 : List ℕ} {a1 : Option ℕ}
    (w1 : record { answer = a1; marks = m1 } ≡ walked point_fits e row.owed 0 0 m (chain_from e row.points)) where
  points_walked : {a : Option ℕ} → a1 ≡ a → record { answer = a; marks = m1 } ≡ walked point_fits e (level_row l i).owed 0 0 m (point_chain e l i)
  points_walked q = rw (← q) (rw is at w1)

  pub points_fail : a1 ≡ None → broken m1 ≡ leveled e l i m
  unfolding leveled
  points_fail q = rw (← (points_walked q))

  module _ {p : ℕ} (q1 : a1 ≡ Some p) {m2 : List ℕ} {a2 : Option ℕ}
      (w2 : record { answer = a2; marks = m2 } ≡ walked range_fits e row.owed 0 0 m1 (chain_from e row.ranges)) where
    ranges_walked : {a : Option ℕ} → a2 ≡ a → record { answer = a; marks = m2 } ≡ walked range_fits e (level_row l i).owed 0 0 m1 (range_chain e l i)
    ranges_walked q = rw (← q) (rw is at w2)

    pub ranges_fail : a2 ≡ None → broken m2 ≡ leveled e l i m
    unfolding leveled
    ranges_fail q = rw (← (points_walked q1), ← (ranges_walked q))

    module _ {r : ℕ} (q2 : a2 ≡ Some r) where
      -- Slots are counted that had no mark, and there are no more of them than slots.
      pub level_room : slots_of e < 8 * length m → slots_of e < 8 * length m1 → p + r ≤ slots_of e
      level_room room room1 =
          omega (
            arith,
            walk_sum point_fits e (level_row l i).owed (level_row l i).points m room (points_walked q1),
            walk_sum range_fits e (level_row l i).owed (level_row l i).ranges m1 room1 (ranges_walked q2),
            unmarked_le (slots_of e) m,
          )

      pub level_ends : {fits : Bool} → fits ≡ numbers_fit e l i (p + r)
          → record { answer = cond fits (Ok (p + r)) (Err (p + r)); marks = m2 } ≡ leveled e l i m
      unfolding leveled
      level_ends q = rw (q, ← (points_walked q1), ← (ranges_walked q2))
