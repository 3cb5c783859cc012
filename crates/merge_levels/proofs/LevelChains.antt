-- One level's chains among those of all levels: taken out, and put in.
use mathlib.Core.Path.{◌≡◌, ap}
use mathlib.Core.List.{List, [], ◌∷◌, map}
use Prim.Native.Nat.{ℕ, zero, suc, ◌+◌}
use native.Mathlib.Omega.{arith}
use lib.ListN.{get_or, set}
use lib.Seq.{get_or-set_other}
use Rattle.lists.specs.Lists.{sum}
use Rattle.model.specs.declared.Tally.{Tally}
use Rattle.model.specs.Records.{Level, empty}
use Rattle.tables.specs.Placed.{point_cell, range_cell, level_chains}
use Rattle.tables.proofs.Cells.{Chained, AllChained, cell_slots}
use Rattle.chain_cells.proofs.Frames.{weigh}

-- The levels without levels i and i+1.
abbrev pub without_pair : ℕ → List (Level ℕ Tally) → List (Level ℕ Tally)
without_pair i ls = set (set ls i empty) (suc i) empty

module _ (n : ℕ) (e : List ℕ) where
  pub points_out : (ls : List (Level ℕ Tally)) (i : ℕ) → AllChained n e (level_chains ls) → Chained n e (map point_cell (get_or ls i empty).points)
  points_out [] i a = tt
  points_out (l ∷ ls) zero a = a.0
  points_out (l ∷ ls) (suc i) a = points_out ls i a.1.1

  pub ranges_out : (ls : List (Level ℕ Tally)) (i : ℕ) → AllChained n e (level_chains ls) → Chained n e (map range_cell (get_or ls i empty).ranges)
  ranges_out [] i a = tt
  ranges_out (l ∷ ls) zero a = a.1.0
  ranges_out (l ∷ ls) (suc i) a = ranges_out ls i a.1.1

  pub others_stay : (ls : List (Level ℕ Tally)) (i : ℕ) → AllChained n e (level_chains ls) → AllChained n e (level_chains (set ls i empty))
  others_stay [] i a = tt
  others_stay (l ∷ ls) zero a = (tt, (tt, a.1.1))
  others_stay (l ∷ ls) (suc i) a = (a.0, (a.1.0, others_stay ls i a.1.1))

  pub pair_out : (ls : List (Level ℕ Tally)) (i : ℕ) → AllChained n e (level_chains ls) → AllChained n e (level_chains (without_pair i ls))
  pair_out ls i a = others_stay (set ls i empty) (suc i) (others_stay ls i a)

  pub level_in : (v : Level ℕ Tally) (ls : List (Level ℕ Tally)) (i : ℕ) → Chained n e (map point_cell v.points) → Chained n e (map range_cell v.ranges)
      → AllChained n e (level_chains (set ls i empty)) → AllChained n e (level_chains (set ls i v))
  level_in v [] i p r a = tt
  level_in v (l ∷ ls) zero p r a = (p, (r, a.1.1))
  level_in v (l ∷ ls) (suc i) p r a = (a.0, (a.1.0, level_in v ls i p r a.1.1))

-- The slots of a level's chains, each with a number, and of all levels' chains.
module _ (f : ℕ → ℕ) where
  abbrev pub weigh_pair : Level ℕ Tally → ℕ
  weigh_pair l = sum f (cell_slots (map point_cell l.points)) + sum f (cell_slots (map range_cell l.ranges))

  pub weigh_out : (ls : List (Level ℕ Tally)) (i : ℕ) → weigh f (level_chains ls) ≡ weigh_pair (get_or ls i empty) + weigh f (level_chains (set ls i empty))
  unfolding sum
  weigh_out [] i = omega arith
  weigh_out (l ∷ ls) zero = omega arith
  weigh_out (l ∷ ls) (suc i) = omega (arith, weigh_out ls i)

  pub weigh_pair_out : (ls : List (Level ℕ Tally)) (i : ℕ)
      → weigh f (level_chains ls) ≡ weigh_pair (get_or ls i empty) + weigh_pair (get_or ls (suc i) empty) + weigh f (level_chains (without_pair i ls))
  weigh_pair_out ls i =
      omega (arith, weigh_out ls i, weigh_out (set ls i empty) (suc i), ap weigh_pair (get_or-set_other ls i (suc i) empty empty (omega arith)))
