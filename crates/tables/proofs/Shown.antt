-- A reader who is shown less of each put reads the same tables with less in each put.
use mathlib.Core.Path.{◌≡◌, refl}
use mathlib.Core.Bool.{Bool, true, false, cond}
use mathlib.Core.List.{List, [], ◌∷◌, map}
use Prim.Native.Nat.{ℕ, zero, suc}
use lib.Dec.{eqb}
use Rattle.lists.proofs.Tests.{map_id}
use Rattle.model.specs.Records.{value, tombstone}
use Rattle.model.specs.Renaming.{map_entry, map_point, map_range, map_level, map_state}
use Rattle.tables.specs.Rows.{settings_of}
use Rattle.tables.specs.Slots.{kind_of}
use Rattle.tables.specs.Sound.{free_chain, point_chain, range_chain}
use Rattle.tables.specs.Placed.{read_range, point_as, levels_as, state_as}

module _ {A B : Type 0} (shown : List ℕ → ℕ → A) (f : A → B) (e : List ℕ) where
  abbrev less : List ℕ → ℕ → B
  less e s = f (shown e s)

  entry_less : (b : Bool) (a : A) → cond b (value (f a)) tombstone ≡ map_entry f (cond b (value a) tombstone)
  entry_less true a = refl
  entry_less false a = refl

  points_less : (ss : List ℕ) → map (point_as less e) ss ≡ map (map_point (λ s. s) f) (map (point_as shown e) ss)
  points_less [] = refl
  points_less (s ∷ ss) = rw (entry_less (eqb (kind_of e s) 1) (shown e s), points_less ss)

  ranges_less : (ss : List ℕ) → map (read_range e) ss ≡ map (map_range (λ s. s) f) (map (read_range e) ss)
  ranges_less [] = refl
  ranges_less (s ∷ ss) = rw (← ranges_less ss)

  levels_less : (l : List ℕ) (j i : ℕ) → levels_as less e l j i ≡ map (map_level (λ s. s) f) (levels_as shown e l j i)
  unfolding levels_as
  levels_less l zero i = refl
  levels_less l (suc j) i = rw (points_less (point_chain e l i), ← ranges_less (range_chain e l i), levels_less l j (suc i))

  pub state_less : (l : List ℕ) → state_as less e l ≡ map_state (λ s. s) f (state_as shown e l)
  unfolding state_as
  state_less l = rw (levels_less l (suc (settings_of l).deepest) 0, map_id (free_chain e))
