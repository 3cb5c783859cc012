-- Demand 1, when a put is refused 7: every slot holds a different live docket, and the put's is not among them.
use Rattle.std.specs.Prelude.{◌≡◌, true, false, List, [], ◌∷◌, ◌++◌, ℕ, length}
use Rattle.lists.specs.All.{All, Ascending}
use Rattle.model.specs.Records.{Point, Level, State}
use Rattle.model.specs.Merge.{names, point_before}
use Rattle.model.specs.Lookup.{is_found, lookup}

module _ {S A : Type 0} where
  -- The points of all levels, level by level.
  abbrev pub all_points : List (Level S A) → List (Point S A)
  all_points [] = []
  all_points (l ∷ ls) = l.points ++ all_points ls

-- Of n slots each holds a point of a different live docket, and docket k is not among them.
pub record SlotsLive {S A : Type 0} (n k : ℕ) (s : State S A) : Type 0 where
  pub every : length (all_points s.levels) ≡ n
  pub different : Ascending point_before (all_points s.levels)
  pub live : All (λ p. is_found (lookup s.levels p.key) ≡ true) (all_points s.levels)
  pub without : names (all_points s.levels) k ≡ false
