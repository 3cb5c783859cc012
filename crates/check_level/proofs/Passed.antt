-- A level that fits: what it asks of its two chains and its numbers, and what it leaves.
use mathlib.Core.Path.{◌≡◌, refl, sym, ◌∙◌}
use mathlib.Core.Bool.{Bool, true, false, ◌&&◌}
use mathlib.Core.List.{List, ◌++◌}
use Prim.Native.Nat.{ℕ, ◌+◌}
use lib.ListN.{length, length-append}
use Rattle.std.specs.Prelude.{Option, Result, Ok, Err, cond, is_some}
use Rattle.std.specs.Result.{result_ok}
use Rattle.lists.proofs.Bools.{and_left, and_right, and_ap}
use Rattle.tables.specs.Rows.{level_row}
use Rattle.tables.specs.Sound.{point_chain, range_chain}
use Rattle.check_forms.specs.Forms.{point_fits, range_fits}
use Rattle.check_walk.specs.Walks.{Marked, walked}
use Rattle.check_walk.proofs.Each.{mark_each, mark_each_append}
use Rattle.check_walk.proofs.Passed.{passed, walk_passes, after_asks}
use Rattle.check_level.specs.Levels.{broken, numbers_fit, numbered, ranged, leveled, fitting}

-- The slots of a level, points first.
abbrev pub level_slots : List ℕ → List ℕ → ℕ → List ℕ
level_slots e l i = point_chain e l i ++ range_chain e l i

ok_if : {A : Type 0} (b : Bool) (x : A) → is_some (result_ok (cond b (Ok x) (Err x))) ≡ b
ok_if true x = refl
ok_if false x = refl

module _ (e l : List ℕ) (i : ℕ) (m : List ℕ) where
  abbrev points : Marked (Option ℕ)
  points = walked point_fits e (level_row l i).owed 0 0 m (point_chain e l i)

  -- The ranges after points that fit.
  abbrev ranges : Marked (Option ℕ)
  ranges = walked range_fits e (level_row l i).owed 0 0 (mark_each m (point_chain e l i)) (range_chain e l i)

  -- The ranges and the numbers are asked only where what stands before them fits.
  pub level_asks : is_some (fitting (leveled e l i m)).answer
      ≡ is_some points.answer && (is_some ranges.answer && numbers_fit e l i (length (level_slots e l i)))
  unfolding leveled
  level_asks =
      let count = length (point_chain e l i) + length (range_chain e l i) in
      let sum : length (level_slots e l i) ≡ count = length-append (point_chain e l i) (range_chain e l i) in
      after_asks says points (ranged e l i) broken (λ x. refl) (walk_passes point_fits e (level_row l i).owed m (point_chain e l i))
      ∙ and_ap (is_some points.answer) (λ t.
      after_asks says ranges (λ r. numbered e l i (length (point_chain e l i) + r)) broken (λ x. refl)
      (walk_passes range_fits e (level_row l i).owed (mark_each m (point_chain e l i)) (range_chain e l i))
      ∙ and_ap (is_some ranges.answer) (λ u. rw sum (ok_if (numbers_fit e l i count) count)))
    where
      says : Marked (Result ℕ ℕ) → Bool
      says w = is_some (fitting w).answer

  pub level_passes : is_some (fitting (leveled e l i m)).answer ≡ true → fitting (leveled e l i m) ≡ passed m (level_slots e l i)
  unfolding leveled
  level_passes q =
      let n = numbers_fit e l i (length (level_slots e l i)) in
      let both = sym level_asks ∙ q in
      let rest = and_right (is_some points.answer) (is_some ranges.answer && n) both in
      rw (
        walk_passes point_fits e (level_row l i).owed m (point_chain e l i) (and_left (is_some points.answer) (is_some ranges.answer && n) both),
        walk_passes range_fits e (level_row l i).owed (mark_each m (point_chain e l i)) (range_chain e l i) (and_left (is_some ranges.answer) n rest),
        ← length-append (point_chain e l i) (range_chain e l i),
        and_right (is_some ranges.answer) n rest,
        mark_each_append,
      )
