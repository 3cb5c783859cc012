-- The smallest clock as the loop finds it, level by level.
use mathlib.Core.Path.{◌≡◌, refl}
use mathlib.Core.Bool.{true}
use Prim.Native.Nat.{ℕ, ◌+◌, ◌-◌, ◌≤◌, ◌<◌}
use native.Mathlib.Omega.{arith}
use borrow.Author.Tests.{eq-eqb, ne_eqb}
use Rattle.lists.specs.Lists.{iterate}
use Rattle.lists.proofs.Loops.{iterate_end, iterate_next}
use Rattle.settings.specs.declared.Settings.{Settings}
use Rattle.settings.specs.Limits.{allowed, limit}
use Rattle.settings.proofs.Allowed.{allowed_bounds}
use Rattle.settings.proofs.Facts.{limit_facts}
use Rattle.std.proofs.Common.{List, Option, Some, None}
use Rattle.tables.specs.Rows.{settings_of}
use Rattle.tables.specs.Sound.{levels_fit}
use Rattle.tables.proofs.Lengths.{table_facts}
use Rattle.model_wake.specs.Wake.{wake_level, sooner, next_wake}

-- A level's clock, as its test finds it; the sum has room in 64 bits where owed has it in 32.
module _ (s : Settings) (i owed : ℕ) where
  pub level_never : owed ≡ 0 → None ≡ wake_level s i owed
  level_never z = rw (eq-eqb owed 0 z)

  pub level_at_clock : (owed ≡ 0 → ⊥) → Some (owed + limit s i) ≡ wake_level s i owed
  level_at_clock o = rw (ne_eqb owed 0 o)

  pub clock_most : allowed s ≡ true → i < s.deepest → owed ≤ 4294967295 → owed + limit s i ≤ 8589934590
  clock_most ok above low = omega (arith, (limit_facts s ok).most i above, (allowed_bounds s ok).term_high)

-- What the loop will have found, from level i on, with a clock found so far.
module _ (s : Settings) (owed : ℕ → ℕ) where
  abbrev pub from : ℕ → Option ℕ → Option ℕ
  from i next = iterate (λ j w. sooner w (wake_level s j (owed j))) i (s.deepest - i) next

  pub from_first : {i : ℕ} → i ≡ 0 → from i None ≡ next_wake s owed
  unfolding next_wake
  from_first z =
      let whole : s.deepest - 0 ≡ s.deepest = omega arith in
      rw (z, whole)

  pub from_end : (i : ℕ) (next : Option ℕ) → s.deepest ≤ i → from i next ≡ next
  from_end i next h = iterate_end _ s.deepest i next h

  pub from_next : (i j : ℕ) (next later : Option ℕ) → i < s.deepest → j ≡ i + 1 → later ≡ sooner next (wake_level s i (owed i)) → from j later ≡ from i next
  from_next i j next later h e q = rw (iterate_next (λ k w. sooner w (wake_level s k (owed k))) s.deepest i next j h (omega arith), q) refl

-- The settings that are read off a level table that fits are allowed.
pub fits_allowed : (l : List ℕ) → levels_fit l ≡ true → {s : Settings} → s ≡ settings_of l → allowed s ≡ true
fits_allowed l fit is = rw is (table_facts l fit).first_row
