-- What the settings' constructor and methods answer, for all numbers.
use Rattle.std.specs.Prelude.{Bool, cond, ◌&&◌, ℕ, ◌-◌, Option, Some, None, Result, Ok, Err}
use Rattle.refusals.specs.declared.Refusal.{Refusal}
use Rattle.refusals.specs.declared.Refusal.TheVariants as refusal
use Rattle.settings.specs.declared.Settings.{Settings}
use Rattle.settings.specs.Limits.{within, allowed, capacity, limit}

-- Refusal 6: "L, T, B or D out of range".
unfoldable pub checked_of : Settings → Result Settings Refusal
checked_of s = cond (allowed s) (Ok s) (Err refusal.Settings)

-- A level from low to L−1, of allowed settings.
abbrev pub level_from : ℕ → Settings → ℕ → Bool
level_from low s i = allowed s && within low i (s.deepest - 1)

-- "The limit of level i, now from 0 to L−1".
unfoldable pub limit_of : Settings → ℕ → Option ℕ
limit_of s i = cond (level_from 0 s i) (Some (limit s i)) None

-- "Capacity of level i from 1 to L−1".
unfoldable pub capacity_of : Settings → ℕ → Option ℕ
capacity_of s i = cond (level_from 1 s i) (Some (capacity s i)) None
