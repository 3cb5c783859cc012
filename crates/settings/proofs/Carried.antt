-- The laws of what is carried down the levels.
use mathlib.Core.Path.{◌≡◌, refl, ap}
use mathlib.Core.Bool.{true}
use Prim.Native.Nat.{ℕ, ◌+◌, ◌-◌, ◌*◌, ◌/◌, ◌≤◌, ◌<◌}
use native.Mathlib.Omega.{arith}
use Rattle.settings.specs.declared.Settings.{Settings}
use Rattle.settings.specs.declared.LevelSettings.{LevelSettings}
use Rattle.settings.specs.Limits.{allowed, power, capacity, limit}
use Rattle.settings.specs.Checked.{level_from}
use Rattle.settings.specs.Carried.{at_level, Carried}
use Rattle.settings.proofs.Allowed.{Allowed, allowed_bounds, level_from-allowed, level_from_bounds}
use Rattle.settings.proofs.Powers.{power_next, power_one, power_fits, once_fits}
use Rattle.settings.proofs.Capacities.{capacity_fits}
use Rattle.settings.proofs.Limits.{limit_divisor, limit_product_fits}

-- "D × (T^(i+1) − 1) divided by (T^L − 1)"
pub limit_powers : (s : Settings) (i : ℕ) → s.term * (power s (i + 1) - 1) / (power s s.deepest - 1) ≡ limit s i
unfolding limit
limit_powers s i = refl

pub capacity-power : (s : Settings) (i : ℕ) → s.buffer * power s i ≡ capacity s i
unfolding capacity
capacity-power s i = refl

-- What is carried to a level is its power, that multiplied once, and the power of L less 1.
pub at_level_powers : (s : Settings) (i : ℕ) {p q : ℕ} → p ≡ power s i → q ≡ power s s.deepest
    → record { settings = s; level = i; power = p; below = p * s.ratio; divisor = q - 1 } ≡ at_level s i
at_level_powers s i here last = rw (here, last, power_next s i)

-- What is carried to a level above L of allowed settings.
pub carried_at : (s : Settings) (i : ℕ) → (allowed s ≡ true) × (i < s.deepest) → (c : LevelSettings) → c ≡ at_level s i → Carried c
carried_at s i h c e = rw e (record { settings_ok = h.0; above = h.1; here = refl })

pub level_from_above : (low : ℕ) (s : Settings) (i : ℕ) → level_from low s i ≡ true → (allowed s ≡ true) × (i < s.deepest)
level_from_above low s i e = (level_from-allowed low s i e, (level_from_bounds low s i e).level_high)

module _ (c : LevelSettings) (h : Carried c) where
  pub carried_allowed : Allowed c.settings
  carried_allowed = allowed_bounds c.settings h.settings_ok

  pub carried_power : c.power ≡ power c.settings c.level
  carried_power = ap (λ (x : LevelSettings). x.power) h.here

  pub carried_below : c.below ≡ power c.settings (c.level + 1)
  carried_below = ap (λ (x : LevelSettings). x.below) h.here

  pub carried_divisor : c.divisor ≡ power c.settings c.settings.deepest - 1
  carried_divisor = ap (λ (x : LevelSettings). x.divisor) h.here

  -- The power below, multiplied once, makes the next level's.
  pub carried_next :
      record { settings = c.settings; level = c.level + 1; power = c.below; below = c.below * c.settings.ratio; divisor = c.divisor }
      ≡ at_level c.settings (c.level + 1)
  carried_next = rw (carried_divisor, power_next c.settings (c.level + 1), carried_below) refl

  -- The limit and the capacity taken from it are those of its level.
  pub carried_limit : c.settings.term * (c.below - 1) / c.divisor ≡ limit c.settings c.level
  carried_limit = rw (carried_below, carried_divisor) (limit_powers c.settings c.level)

  pub carried_capacity : c.settings.buffer * c.power ≡ capacity c.settings c.level
  carried_capacity = rw carried_power (capacity-power c.settings c.level)

  -- On the way to them nothing wraps and nothing traps.
  pub carried_below_fits : (1 ≤ c.below) × (c.below ≤ 1000000)
  carried_below_fits =
      let a = carried_allowed in (
        omega (arith, carried_below, power_one c.settings a.ratio_low (c.level + 1)),
        omega (arith, carried_below, power_fits c.settings a (c.level + 1) (omega (arith, h.above))),
      )

  pub carried_next_fits : c.below * c.settings.ratio ≤ 1000000 * 10
  carried_next_fits = once_fits c.settings carried_allowed c.below carried_below_fits.1

  pub carried_product_fits : c.settings.term * (c.below - 1) ≤ 4294967295 * 999999
  carried_product_fits = rw carried_below (limit_product_fits c.settings carried_allowed c.level h.above)

  pub carried_divides : 1 ≤ c.divisor
  carried_divides =
      let a = carried_allowed in
      omega (arith, carried_divisor, limit_divisor c.settings a.ratio_low a.deepest_low)

  pub carried_capacity_fits : c.settings.buffer * c.power ≤ 64000000
  carried_capacity_fits =
      omega (arith, carried_capacity, capacity_fits c.settings carried_allowed c.level (omega (arith, h.above)))
