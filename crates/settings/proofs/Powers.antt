-- The laws of T^i, which the capacities and the limits lean on.
use mathlib.Core.Path.{◌≡◌}
use Prim.Native.Nat.{ℕ, ◌+◌, ◌*◌, ◌≤◌}
use native.Mathlib.Nat.{le_trans, mul-le-mul, pow-zero, pow-suc, pow-le-pow_left, pow-le-pow_right}
use native.Mathlib.Numerals.{add-one}
use native.Mathlib.Omega.{arith}
use lib.Dec.{lit<}
use Rattle.settings.specs.declared.Settings.{Settings}
use Rattle.settings.specs.Limits.{power}
use Rattle.settings.proofs.Allowed.{Allowed}

pub power_none : (s : Settings) → power s 0 ≡ 1
unfolding power
power_none s = pow-zero s.ratio

pub power_next : (s : Settings) (i : ℕ) → power s (i + 1) ≡ power s i * s.ratio
unfolding power
power_next s i = rw (add-one, pow-suc)

pub power_first : (s : Settings) → power s 1 ≡ s.ratio
power_first s = rw (power_next s 0, power_none) (omega arith)

module _ (s : Settings) (two : 2 ≤ s.ratio) where
  pub power_mono : (i j : ℕ) → i ≤ j → power s i ≤ power s j
  unfolding power
  power_mono i j h = pow-le-pow_right {n = s.ratio} (omega arith) h

  pub power_one : (i : ℕ) → 1 ≤ power s i
  power_one i = omega (arith, power_mono 0 i (omega arith), power_none s)

  pub power_two : (i : ℕ) → 1 ≤ i → 2 ≤ power s i
  power_two i h = omega (arith, power_mono 1 i h, power_first s)

-- Within the ranges no power of a level passes 10^6.
pub power_fits : (s : Settings) → Allowed s → (i : ℕ) → i ≤ s.deepest → power s i ≤ 1000000
unfolding power
power_fits s a i h =
    le_trans (pow-le-pow_left a.ratio_high i)
    (pow-le-pow_right {n = 10} (lit< tt) {i = i} {j = 6} (omega arith))

-- A number up to 10^6, multiplied once, fits too.
pub once_fits : (s : Settings) → Allowed s → (p : ℕ) → p ≤ 1000000 → p * s.ratio ≤ 1000000 * 10
once_fits s a p h = mul-le-mul {n₂ = 1000000} {m₂ = 10} h a.ratio_high
