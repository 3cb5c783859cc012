-- The laws of a level's limit, for all L and T together and every D.
use mathlib.Core.Path.{◌≡◌, ap, ◌∙◌}
use Prim.Native.Nat.{ℕ, ◌+◌, ◌-◌, ◌*◌, ◌/◌, ◌≤◌, ◌<◌}
use native.Mathlib.Nat.{le_trans, le-div_iff_mul-le, div-mul-le_self, mul-div_cancel, mul-le-mul, mul-le-mul_left, mul-le-mul_right, mul-sub, add-mul, mul-div-mul_right, div-eq_of_lt}
use native.Mathlib.Omega.{arith}
use Rattle.settings.specs.declared.Settings.{Settings}
use Rattle.settings.specs.Limits.{power, limit}
use Rattle.settings.proofs.Allowed.{Allowed}
use Rattle.settings.proofs.Powers.{power_next, power_first, power_mono, power_two, power_fits}

-- The same settings with another term.
abbrev pub with_term : Settings → ℕ → Settings
with_term s d = record { deepest = s.deepest; ratio = s.ratio; buffer = s.buffer; term = d }

div_mono : (n : ℕ) {a b : ℕ} → 0 < n → a ≤ b → a / n ≤ b / n
div_mono n {a} {b} p h = (le-div_iff_mul-le p).1 (le_trans (div-mul-le_self a n) h)

module _ (s : Settings) (two : 2 ≤ s.ratio) (deep : 2 ≤ s.deepest) where
  -- The divisor is never 0.
  pub limit_divisor : 1 ≤ power s s.deepest - 1
  limit_divisor = omega (arith, power_two s two s.deepest (omega arith))

  -- "So the limit of level L−1 is D."
  pub limit_last : limit s (s.deepest - 1) ≡ s.term
  unfolding limit
  limit_last =
      let last : s.deepest - 1 + 1 ≡ s.deepest = omega arith in
      ap (λ n. s.term * (power s n - 1) / (power s s.deepest - 1)) last ∙ mul-div_cancel s.term limit_divisor

  -- Where L is 2, level 0 has D divided by (T + 1), since T^2 − 1 is (T + 1) × (T − 1).
  pub limit_first : s.deepest ≡ 2 → limit s 0 ≡ s.term / (s.ratio + 1)
  unfolding limit power
  limit_first e =
      let r : ℕ = s.ratio in
      let one = power_first s in
      let squared : power s 2 ≡ r * r = power_next s 1 ∙ ap (λ p. p * r) one in
      let product : power s 2 - 1 ≡ (r + 1) * (r - 1) = omega (arith, squared, mul-sub (r + 1) r 1, add-mul r 1 r) in
      rw (e, one, product) (mul-div-mul_right s.term (r + 1) (omega arith))

  -- Where D × (T − 1) is below T^L − 1, level 0 has the limit 0.
  pub limit_none : s.term * (s.ratio - 1) < power s s.deepest - 1 → limit s 0 ≡ 0
  unfolding limit
  limit_none h = div-eq_of_lt (rw (power_first s) h)

  -- Limits rise with the level.
  pub limit_mono : (i j : ℕ) → i ≤ j → limit s i ≤ limit s j
  unfolding limit
  limit_mono i j h =
      div_mono _ limit_divisor (mul-le-mul_left s.term (omega (arith, power_mono s two (i + 1) (j + 1) (omega arith))))

  -- None is above D.
  pub limit-term : (i : ℕ) → i < s.deepest → limit s i ≤ s.term
  limit-term i h = rw limit_last at (limit_mono i (s.deepest - 1) (omega arith))

  -- Raising D never lowers one.
  pub limit_raise : (d e : ℕ) → d ≤ e → (i : ℕ) → limit (with_term s d) i ≤ limit (with_term s e) i
  unfolding limit power
  limit_raise d e h i = div_mono _ limit_divisor (mul-le-mul_right _ h)

module _ (s : Settings) (a : Allowed s) (i : ℕ) (h : i < s.deepest) where
  -- The product that is divided fits 64 bits.
  pub limit_product_fits : s.term * (power s (i + 1) - 1) ≤ 4294967295 * 999999
  limit_product_fits =
      mul-le-mul {n₂ = 4294967295} {m₂ = 999999} a.term_high (omega (arith, power_fits s a (i + 1) (omega arith)))
