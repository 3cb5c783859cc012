-- The facts of a limit and of what is carried, each in one theorem, for all allowed L and T together and every D.
use mathlib.Core.Path.{◌≡◌, sym, ap, ◌∙◌}
use mathlib.Core.Bool.{true}
use Prim.Native.Nat.{ℕ, zero, suc, ◌+◌, ◌-◌, ◌*◌, ◌/◌, ◌^◌, ◌≤◌, ◌<◌}
use native.Mathlib.Numerals.{add-one}
use native.Mathlib.Omega.{arith}
use Rattle.settings.specs.declared.Settings.{Settings}
use Rattle.settings.specs.Limits.{allowed, power, capacity, limit}
use Rattle.settings.specs.Carried.{at_level}
use Rattle.settings.proofs.Allowed.{allowed_bounds}
use Rattle.settings.proofs.Powers.{power_none, power_next}
use Rattle.settings.proofs.Capacities.{capacity_fits}
use Rattle.settings.proofs.Carried.{limit_powers, capacity-power}
use Rattle.settings.proofs.Limits.{with_term, limit_divisor, limit_product_fits, limit_last, limit_mono, limit-term, limit_raise, limit_none}

-- Level L−1 has the term; limits rise with the level, from level 0 on; none is above the term; a longer term lowers none; level 0 has 0 where D × (T − 1) is below
-- T^L − 1.
pub record LimitFacts (s : Settings) : Type 0 where
  pub last : limit s (s.deepest - 1) ≡ s.term
  pub rise : (i j : ℕ) → i ≤ j → limit s i ≤ limit s j
  pub most : (i : ℕ) → i < s.deepest → limit s i ≤ s.term
  pub raise : (d e : ℕ) → d ≤ e → (i : ℕ) → limit (with_term s d) i ≤ limit (with_term s e) i
  pub none : s.term * (s.ratio - 1) < s.ratio ^ s.deepest - 1 → limit s 0 ≡ 0

pub limit_facts : (s : Settings) → allowed s ≡ true → LimitFacts s
unfolding power
limit_facts s e =
    let a = allowed_bounds s e in
    let two = a.ratio_low in
    let deep = a.deepest_low in
    record {
      last = limit_last s two deep;
      rise = limit_mono s two deep;
      most = limit-term s two deep;
      raise = limit_raise s two deep;
      none = limit_none s two deep;
    }

-- Request S-3: "carry the power from the level above": 1 at level 0, where there is none.
abbrev pub from_above : Settings → ℕ → ℕ
from_above s zero = 1
from_above s (suc i) = (at_level s i).below

-- "and multiply once": what the limit takes, and the level below carries.
abbrev pub once : Settings → ℕ → ℕ
once s i = from_above s i * s.ratio

-- "at each level … the power carried is T^i, and the limit and capacity taken from it are the ones of document 01."
-- The divisor is not 0 and the products fit 64 bits, so that the code's numbers are these.
pub record CarriedFacts (s : Settings) (i : ℕ) : Type 0 where
  pub power_is : from_above s i ≡ s.ratio ^ i
  pub once_is : once s i ≡ from_above s (suc i)
  pub limit_is : s.term * (once s i - 1) / (at_level s i).divisor ≡ limit s i
  pub capacity_is : s.buffer * from_above s i ≡ capacity s i
  pub divides : 1 ≤ (at_level s i).divisor
  pub limit_fits : s.term * (once s i - 1) ≤ 18446744073709551615
  pub capacity_fits : s.buffer * from_above s i ≤ 18446744073709551615

-- T^i comes from above at every level.
above_power : (s : Settings) (i : ℕ) → from_above s i ≡ power s i
above_power s zero = sym (power_none s)
above_power s (suc i) = ap (power s) (add-one i)

once-power : (s : Settings) (i : ℕ) → once s i ≡ power s (i + 1)
once-power s i = ap (λ p. p * s.ratio) (above_power s i) ∙ sym (power_next s i)

pub carried_facts : (s : Settings) → allowed s ≡ true → (i : ℕ) → i < s.deepest → CarriedFacts s i
unfolding power
carried_facts s e i high =
    let a = allowed_bounds s e in
    record {
      power_is = above_power s i;
      once_is = once-power s i;
      limit_is = rw (once-power s i) (limit_powers s i);
      capacity_is = rw (above_power s i) (capacity-power s i);
      divides = limit_divisor s a.ratio_low a.deepest_low;
      limit_fits = rw (once-power s i) (omega (arith, limit_product_fits s a i high));
      capacity_fits = rw (above_power s i) (omega (arith, capacity-power s i, capacity_fits s a i (omega arith)));
    }
