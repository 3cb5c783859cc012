-- A bit that is 0 is set by adding its power: that bit becomes 1, the others stay, and the sum fits as many bits.
use mathlib.Core.Path.{◌≡◌, refl, sym, ap, ◌∙◌}
use mathlib.Core.Logic.{◌≢◌}
use Prim.Native.Nat.{ℕ, zero, suc, ◌+◌, ◌*◌, ◌/◌, ◌%◌, ◌^◌, ◌<◌}
use native.Mathlib.Omega.{arith}
use native.Mathlib.Nat.{pow-succ', one-mul, mod-eq_of_lt, div-div-eq-div-mul}
use lib.Pow.{pow-lt}
use Rattle.check_marks.specs.Marks.{bit}

bit-suc : (k b : ℕ) → bit (suc k) b ≡ bit k (b / 2)
unfolding bit
bit-suc k b = ap (λ (x : ℕ). x % 2) (ap (λ (x : ℕ). b / x) (pow-succ' 2 k) ∙ sym (div-div-eq-div-mul b 2 (2 ^ k)))

half_add : (k b : ℕ) → (b + 2 ^ suc k) / 2 ≡ b / 2 + 2 ^ k
half_add k b = omega (arith, pow-succ' 2 k)

pub add_same : (k b : ℕ) → bit k b ≡ 0 → bit k (b + 2 ^ k) ≡ 1
unfolding bit
add_same zero b h = omega arith
add_same (suc k) b h = bit-suc k _ ∙ rw (half_add k b) (add_same k (b / 2) (sym (bit-suc k b) ∙ h))

pub add_other : (j k b : ℕ) → j ≢ k → bit k b ≡ 0 → bit j (b + 2 ^ k) ≡ bit j b
unfolding bit
add_other zero zero b n h = absurd (n refl)
add_other zero (suc k) b n h = omega (arith, pow-succ' 2 k)
add_other (suc j) zero b n h = bit-suc j _ ∙ ap (bit j) (omega arith) ∙ sym (bit-suc j b)
add_other (suc j) (suc k) b n h =
    bit-suc j _ ∙ rw (half_add k b) (add_other j k (b / 2) (λ q. n (ap suc q)) (sym (bit-suc k b) ∙ h)) ∙ sym (bit-suc j b)

pub add_fits : (w k b : ℕ) → k < w → b < 2 ^ w → bit k b ≡ 0 → b + 2 ^ k < 2 ^ w
unfolding bit
add_fits zero k b l f h = absurd (omega arith)
add_fits (suc w) zero b l f h = omega (arith, pow-succ' 2 w)
add_fits (suc w) (suc k) b l f h =
    omega (arith, pow-succ' 2 w, half_add k b, add_fits w k (b / 2) (omega arith) (omega (arith, pow-succ' 2 w)) (sym (bit-suc k b) ∙ h))

-- `1 << k` of a byte is the power.
pub shifted_one : (k : ℕ) → k < 8 → 1 * 2 ^ k % 256 ≡ 2 ^ k
shifted_one k l = ap (λ (x : ℕ). x % 256) (one-mul (2 ^ k)) ∙ mod-eq_of_lt (pow-lt l)
