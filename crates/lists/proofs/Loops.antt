-- Laws of `iterate`.
use mathlib.Core.Path.{◌≡◌, refl, ap, ◌∙◌}
use Prim.Native.Nat.{ℕ, zero, suc, ◌+◌, ◌-◌, ◌≤◌, ◌<◌}
use native.Mathlib.Omega.{arith}
use native.Mathlib.Nat.{add-zero, suc-add, add-suc}
use Rattle.lists.specs.Lists.{iterate}

module _ {X : Type 0} (step : ℕ → X → X) where
  -- What each step hands on holds at the end.
  pub iterate_holds : (P : ℕ → X → Type 0) (n i : ℕ) (x : X)
      → ((j : ℕ) (y : X) → i ≤ j → j < i + n → P j y → P (suc j) (step j y)) → P i x → P (i + n) (iterate step i n x)
  unfolding iterate
  iterate_holds P zero i x h p = rw (add-zero i) p
  iterate_holds P (suc n) i x h p =
      let first : P (suc i) (step i x) = h i x (omega arith) (omega arith) p in
      rw (add-suc i n, ← (suc-add i n)) (iterate_holds P n (suc i) (step i x) (λ j y a b. h j y (omega arith) (omega arith)) first)

  -- What every step keeps holds at the end.
  pub iterate_keeps : (P : X → Type 0) (n i : ℕ) (x : X)
      → ((j : ℕ) (y : X) → i ≤ j → j < i + n → P y → P (step j y)) → P x → P (iterate step i n x)
  iterate_keeps P n i x h p = iterate_holds (λ j y. P y) n i x h p

-- Each turn of a loop over the numbers before n, at i, and its end.
module _ {X : Type 0} (step : ℕ → X → X) (n i : ℕ) (x : X) where
  pub iterate_end : n ≤ i → iterate step i (n - i) x ≡ x
  unfolding iterate
  iterate_end le =
      let none : n - i ≡ 0 = omega arith in
      rw none

  pub iterate_next : (j : ℕ) → i < n → j ≡ suc i → iterate step i (n - i) x ≡ iterate step j (n - j) (step i x)
  unfolding iterate
  iterate_next j lt next =
      let some : n - i ≡ suc (n - suc i) = omega arith in
      rw (some, next)

module _ {X Y : Type 0} (f : X → Y) (step : ℕ → X → X) (step' : ℕ → Y → Y) (same : (i : ℕ) (x : X) → step' i (f x) ≡ f (step i x)) where
  pub iterate_map : (n i : ℕ) (x : X) → iterate step' i n (f x) ≡ f (iterate step i n x)
  unfolding iterate
  iterate_map zero i x = refl
  iterate_map (suc n) i x = ap (iterate step' (suc i) n) (same i x) ∙ iterate_map n (suc i) (step i x)

-- Loops whose steps are the same in their range.
pub iterate_same : {X : Type 0} (step step' : ℕ → X → X) (n i : ℕ) (x : X) → ((j : ℕ) (y : X) → i ≤ j → j < i + n → step j y ≡ step' j y)
    → iterate step i n x ≡ iterate step' i n x
unfolding iterate
iterate_same step step' zero i x same = refl
iterate_same step step' (suc n) i x same =
    ap (iterate step (suc i) n) (same i x (omega arith) (omega arith)) ∙ iterate_same step step' n (suc i) (step' i x) (λ j y a b. same j y (omega arith) (omega arith))
