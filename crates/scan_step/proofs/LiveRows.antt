-- Laws of the rows of live dockets: where nothing is found before a docket, they are those from it on.
use mathlib.Core.Path.{◌≡◌, refl, ◌∙◌}
use mathlib.Core.List.{[]}
use Prim.Native.Nat.{ℕ, zero, suc, ◌+◌, ◌-◌, ◌<◌, ◌≤◌}
use native.Mathlib.Numerals.{add-one}
use native.Mathlib.Omega.{arith}
use Rattle.model.specs.Lookup.{Found, absent, add_row, live_from, live}

module _ {A : Type 0} where
  live_from_same : (f g : ℕ → Found A) (n k : ℕ) → ((j : ℕ) → k ≤ j → f j ≡ g j) → live_from f k n ≡ live_from g k n
  unfolding live_from
  live_from_same f g zero k same = refl
  live_from_same f g (suc n) k same = rw (same k (omega arith), live_from_same f g n (suc k) (λ j le. same j (omega arith)))

  -- The first m dockets from k on, those before s, have no row.
  live_from_skip : (f : ℕ → Found A) (s m l n k : ℕ) → l ≡ m + n → s ≡ k + m → ((j : ℕ) → k ≤ j → j < s → f j ≡ absent)
      → live_from f k l ≡ live_from f s n
  unfolding live_from
  live_from_skip f s zero l n k p q no_row =
      let l≡ : l ≡ n = omega arith in
      let s≡ : s ≡ k = omega arith in
      rw (l≡, s≡)
  live_from_skip f s (suc m) zero n k p q no_row = absurd (omega arith)
  live_from_skip f s (suc m) (suc l) n k p q no_row =
      rw (no_row k (omega arith) (omega arith)) (live_from_skip f s m l n (suc k) (omega arith) (omega arith) (λ j a b. no_row j (omega arith) b))

  live_from_first : (f : ℕ → Found A) (k l n : ℕ) → l ≡ suc n → live_from f k l ≡ add_row k (f k) (live_from f (k + 1) n)
  unfolding live_from
  live_from_first f k l n q = rw (q, add-one k)

  -- The rows from lo on of two lookups that find the same from there on.
  pub live_same : (f g : ℕ → Found A) (lo hi : ℕ) → ((j : ℕ) → lo ≤ j → f j ≡ g j) → live f lo hi ≡ live g lo hi
  live_same f g lo hi same = live_from_same f g (suc hi - lo) lo same

  module _ (f : ℕ → Found A) (lo k hi : ℕ) (before : (j : ℕ) → lo ≤ j → j < k → f j ≡ absent) where
    -- Nothing is found up to hi.
    pub live_none : hi < k → live f lo hi ≡ []
    unfolding live_from
    live_none lt =
        live_from_skip f (lo + (suc hi - lo)) (suc hi - lo) (suc hi - lo) 0 lo (omega arith) refl (λ j a b. before j a (omega arith))

    -- Docket k has its row, and then come those past it.
    pub live_pass : lo ≤ k → k ≤ hi → live f lo hi ≡ add_row k (f k) (live f (k + 1) hi)
    live_pass le last =
        live_from_skip f k (k - lo) (suc hi - lo) (suc hi - k) lo (omega arith) (omega arith) before
        ∙ live_from_first f k (suc hi - k) (suc hi - (k + 1)) (omega arith)
