-- A chain read slot by slot.
use mathlib.Core.Path.{◌≡◌, refl}
use mathlib.Core.Logic.{◌≢◌}
use mathlib.Core.Bool.{cond}
use mathlib.Core.List.{List, [], ◌∷◌}
use Prim.Native.Nat.{ℕ, zero, suc, ◌-◌, ◌<◌}
use native.Mathlib.Omega.{arith}
use native.Mathlib.Numerals.{sub-one}
use native.Mathlib.Decide.{ℕ_discrete}
use borrow.Author.Tests.{eq-eqb, ne_eqb}
use lib.Dec.{eqb}
use Rattle.lists.specs.All.{All}
use Rattle.tables.specs.Slots.{next_of}
use Rattle.tables.specs.Sound.{chain}

module _ (k : ℕ) (e : List ℕ) (at : ℕ) where
  pub chain_end : at ≡ 0 → chain k e at ≡ []
  unfolding chain
  chain_end z = go k
    where
      go : (j : ℕ) → chain j e at ≡ []
      go zero = refl
      go (suc j) = rw (eq-eqb at 0 z)

  pub chain_on : 0 < k → at ≢ 0 → chain k e at ≡ at ∷ chain (k - 1) e (next_of e at)
  unfolding chain
  chain_on more z = go k more
    where
      go : (j : ℕ) → 0 < j → chain j e at ≡ at ∷ chain (j - 1) e (next_of e at)
      go zero m = absurd (omega arith)
      go (suc j) m = rw (ne_eqb at 0 z, sub-one)

-- No slot of a chain is zero.
pub chain_nonzero : (k : ℕ) (e : List ℕ) (h : ℕ) → All (λ s. s ≢ 0) (chain k e h)
unfolding chain
chain_nonzero zero e h = tt
chain_nonzero (suc k) e h = go (chain_nonzero k e (next_of e h)) (ℕ_discrete h 0)
  where
    go : All (λ s. s ≢ 0) (chain k e (next_of e h)) → Dec (h ≡ 0) → All (λ s. s ≢ 0) (cond (eqb h 0) [] (h ∷ chain k e (next_of e h)))
    go ih (yes q) = rw (eq-eqb h 0 q) tt
    go ih (no q) = rw (ne_eqb h 0 q) (q, ih)
