-- Laws of a number put among ascending ones.
use mathlib.Core.Path.{◌≡◌}
use mathlib.Core.List.{List, [], ◌∷◌}
use Prim.Native.Nat.{ℕ, ◌+◌, ◌≤◌, min, max}
use native.Mathlib.Omega.{arith}
use borrow.Author.Tests.{ltb-true, ltb-false}
use lib.Dec.{ltb}
use Rattle.lists.specs.Lists.{sum}
use Rattle.lists.specs.All.{All}
use Rattle.lists.proofs.Bools.{by_cases}
use Rattle.scan_heads.specs.Heads.{insert, Rising}

-- Of two numbers one is the lesser and the other the greater.
either : (P : ℕ → ℕ → Type 0) (o h : ℕ) → P o h → P h o → P (min o h) (max o h)
either P o h same turned = by_cases (ltb o h)
    (λ t.
    let lo : min o h ≡ o = omega (arith, ltb-true o h t) in
    let hi : max o h ≡ h = omega (arith, ltb-true o h t) in
    rw (lo, hi) same)
    (λ t.
    let lo : min o h ≡ h = omega (arith, ltb-false o h t) in
    let hi : max o h ≡ o = omega (arith, ltb-false o h t) in
    rw (lo, hi) turned)

pub sum-insert : (f : ℕ → ℕ) (h : ℕ) (os : List ℕ) → sum f (insert h os) ≡ f h + sum f os
unfolding insert sum
sum-insert f h [] = omega arith
sum-insert f h (o ∷ os) =
    either (λ a b. f a + sum f (insert b os) ≡ f h + (f o + sum f os)) o h
    (omega (arith, sum-insert f h os)) (omega (arith, sum-insert f o os))

pub all_insert : (P : ℕ → Type 0) (h : ℕ) (os : List ℕ) → P h → All P os → All P (insert h os)
unfolding insert
all_insert P h [] p ps = (p, tt)
all_insert P h (o ∷ os) p ps =
    either (λ a b. P a × All P (insert b os)) o h (ps.0, all_insert P h os p ps.1) (p, all_insert P o os ps.0 ps.1)

pub rising_lower : (a b : ℕ) (hs : List ℕ) → a ≤ b → Rising b hs → Rising a hs
rising_lower a b [] le r = tt
rising_lower a b (h ∷ hs) le r = (omega (arith, r.0), r.1)

pub rising_above : (a : ℕ) (hs : List ℕ) → Rising a hs → All (λ h. a ≤ h) hs
rising_above a [] r = tt
rising_above a (h ∷ hs) r = (r.0, rising_above a hs (rising_lower a h hs r.0 r.1))

pub rising_insert : (a h : ℕ) (os : List ℕ) → a ≤ h → Rising a os → Rising a (insert h os)
unfolding insert
rising_insert a h [] le r = (le, tt)
rising_insert a h (o ∷ os) le r =
    (omega (arith, r.0), rising_insert (min o h) (max o h) os (omega arith) (rising_lower (min o h) o os (omega arith) r.1))
