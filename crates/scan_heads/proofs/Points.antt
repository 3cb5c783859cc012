-- The point of each level among some heads, where no level has two.
use mathlib.Core.Path.{◌≡◌, refl}
use mathlib.Core.List.{List, [], ◌∷◌}
use Prim.Native.Nat.{ℕ, ◌+◌, ◌≤◌}
use native.Mathlib.Omega.{arith}
use borrow.Author.Tests.{eqb-true}
use lib.Dec.{eqb}
use Rattle.lists.specs.Lists.{sum}
use Rattle.lists.specs.All.{All}
use Rattle.lists.proofs.Bools.{by_cases}
use Rattle.scan_heads.specs.Heads.{level_of, slot_of, point_in, times_in}

module _ (i : ℕ) where
  pub point_none : (hs : List ℕ) → times_in hs i ≡ 0 → point_in hs i ≡ 0
  unfolding sum
  point_none [] none = refl
  point_none (h ∷ hs) none = by_cases (eqb (level_of h) i)
      (λ t. absurd (omega (arith, rw t at none)))
      (λ t. rw t (omega (arith, point_none hs (omega (arith, rw t at none)))))

  -- What each head's level and slot have, each level and its point have.
  pub point_has : (Q : ℕ → ℕ → Type 0) → Q i 0 → (hs : List ℕ) → All (λ h. Q (level_of h) (slot_of h)) hs → times_in hs i ≤ 1 → Q i (point_in hs i)
  unfolding sum
  point_has Q none [] all once = none
  point_has Q none (h ∷ hs) all once = by_cases (eqb (level_of h) i)
      (λ t.
      let here : slot_of h + point_in hs i ≡ slot_of h = omega (arith, point_none hs (omega (arith, rw t at once))) in
      rw (t, here) (rw (eqb-true (level_of h) i t) at all.0))
      (λ t.
      let there : 0 + point_in hs i ≡ point_in hs i = omega arith in
      rw (t, there) (point_has Q none hs all.1 (omega (arith, rw t at once))))
