-- How many elements pass a test: all, none, and the rest.
use mathlib.Core.Path.{◌≡◌, refl}
use mathlib.Core.Bool.{Bool, true, false, cond, not}
use mathlib.Core.List.{List, [], ◌∷◌, map}
use Prim.Native.Nat.{suc, ◌+◌, ◌≤◌}
use native.Mathlib.Omega.{arith}
use lib.ListN.{length}
use Rattle.lists.specs.Lists.{any, count}
use Rattle.lists.specs.All.{All}
use Rattle.lists.proofs.Bools.{or_false_left, or_false_right, or_false_intro}
use Rattle.lists.proofs.Counting.{count_most}

module _ {X : Type 0} (t : X → Bool) where
  -- Where as many pass as there are, all pass.
  pub all_counted : (xs : List X) → length xs ≤ count t xs → All (λ x. t x ≡ true) xs
  unfolding count
  all_counted [] h = tt
  all_counted (x ∷ xs) h = go (t x) refl h (all_counted xs)
    where
      go : (b : Bool) → t x ≡ b → suc (length xs) ≤ cond b 1 0 + count t xs → (length xs ≤ count t xs → All (λ x. t x ≡ true) xs)
          → (t x ≡ true) × All (λ x. t x ≡ true) xs
      go true e g ih = (e, ih (omega arith))
      go false e g ih = absurd (omega (arith, count_most t xs))

  pub count_rest : (xs : List X) → count t xs + count (λ x. not (t x)) xs ≡ length xs
  unfolding count
  count_rest [] = omega arith
  count_rest (x ∷ xs) = go (t x) (count_rest xs)
    where
      go : (b : Bool) → count t xs + count (λ x. not (t x)) xs ≡ length xs
          → cond b 1 0 + count t xs + (cond (not b) 1 0 + count (λ x. not (t x)) xs) ≡ suc (length xs)
      go true h = omega (arith, h)
      go false h = omega (arith, h)

  pub count_none : (xs : List X) → any t xs ≡ false → count t xs ≡ 0
  unfolding any count
  count_none [] h = refl
  count_none (x ∷ xs) h = rw (or_false_left (t x) (any t xs) h) (omega (arith, count_none xs (or_false_right (t x) (any t xs) h)))

  pub none_counted : (xs : List X) → count t xs ≡ 0 → any t xs ≡ false
  unfolding any count
  none_counted [] h = refl
  none_counted (x ∷ xs) h = go (t x) refl h (none_counted xs)
    where
      go : (b : Bool) → t x ≡ b → cond b 1 0 + count t xs ≡ 0 → (count t xs ≡ 0 → any t xs ≡ false) → any t (x ∷ xs) ≡ false
      go true e g ih = absurd (omega arith)
      go false e g ih = or_false_intro (t x) (any t xs) e (ih (omega arith))

pub count_map : {X Y : Type 0} (f : X → Y) (t : Y → Bool) (xs : List X) → count t (map f xs) ≡ count (λ x. t (f x)) xs
unfolding count
count_map f t [] = refl
count_map f t (x ∷ xs) = rw (count_map f t xs)

pub no_element : {X : Type 0} (xs : List X) → length xs ≡ 0 → xs ≡ []
no_element [] h = refl
no_element (x ∷ xs) h = absurd (omega arith)
