-- Laws of `merge`: what it holds, and that it keeps an order.
use mathlib.Core.Path.{◌≡◌, refl, sym, ◌∙◌}
use mathlib.Core.Bool.{Bool, true, false, ◌||◌}
use mathlib.Core.List.{List, [], ◌∷◌, map}
use Prim.Native.Nat.{◌+◌}
use native.Mathlib.Omega.{arith}
use lib.ListN.{length}
use Rattle.lists.specs.Lists.{any, select, merge}
use Rattle.lists.specs.All.{All, Ascending}
use Rattle.lists.proofs.Bools.{cond_ap, cond_elim, or_swap, or_assoc, or_false}
use Rattle.lists.proofs.Tests.{all_select, all_weaken, all_map}

module _ {X : Type 0} (before : X → X → Bool) where
  pub any-merge : (t : X → Bool) (xs ys : List X) → any t (merge before xs ys) ≡ any t xs || any t ys
  unfolding any merge
  any-merge t [] ys = refl
  any-merge t (x ∷ xs) [] = sym (or_false (any t (x ∷ xs)))
  any-merge t (x ∷ xs) (y ∷ ys) =
      cond_elim (λ l. any t l ≡ any t (x ∷ xs) || any t (y ∷ ys)) (before x y) (x ∷ merge before xs (y ∷ ys)) (y ∷ merge before (x ∷ xs) ys)
      (λ p. rw (any-merge t xs (y ∷ ys)) (sym (or_assoc (t x) (any t xs) (any t (y ∷ ys)))))
      (λ p. rw (any-merge t (x ∷ xs) ys) (or_swap (t y) (any t (x ∷ xs)) (any t ys)))

  pub length-merge : (xs ys : List X) → length (merge before xs ys) ≡ length xs + length ys
  unfolding merge
  length-merge [] ys = omega arith
  length-merge (x ∷ xs) [] = omega arith
  length-merge (x ∷ xs) (y ∷ ys) =
      cond_elim (λ l. length l ≡ length (x ∷ xs) + length (y ∷ ys)) (before x y) (x ∷ merge before xs (y ∷ ys)) (y ∷ merge before (x ∷ xs) ys)
      (λ p. omega (arith, length-merge xs (y ∷ ys))) (λ p. omega (arith, length-merge (x ∷ xs) ys))

  pub all_merge : (P : X → Type 0) (xs ys : List X) → All P xs → All P ys → All P (merge before xs ys)
  unfolding merge
  all_merge P [] ys a b = b
  all_merge P (x ∷ xs) [] a b = a
  all_merge P (x ∷ xs) (y ∷ ys) a b =
      cond_elim (All P) (before x y) (x ∷ merge before xs (y ∷ ys)) (y ∷ merge before (x ∷ xs) ys)
      (λ p. (a.0, all_merge P xs (y ∷ ys) a.1 b)) (λ p. (b.0, all_merge P (x ∷ xs) ys a b.1))

  -- Elements of the two lists that are never equal in the order.
  abbrev pub Apart : List X → List X → Type 0
  Apart xs ys = All (λ x. All (λ y. before x y ≡ false → before y x ≡ true) ys) xs

  apart_rest : (xs : List X) (y : X) (ys : List X) → Apart xs (y ∷ ys) → Apart xs ys
  apart_rest xs y ys = all_weaken _ _ (λ x a. a.1) xs

  module _ (trans : (x y z : X) → before x y ≡ true → before y z ≡ true → before x z ≡ true) where
    pub merge_ascending : (xs ys : List X) → Ascending before xs → Ascending before ys → Apart xs ys → Ascending before (merge before xs ys)
    unfolding merge
    merge_ascending [] ys a b n = b
    merge_ascending (x ∷ xs) [] a b n = a
    merge_ascending (x ∷ xs) (y ∷ ys) a b n =
        cond_elim (Ascending before) (before x y) (x ∷ merge before xs (y ∷ ys)) (y ∷ merge before (x ∷ xs) ys)
        (λ p. (
          all_merge (λ z. before x z ≡ true) xs (y ∷ ys) a.0 (p, all_weaken _ _ (λ z q. trans x y z p q) ys b.0),
          merge_ascending xs (y ∷ ys) a.1 b n.1,
        ))
        (λ p. (
          all_merge (λ z. before y z ≡ true) (x ∷ xs) ys (n.0.0 p, all_weaken _ _ (λ z q. trans y x z (n.0.0 p) q) xs a.0) b.0,
          merge_ascending (x ∷ xs) ys a b.1 (apart_rest (x ∷ xs) y ys n),
        ))

  pub select_ascending : (t : X → Bool) (xs : List X) → Ascending before xs → Ascending before (select t xs)
  unfolding select
  select_ascending t [] a = tt
  select_ascending t (x ∷ xs) a =
      cond_elim (Ascending before) (t x) (x ∷ select t xs) (select t xs)
      (λ p. (all_select (λ y. before x y ≡ true) t xs a.0, select_ascending t xs a.1)) (λ p. select_ascending t xs a.1)

module _ {X Y : Type 0} (f : X → Y) (before : X → X → Bool) (before' : Y → Y → Bool) (same : (x y : X) → before' (f x) (f y) ≡ before x y) where
  pub merge-map : (xs ys : List X) → merge before' (map f xs) (map f ys) ≡ map f (merge before xs ys)
  unfolding merge
  merge-map [] ys = refl
  merge-map (x ∷ xs) [] = refl
  merge-map (x ∷ xs) (y ∷ ys) = rw (same x y, merge-map xs (y ∷ ys), merge-map (x ∷ xs) ys) (sym (cond_ap (map f) (before x y) _ _))

  pub map_ascending : (xs : List X) → Ascending before xs → Ascending before' (map f xs)
  map_ascending [] a = tt
  map_ascending (x ∷ xs) a = (all_map f (λ y. before' (f x) y ≡ true) xs (all_weaken _ _ (λ y p. same x y ∙ p) xs a.0), map_ascending xs a.1)
