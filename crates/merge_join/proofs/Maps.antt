-- Laws of mapped lists that ask of the map only what holds for the elements in the list.
use mathlib.Core.Path.{◌≡◌, refl, sym, ap, ◌∙◌}
use mathlib.Core.Bool.{Bool, true, not}
use mathlib.Core.List.{List, [], ◌∷◌, map}
use Rattle.lists.specs.Lists.{any, select, reject, merge}
use Rattle.lists.specs.All.{All, Ascending}
use Rattle.lists.proofs.Bools.{cond_ap}
use Rattle.lists.proofs.Tests.{all_both, all_map, all_weaken}

-- A test of the images that is another test of the elements.
module _ {X Y : Type 0} (f : X → Y) (t : Y → Bool) (u : X → Bool) where
  pub any-map_where : (xs : List X) → All (λ x. t (f x) ≡ u x) xs → any t (map f xs) ≡ any u xs
  unfolding any
  any-map_where [] a = refl
  any-map_where (x ∷ xs) a = rw (a.0, any-map_where xs a.1)

  pub select-map_where : (xs : List X) → All (λ x. t (f x) ≡ u x) xs → select t (map f xs) ≡ map f (select u xs)
  unfolding select
  select-map_where [] a = refl
  select-map_where (x ∷ xs) a = rw (a.0, select-map_where xs a.1) (sym (cond_ap (map f) (u x) (x ∷ select u xs) (select u xs)))

module _ {X Y : Type 0} (f : X → Y) where
  pub reject-map_where : (t : Y → Bool) (u : X → Bool) (xs : List X) → All (λ x. t (f x) ≡ u x) xs → reject t (map f xs) ≡ map f (reject u xs)
  reject-map_where t u xs a = select-map_where f (λ y. not (t y)) (λ x. not (u x)) xs (all_weaken _ _ (λ x e. ap not e) xs a)

  pub map-map_where : (g : Y → Y) (h : X → X) (xs : List X) → All (λ x. g (f x) ≡ f (h x)) xs → map g (map f xs) ≡ map f (map h xs)
  map-map_where g h [] a = refl
  map-map_where g h (x ∷ xs) a = rw (a.0, map-map_where g h xs a.1)

-- An order of the images that is another order of the elements, of those that have P.
module _ {X Y : Type 0} (f : X → Y) (P : X → Type 0) (before : X → X → Bool) (before' : Y → Y → Bool)
    (same : (x y : X) → P x → P y → before' (f x) (f y) ≡ before x y) where
  pub merge-map_where : (xs ys : List X) → All P xs → All P ys → merge before' (map f xs) (map f ys) ≡ map f (merge before xs ys)
  unfolding merge
  merge-map_where [] ys a b = refl
  merge-map_where (x ∷ xs) [] a b = refl
  merge-map_where (x ∷ xs) (y ∷ ys) a b =
      rw (same x y a.0 b.0, merge-map_where xs (y ∷ ys) a.1 b, merge-map_where (x ∷ xs) ys a b.1) (sym (cond_ap (map f) (before x y) _ _))

  pub map_ascending_where : (xs : List X) → All P xs → Ascending before xs → Ascending before' (map f xs)
  map_ascending_where [] a b = tt
  map_ascending_where (x ∷ xs) a b =
      (all_map f (λ y. before' (f x) y ≡ true) xs (all_both _ _ _ (λ y p q. same x y a.0 p ∙ q) xs a.1 b.0), map_ascending_where xs a.1 b.1)
