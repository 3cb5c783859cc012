-- Laws of `any`, `select` and `All`.
use mathlib.Core.Path.{◌≡◌, refl, sym, ap}
use mathlib.Core.Bool.{Bool, true, false, cond, ◌||◌, not, true≢false}
use mathlib.Core.List.{List, [], ◌∷◌, ◌++◌, map, reverse_aux}
use Prim.Native.Nat.{ℕ, zero, suc, ◌+◌}
use native.Mathlib.Omega.{arith}
use lib.ListN.{length, get_or, take, drop, set, replicate}
use Rattle.lists.specs.Lists.{every, none, any, select, reject}
use Rattle.lists.specs.All.{All}
use Rattle.lists.proofs.Bools.{and_left, and_right, and_intro, cond_ap, cond_elim, or_false_left, or_false_right, or_false_intro}

module _ {X : Type 0} where
  pub any_same : (t u : X → Bool) → ((x : X) → t x ≡ u x) → (xs : List X) → any t xs ≡ any u xs
  unfolding any
  any_same t u h [] = refl
  any_same t u h (x ∷ xs) = rw (h x, any_same t u h xs)

  -- A test of every element, and back.
  pub every_all : (t : X → Bool) (xs : List X) → every t xs ≡ true → All (λ x. t x ≡ true) xs
  unfolding every
  every_all t [] h = tt
  every_all t (x ∷ xs) h = (and_left (t x) (every t xs) h, every_all t xs (and_right (t x) (every t xs) h))

  pub all_every-true : (t : X → Bool) (xs : List X) → All (λ x. t x ≡ true) xs → every t xs ≡ true
  unfolding every
  all_every-true t [] a = refl
  all_every-true t (x ∷ xs) a = and_intro (t x) (every t xs) a.0 (all_every-true t xs a.1)

  pub select_same : (t u : X → Bool) → ((x : X) → t x ≡ u x) → (xs : List X) → select t xs ≡ select u xs
  unfolding select
  select_same t u h [] = refl
  select_same t u h (x ∷ xs) = rw (h x, select_same t u h xs)

  -- What is selected, and what is not, are all.
  pub length-select : (t : X → Bool) (xs : List X) → length (select t xs) + length (reject t xs) ≡ length xs
  unfolding select
  length-select t [] = refl
  length-select t (x ∷ xs) = go (t x) (length-select t xs)
    where
      go : (b : Bool) → length (select t xs) + length (reject t xs) ≡ length xs
          → length (cond b (x ∷ select t xs) (select t xs)) + length (cond (not b) (x ∷ reject t xs) (reject t xs)) ≡ suc (length xs)
      go true h = omega arith
      go false h = omega arith

  -- Nothing that fails the second test is among what was selected by the first.
  pub any-select : (t u : X → Bool) → ((x : X) → t x ≡ true → u x ≡ false) → (xs : List X) → any u (select t xs) ≡ false
  unfolding any select
  any-select t u h [] = refl
  any-select t u h (x ∷ xs) =
      cond_elim (λ l. any u l ≡ false) (t x) (x ∷ select t xs) (select t xs)
      (λ p. or_false_intro (u x) _ (h x p) (any-select t u h xs)) (λ p. any-select t u h xs)

  pub any-select_weaken : (t u : X → Bool) (xs : List X) → any u xs ≡ false → any u (select t xs) ≡ false
  unfolding any select
  any-select_weaken t u [] h = refl
  any-select_weaken t u (x ∷ xs) h =
      let rest = any-select_weaken t u xs (or_false_right (u x) (any u xs) h) in
      cond_elim (λ l. any u l ≡ false) (t x) (x ∷ select t xs) (select t xs)
      (λ p. or_false_intro (u x) _ (or_false_left (u x) (any u xs) h) rest) (λ p. rest)

  -- Nothing is selected where nothing passes, and all where all do.
  pub select_none : (t : X → Bool) (xs : List X) → any t xs ≡ false → select t xs ≡ []
  unfolding any select
  select_none t [] h = refl
  select_none t (x ∷ xs) h = rw (or_false_left (t x) (any t xs) h) (select_none t xs (or_false_right (t x) (any t xs) h))

  pub select_never : (t : X → Bool) → ((x : X) → t x ≡ false) → (xs : List X) → select t xs ≡ []
  unfolding select
  select_never t h [] = refl
  select_never t h (x ∷ xs) = rw (h x) (select_never t h xs)

  pub any_some : (t : X → Bool) (xs : List X) → none (select t xs) ≡ false → any t xs ≡ true
  unfolding any select
  any_some t [] h = absurd (true≢false h)
  any_some t (x ∷ xs) h = go (t x) h (any_some t xs)
    where
      go : (b : Bool) → none (cond b (x ∷ select t xs) (select t xs)) ≡ false → (none (select t xs) ≡ false → any t xs ≡ true) → b || any t xs ≡ true
      go true p q = refl
      go false p q = q p

  module _ (P : X → Type 0) where
    pub all_select : (t : X → Bool) (xs : List X) → All P xs → All P (select t xs)
    unfolding select
    all_select t [] a = tt
    all_select t (x ∷ xs) a =
        cond_elim (All P) (t x) (x ∷ select t xs) (select t xs) (λ p. (a.0, all_select t xs a.1)) (λ p. all_select t xs a.1)

    -- Of what is selected the test holds too.
    pub all_selected : (t : X → Bool) → ((x : X) → t x ≡ true → P x) → (xs : List X) → All P (select t xs)
    unfolding select
    all_selected t h [] = tt
    all_selected t h (x ∷ xs) =
        cond_elim (All P) (t x) (x ∷ select t xs) (select t xs) (λ p. (h x p, all_selected t h xs)) (λ p. all_selected t h xs)

    pub all_every : ((x : X) → P x) → (xs : List X) → All P xs
    all_every h [] = tt
    all_every h (x ∷ xs) = (h x, all_every h xs)

    pub all_replicate : (n : ℕ) (x : X) → P x → All P (replicate n x)
    all_replicate zero x p = tt
    all_replicate (suc n) x p = (p, all_replicate n x p)

    pub all_append : (xs ys : List X) → All P xs → All P ys → All P (xs ++ ys)
    all_append [] ys a b = b
    all_append (x ∷ xs) ys a b = (a.0, all_append xs ys a.1 b)

    pub all_left : (xs ys : List X) → All P (xs ++ ys) → All P xs
    all_left [] ys a = tt
    all_left (x ∷ xs) ys a = (a.0, all_left xs ys a.1)

    pub all_right : (xs ys : List X) → All P (xs ++ ys) → All P ys
    all_right [] ys a = a
    all_right (x ∷ xs) ys a = all_right xs ys a.1

    pub all_set : (xs : List X) (i : ℕ) (y : X) → All P xs → P y → All P (set xs i y)
    all_set [] i y a p = tt
    all_set (x ∷ xs) zero y a p = (p, a.1)
    all_set (x ∷ xs) (suc i) y a p = (a.0, all_set xs i y a.1 p)

    pub all_take : (n : ℕ) (xs : List X) → All P xs → All P (take n xs)
    all_take zero xs a = tt
    all_take (suc n) [] a = tt
    all_take (suc n) (x ∷ xs) a = (a.0, all_take n xs a.1)

    pub all_drop : (n : ℕ) (xs : List X) → All P xs → All P (drop n xs)
    all_drop zero xs a = a
    all_drop (suc n) [] a = tt
    all_drop (suc n) (x ∷ xs) a = all_drop n xs a.1

    pub all_get : (xs : List X) (i : ℕ) (d : X) → All P xs → P d → P (get_or xs i d)
    all_get [] i d a p = p
    all_get (x ∷ xs) zero d a p = a.0
    all_get (x ∷ xs) (suc i) d a p = all_get xs i d a.1 p

  pub all_weaken : (P Q : X → Type 0) → ((x : X) → P x → Q x) → (xs : List X) → All P xs → All Q xs
  all_weaken P Q h [] a = tt
  all_weaken P Q h (x ∷ xs) a = (h x a.0, all_weaken P Q h xs a.1)

module _ {X Y : Type 0} (f : X → Y) where
  pub any-map : (t : Y → Bool) (xs : List X) → any t (map f xs) ≡ any (λ x. t (f x)) xs
  unfolding any
  any-map t [] = refl
  any-map t (x ∷ xs) = rw (any-map t xs)

  pub select-map : (t : Y → Bool) (xs : List X) → select t (map f xs) ≡ map f (select (λ x. t (f x)) xs)
  unfolding select
  select-map t [] = refl
  select-map t (x ∷ xs) = rw (select-map t xs, cond_ap (map f) (t (f x)))

  pub none-map : (xs : List X) → none (map f xs) ≡ none xs
  none-map [] = refl
  none-map (x ∷ xs) = refl

  pub append_map : (xs ys : List X) → map f (xs ++ ys) ≡ map f xs ++ map f ys
  append_map [] ys = refl
  append_map (x ∷ xs) ys = ap (◌∷◌ (f x)) (append_map xs ys)

  pub reverse_map : (xs ys : List X) → reverse_aux (map f xs) (map f ys) ≡ map f (reverse_aux xs ys)
  reverse_map [] ys = refl
  reverse_map (x ∷ xs) ys = reverse_map xs (x ∷ ys)

  pub set-map : (xs : List X) (i : ℕ) (y : X) → set (map f xs) i (f y) ≡ map f (set xs i y)
  set-map [] i y = refl
  set-map (x ∷ xs) zero y = refl
  set-map (x ∷ xs) (suc i) y = ap (◌∷◌ (f x)) (set-map xs i y)

  pub all_map : (P : Y → Type 0) (xs : List X) → All (λ x. P (f x)) xs → All P (map f xs)
  all_map P [] a = tt
  all_map P (x ∷ xs) a = (a.0, all_map P xs a.1)

-- A list of no element, and its length.
module _ {X : Type 0} where
  pub none_of_length : (xs : List X) → length xs ≡ 0 → none xs ≡ true
  none_of_length [] e = refl
  none_of_length (x ∷ xs) e = absurd (omega arith)

  pub length_of_none : (xs : List X) → none xs ≡ true → length xs ≡ 0
  length_of_none [] e = refl
  length_of_none (x ∷ xs) e = absurd (true≢false (sym e))

  -- What follows from two facts of each element.
  pub all_both : (P Q R : X → Type 0) → ((x : X) → P x → Q x → R x) → (xs : List X) → All P xs → All Q xs → All R xs
  all_both P Q R h [] a b = tt
  all_both P Q R h (x ∷ xs) a b = (h x a.0 b.0, all_both P Q R h xs a.1 b.1)

pub map_id : {X : Type 0} (xs : List X) → map (λ x. x) xs ≡ xs
map_id [] = refl
map_id (x ∷ xs) = ap (◌∷◌ x) (map_id xs)

module _ {X Y Z : Type 0} (f : X → Y) (h : Y → Z) where
  pub map-map : (xs : List X) → map h (map f xs) ≡ map (λ x. h (f x)) xs
  map-map [] = refl
  map-map (x ∷ xs) = ap (◌∷◌ (h (f x))) (map-map xs)
