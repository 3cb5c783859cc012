-- A list whose first elements are replaced, one by one, by what another list gives.
use mathlib.Core.Path.{◌≡◌, refl, sym, ap}
use mathlib.Core.List.{List, [], ◌∷◌, ◌++◌, map}
use Prim.Native.Nat.{ℕ, zero, suc, ◌<◌, ◌≤◌}
use native.Mathlib.Omega.{arith}
use lib.ListN.{length, take, drop, set, length-drop}

module _ {A : Type 0} where
  abbrev first_or : A → List A → A
  first_or a [] = a
  first_or a (x ∷ xs) = x

  abbrev others : List A → List A
  others [] = []
  others (x ∷ xs) = xs

  pub drop_inside : (xs : List A) (i : ℕ) (r : A) (rs : List A) → drop i xs ≡ r ∷ rs → i < length xs
  drop_inside xs i r rs e =
      let n : length (drop i xs) ≡ suc (length rs) = ap length e in
      omega (arith, length-drop i xs)

  pub drop_none : (xs : List A) (i : ℕ) → drop i xs ≡ [] → length xs ≤ i
  drop_none xs i e =
      let n : length (drop i xs) ≡ 0 = ap length e in
      omega (arith, length-drop i xs)

  pub drop_next : (xs : List A) (i : ℕ) (r : A) (rs : List A) → drop i xs ≡ r ∷ rs → drop (suc i) xs ≡ rs
  drop_next [] zero r rs e = ap others e
  drop_next [] (suc i) r rs e = ap others e
  drop_next (a ∷ xs) zero r rs e = ap others e
  drop_next (a ∷ xs) (suc i) r rs e = drop_next xs i r rs e

  pub take_over : (xs : List A) (n : ℕ) → length xs ≤ n → take n xs ≡ xs
  take_over [] zero h = refl
  take_over [] (suc n) h = refl
  take_over (a ∷ xs) zero h = absurd (omega arith)
  take_over (a ∷ xs) (suc n) h = ap {B = List A} (λ r. a ∷ r) (take_over xs n (omega arith))

module _ {A B : Type 0} (f : A → B) where
  -- The list ys after i stores.
  abbrev pub so_far : List A → List B → ℕ → List B
  so_far xs ys i = map f (take i xs) ++ drop i ys

  pub length_so_far : (xs : List A) (ys : List B) (i : ℕ) → i ≤ length xs → i ≤ length ys → length (so_far xs ys i) ≡ length ys
  length_so_far xs ys zero h k = refl
  length_so_far [] ys (suc i) h k = absurd (omega arith)
  length_so_far (a ∷ xs) [] (suc i) h k = absurd (omega arith)
  length_so_far (a ∷ xs) (y ∷ ys) (suc i) h k = ap suc (length_so_far xs ys i (omega arith) (omega arith))

  -- The next store.
  pub set-so_far : (xs : List A) (ys : List B) (i : ℕ) (r : A) (rs : List A) → drop i xs ≡ r ∷ rs → i < length ys
      → set (so_far xs ys i) i (f r) ≡ so_far xs ys (suc i)
  set-so_far xs [] i r rs e h = absurd (omega arith)
  set-so_far [] (y ∷ ys) i r rs e h = absurd (omega (arith, drop_inside [] i r rs e))
  set-so_far (a ∷ xs) (y ∷ ys) zero r rs e h = ap (λ (q : List A). f (first_or a q) ∷ ys) (sym e)
  set-so_far (a ∷ xs) (y ∷ ys) (suc i) r rs e h = ap {B = List B} (λ l. f a ∷ l) (set-so_far xs ys i r rs e (omega arith))
