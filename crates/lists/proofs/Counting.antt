-- Counting: how many elements pass a test, and that different elements need as many places.
use mathlib.Core.Path.{◌≡◌, refl, sym, ap, ◌∙◌}
use mathlib.Core.Bool.{Bool, true, false, cond, ◌||◌, not, false≢true, true≢false}
use mathlib.Core.List.{List, [], ◌∷◌, ◌++◌, map, reverse_aux}
use Prim.Native.Nat.{ℕ, zero, suc, ◌+◌, ◌≤◌, ◌<◌}
use native.Mathlib.Omega.{arith}
use lib.Dec.{eqb}
use lib.ListN.{length, get_or, set, replicate}
use borrow.Author.Tests.{eqb-true, eqb-false, ne_eqb}
use Rattle.lists.specs.Lists.{any, select, reject, sum, count, merge}
use Rattle.lists.specs.All.{All}
use Rattle.lists.proofs.Tests.{length-select}
use Rattle.lists.proofs.Bools.{cond_elim, by_cases, or_second, or_right, or_left, or_false_left, or_false_right}

module _ {X : Type 0} (t : X → Bool) where
  pub count-merge : (before : X → X → Bool) (xs ys : List X) → count t (merge before xs ys) ≡ count t xs + count t ys
  unfolding count merge
  count-merge before [] ys = omega arith
  count-merge before (x ∷ xs) [] = omega arith
  count-merge before (x ∷ xs) (y ∷ ys) =
      cond_elim (λ l. count t l ≡ count t (x ∷ xs) + count t (y ∷ ys)) (before x y) (x ∷ merge before xs (y ∷ ys)) (y ∷ merge before (x ∷ xs) ys)
      (λ g. omega (arith, count-merge before xs (y ∷ ys))) (λ g. omega (arith, count-merge before (x ∷ xs) ys))

  pub count_append : (xs ys : List X) → count t (xs ++ ys) ≡ count t xs + count t ys
  unfolding count
  count_append [] ys = omega arith
  count_append (x ∷ xs) ys = omega (arith, count_append xs ys)

  cond_one_most : (b : Bool) → cond b 1 0 ≤ 1
  cond_one_most true = omega arith
  cond_one_most false = omega arith

  pub count_most : (xs : List X) → count t xs ≤ length xs
  unfolding count
  count_most [] = omega arith
  count_most (x ∷ xs) = omega (arith, cond_one_most (t x), count_most xs)

  pub count-select : (u : X → Bool) (xs : List X) → count t (select u xs) ≤ count t xs
  unfolding count select
  count-select u [] = omega arith
  count-select u (x ∷ xs) = cond_elim (λ l. count t l ≤ count t (x ∷ xs)) (u x) (x ∷ select u xs) (select u xs)
      (λ g. omega (arith, count-select u xs)) (λ g. omega (arith, count-select u xs))

module _ {X : Type 0} (f : X → ℕ) where
  -- One element changed.
  pub sum-set : (xs : List X) (i : ℕ) (x d : X) → i < length xs → sum f (set xs i x) + f (get_or xs i d) ≡ sum f xs + f x
  unfolding sum
  sum-set [] i x d h = absurd (omega arith)
  sum-set (y ∷ ys) zero x d h = omega arith
  sum-set (y ∷ ys) (suc i) x d h = omega (arith, sum-set ys i x d (omega arith))

  pub sum_le : (g : X → ℕ) → ((x : X) → f x ≤ g x) → (xs : List X) → sum f xs ≤ sum g xs
  unfolding sum
  sum_le g h [] = omega arith
  sum_le g h (x ∷ xs) = omega (arith, h x, sum_le g h xs)

  pub sum_append : (xs ys : List X) → sum f (xs ++ ys) ≡ sum f xs + sum f ys
  unfolding sum
  sum_append [] ys = omega arith
  sum_append (x ∷ xs) ys = omega (arith, sum_append xs ys)

  pub sum_reverse : (xs ys : List X) → sum f (reverse_aux xs ys) ≡ sum f xs + sum f ys
  unfolding sum
  sum_reverse [] ys = omega arith
  sum_reverse (x ∷ xs) ys = omega (arith, sum_reverse xs (x ∷ ys))

  pub sum-select : (t : X → Bool) (xs : List X) → sum f (select t xs) + sum f (reject t xs) ≡ sum f xs
  unfolding sum select
  sum-select t [] = refl
  sum-select t (x ∷ xs) = go (t x) (sum-select t xs)
    where
      go : (b : Bool) → sum f (select t xs) + sum f (reject t xs) ≡ sum f xs
          → sum f (cond b (x ∷ select t xs) (select t xs)) + sum f (cond (not b) (x ∷ reject t xs) (reject t xs)) ≡ f x + sum f xs
      go true h = omega arith
      go false h = omega arith

  pub sum-merge : (before : X → X → Bool) (xs ys : List X) → sum f (merge before xs ys) ≡ sum f xs + sum f ys
  unfolding sum merge
  sum-merge before [] ys = omega arith
  sum-merge before (x ∷ xs) [] = omega arith
  sum-merge before (x ∷ xs) (y ∷ ys) =
      cond_elim (λ l. sum f l ≡ sum f (x ∷ xs) + sum f (y ∷ ys)) (before x y) (x ∷ merge before xs (y ∷ ys)) (y ∷ merge before (x ∷ xs) ys)
      (λ g. omega (arith, sum-merge before xs (y ∷ ys))) (λ g. omega (arith, sum-merge before (x ∷ xs) ys))

  pub sum_zeros : (n : ℕ) (x : X) → f x ≡ 0 → sum f (replicate n x) ≡ 0
  unfolding sum
  sum_zeros zero x e = refl
  sum_zeros (suc n) x e = omega (arith, sum_zeros n x e)

pub sum-map : {X Y : Type 0} (f : Y → ℕ) (h : X → Y) (xs : List X) → sum f (map h xs) ≡ sum (λ x. f (h x)) xs
unfolding sum
sum-map f h [] = refl
sum-map f h (x ∷ xs) = rw (sum-map f h xs)

pub sum_same : {X : Type 0} (f g : X → ℕ) → ((x : X) → f x ≡ g x) → (xs : List X) → sum f xs ≡ sum g xs
unfolding sum
sum_same f g h [] = refl
sum_same f g h (x ∷ xs) = rw (h x, sum_same f g h xs)

-- Counting elements is a sum of ones.
pub sum_ones : {X : Type 0} (xs : List X) → sum (λ x. 1) xs ≡ length xs
unfolding sum
sum_ones [] = refl
sum_ones (x ∷ xs) = omega (arith, sum_ones xs)

pub count-sum : {X : Type 0} (t : X → Bool) (xs : List X) → count t xs ≡ sum (λ x. cond (t x) 1 0) xs
unfolding count sum
count-sum t [] = refl
count-sum t (x ∷ xs) = rw (count-sum t xs)

-- No number stands twice in the list.
abbrev pub Distinct : List ℕ → Type 0
Distinct [] = Unit {0}
Distinct (x ∷ xs) = (any (eqb x) xs ≡ false) × Distinct xs

length-reject_found : (x : ℕ) (ys : List ℕ) → any (eqb x) ys ≡ true → suc (length (reject (eqb x) ys)) ≤ length ys
unfolding any select
length-reject_found x [] h = absurd (false≢true h)
length-reject_found x (y ∷ ys) h = go (eqb x y) h (length-reject_found x ys)
  where
    go : (b : Bool) → b || any (eqb x) ys ≡ true → (any (eqb x) ys ≡ true → suc (length (reject (eqb x) ys)) ≤ length ys)
        → suc (length (cond (not b) (y ∷ reject (eqb x) ys) (reject (eqb x) ys))) ≤ suc (length ys)
    go true g ih = omega (arith, length-select (eqb x) ys)
    go false g ih = omega (arith, ih g)

any-reject_other : (x z : ℕ) (ys : List ℕ) → eqb x z ≡ false → any (eqb z) ys ≡ true → any (eqb z) (reject (eqb x) ys) ≡ true
unfolding any select
any-reject_other x z [] n h = absurd (false≢true h)
any-reject_other x z (y ∷ ys) n h =
    by_cases (eqb z y)
    (λ e. cond_elim (λ l. any (eqb z) l ≡ true) (not (eqb x y)) (y ∷ reject (eqb x) ys) (reject (eqb x) ys)
    (λ g. or_left (eqb z y) _ e) (λ g. absurd (true≢false (sym (ap not (ne_eqb x y (λ q. eqb-false x z n (q ∙ sym (eqb-true z y e))))) ∙ g))))
    (λ e. cond_elim (λ l. any (eqb z) l ≡ true) (not (eqb x y)) (y ∷ reject (eqb x) ys) (reject (eqb x) ys)
    (λ g. or_right (eqb z y) _ (any-reject_other x z ys n (or_second (eqb z y) _ h e))) (λ g. any-reject_other x z ys n (or_second (eqb z y) _ h e)))

all_eqb_other : (x : ℕ) (xs : List ℕ) → any (eqb x) xs ≡ false → All (λ z. eqb x z ≡ false) xs
unfolding any
all_eqb_other x [] h = tt
all_eqb_other x (z ∷ xs) h = (or_false_left (eqb x z) _ h, all_eqb_other x xs (or_false_right (eqb x z) _ h))

-- Different numbers that all stand in a list are no more than it has places.
pub pigeonhole : (xs ys : List ℕ) → Distinct xs → All (λ x. any (eqb x) ys ≡ true) xs → length xs ≤ length ys
pigeonhole [] ys d a = omega arith
pigeonhole (x ∷ xs) ys d a =
    let others = moved xs (all_eqb_other x xs d.0) a.1 in
    omega (arith, length-reject_found x ys a.0, pigeonhole xs (reject (eqb x) ys) d.1 others)
  where
    moved : (zs : List ℕ) → All (λ z. eqb x z ≡ false) zs → All (λ z. any (eqb z) ys ≡ true) zs → All (λ z. any (eqb z) (reject (eqb x) ys) ≡ true) zs
    moved [] p q = tt
    moved (z ∷ zs) p q = (any-reject_other x z ys p.0 q.0, moved zs p.1 q.1)
