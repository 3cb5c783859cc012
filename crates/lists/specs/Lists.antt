-- List operations that document 01's definitions are written with.
use Rattle.std.specs.Prelude.{◌&&◌, Bool, true, false, cond, ◌||◌, not, List, [], ◌∷◌, ℕ, zero, suc, ◌+◌}

module _ {X : Type 0} where
  -- Whether the list has no element.
  abbrev pub none : List X → Bool
  none [] = true
  none (x ∷ xs) = false

  -- Whether some element passes the test.
  unfoldable pub any : (X → Bool) → List X → Bool
  any test [] = false
  any test (x ∷ xs) = test x || any test xs

  -- Whether every element does.
  unfoldable pub every : (X → Bool) → List X → Bool
  every test [] = true
  every test (x ∷ xs) = test x && every test xs

  -- The elements that pass the test, in order.
  unfoldable pub select : (X → Bool) → List X → List X
  select test [] = []
  select test (x ∷ xs) = cond (test x) (x ∷ select test xs) (select test xs)

  -- The elements that do not.
  abbrev pub reject : (X → Bool) → List X → List X
  reject test xs = select (λ x. not (test x)) xs

  -- The sum of a number of each element.
  unfoldable pub sum : (X → ℕ) → List X → ℕ
  sum f [] = 0
  sum f (x ∷ xs) = f x + sum f xs

  -- How many elements pass the test.
  unfoldable pub count : (X → Bool) → List X → ℕ
  count test [] = 0
  count test (x ∷ xs) = cond (test x) 1 0 + count test xs

  -- Two ascending lists as one.
  unfoldable pub merge : (X → X → Bool) → List X → List X → List X
  merge before [] ys = ys
  merge before (x ∷ xs) [] = x ∷ xs
  merge before (x ∷ xs) (y ∷ ys) =
      let left = x ∷ merge before xs (y ∷ ys) in
      let right = y ∷ merge before (x ∷ xs) ys in
      cond (before x y) left right

  -- The step at i, then at i + 1, and so on, n times.
  unfoldable pub iterate : (ℕ → X → X) → ℕ → ℕ → X → X
  iterate step i zero x = x
  iterate step i (suc n) x = iterate step (suc i) n (step i x)
