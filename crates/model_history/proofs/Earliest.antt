-- Laws of the earliest of some clocks, and of what came.
use mathlib.Core.Path.{◌≡◌, refl, sym, ap, ◌∙◌}
use mathlib.Core.Bool.{true, false}
use mathlib.Core.List.{List, [], ◌∷◌, ◌++◌}
use Prim.Native.Nat.{ℕ, min}
use native.Mathlib.Omega.{arith}
use borrow.Author.Tests.{eqb-true, eqb-false, ne_eqb}
use lib.Dec.{eqb}
use Rattle.lists.proofs.Bools.{by_cases}
use Rattle.model.specs.Merge.{earlier}
use Rattle.model_history.specs.History.{Event, comes, came_after, earliest}

-- The earlier of two clocks where neither is 0, and where the second is.
earlier_some : (a b : ℕ) → eqb a 0 ≡ false → eqb b 0 ≡ false → earlier a b ≡ min a b
earlier_some a b x y = rw (x, y)

earlier_zero : (a b : ℕ) → eqb b 0 ≡ true → earlier a b ≡ a
earlier_zero a b y = by_cases (eqb a 0) (λ x. rw x (eqb-true b 0 y ∙ sym (eqb-true a 0 x))) (λ x. rw (x, y))

some_min : (a b : ℕ) → eqb a 0 ≡ false → eqb b 0 ≡ false → eqb (min a b) 0 ≡ false
some_min a b x y = ne_eqb (min a b) 0 (λ q. eqb-false a 0 x (omega (arith, eqb-false b 0 y)))

earlier_assoc : (a b c : ℕ) → earlier (earlier a b) c ≡ earlier a (earlier b c)
earlier_assoc a b c = by_cases (eqb a 0)
    (λ x. rw x)
    (λ x. by_cases (eqb b 0)
    (λ y. ap (λ (n : ℕ). earlier n c) (earlier_zero a b y) ∙ ap (earlier a) (sym (none b c y)))
    (λ y. by_cases (eqb c 0)
    (λ z. earlier_zero (earlier a b) c z ∙ ap (earlier a) (sym (earlier_zero b c z)))
    (λ z.
    let least : min (min a b) c ≡ min a (min b c) = omega arith in
    ap (λ (n : ℕ). earlier n c) (earlier_some a b x y) ∙ earlier_some (min a b) c (some_min a b x y) z ∙ least
    ∙ sym (ap (earlier a) (earlier_some b c y z) ∙ earlier_some a (min b c) x (some_min b c y z)))))
  where
    none : (b c : ℕ) → eqb b 0 ≡ true → earlier b c ≡ c
    none b c y = rw y

pub earliest_append : (xs ys : List ℕ) → earliest (xs ++ ys) ≡ earlier (earliest xs) (earliest ys)
unfolding earliest
earliest_append [] ys = refl
earliest_append (x ∷ xs) ys = rw (earliest_append xs ys) (sym (earlier_assoc x (earliest xs) (earliest ys)))

module _ {A : Type 0} where
  pub came_append : (came : ℕ → List ℕ) (es fs : List (Event A)) → came_after came (es ++ fs) ≡ came_after (came_after came es) fs
  unfolding came_after
  came_append came [] fs = refl
  came_append came (e ∷ es) fs = came_append (comes came e) es fs
