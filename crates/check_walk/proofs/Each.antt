-- What a walk asks of the marks alone, and what it leaves of them where all slots fit.
use mathlib.Core.Path.{◌≡◌, refl, sym, ap, ◌∙◌}
use mathlib.Core.Logic.{◌≢◌}
use mathlib.Core.Bool.{Bool, true, ◌&&◌, and_assoc, and-eq-true_iff}
use mathlib.Core.List.{List, [], ◌∷◌, ◌++◌}
use Prim.Native.Nat.{ℕ, ◌+◌, ◌*◌, ◌<◌, ◌≤◌}
use native.Mathlib.Omega.{arith}
use borrow.Author.Tests.{eqb-true, leb-true}
use lib.Dec.{leb, eqb}
use lib.ListN.{length}
use Rattle.lists.specs.All.{All}
use Rattle.check_marks.specs.Marks.{mark_of, with_mark}
use Rattle.check_marks.proofs.Marks.{length-with_mark}
use Rattle.check_walk.specs.Walks.{unmarked}
use Rattle.check_walk.proofs.Unmarked.{unmarked_mark}

-- Each slot is at most n and has no mark when its turn comes.
unfoldable pub unmarked_each : ℕ → List ℕ → List ℕ → Bool
unmarked_each n m [] = true
unmarked_each n m (s ∷ ss) = leb s n && (eqb (mark_of m s) 0 && unmarked_each n (with_mark m s) ss)

-- A mark for each slot.
unfoldable pub mark_each : List ℕ → List ℕ → List ℕ
mark_each m [] = m
mark_each m (s ∷ ss) = mark_each (with_mark m s) ss

pub mark_each_append : (m xs ys : List ℕ) → mark_each m (xs ++ ys) ≡ mark_each (mark_each m xs) ys
unfolding mark_each
mark_each_append m [] ys = refl
mark_each_append m (s ∷ xs) ys = mark_each_append (with_mark m s) xs ys

pub each_append : (n : ℕ) (m xs ys : List ℕ) → unmarked_each n m (xs ++ ys) ≡ unmarked_each n m xs && unmarked_each n (mark_each m xs) ys
unfolding mark_each unmarked_each
each_append n m [] ys = refl
each_append n m (s ∷ xs) ys =
    let blank = eqb (mark_of m s) 0 in
    let front = unmarked_each n (with_mark m s) xs in
    let back = unmarked_each n (mark_each (with_mark m s) xs) ys in
    rw (each_append n (with_mark m s) xs ys)
    (sym (ap (λ (b : Bool). leb s n && b) (and_assoc blank front back)) ∙ sym (and_assoc (leb s n) (blank && front) back))

-- What an accepted slot says.
pub record Head (n : ℕ) (m : List ℕ) (t : ℕ) (ts : List ℕ) : Type 0 where
  pub inside : t ≤ n
  pub blank : mark_of m t ≡ 0
  pub rest : unmarked_each n (with_mark m t) ts ≡ true

pub head : (n : ℕ) (m : List ℕ) (t : ℕ) (ts : List ℕ) → unmarked_each n m (t ∷ ts) ≡ true → Head n m t ts
unfolding unmarked_each
head n m t ts q =
    let a = (and-eq-true_iff (leb t n) (eqb (mark_of m t) 0 && unmarked_each n (with_mark m t) ts)).0 q in
    let b = (and-eq-true_iff (eqb (mark_of m t) 0) (unmarked_each n (with_mark m t) ts)).0 a.1 in
    record { inside = leb-true t n a.0; blank = eqb-true (mark_of m t) 0 b.0; rest = b.1 }

-- Each slot passed is one that was unmarked.
pub total_count : (n : ℕ) (m ss : List ℕ) → n < 8 * length m → All (λ s. s ≢ 0) ss → unmarked_each n m ss ≡ true
    → length ss + unmarked n (mark_each m ss) ≡ unmarked n m
unfolding mark_each
total_count n m [] l z q = omega arith
total_count n m (t ∷ ts) l z q =
    let hd = head n m t ts q in
    omega (
      arith,
      total_count n (with_mark m t) ts (rw length-with_mark l) z.1 hd.rest,
      unmarked_mark n m t (omega (arith, hd.inside)) z.0 hd.inside hd.blank,
    )
