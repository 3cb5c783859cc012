-- How many slots have no mark: a walk marks one more at each step, so that it ends.
use mathlib.Core.Path.{◌≡◌, refl}
use mathlib.Core.Logic.{◌≢◌}
use mathlib.Core.Bool.{Bool, true, false, cond}
use mathlib.Core.List.{List}
use Prim.Native.Nat.{ℕ, zero, suc, ◌+◌, ◌*◌, ◌<◌, ◌≤◌}
use native.Mathlib.Omega.{arith}
use native.Mathlib.Decide.{ℕ_discrete}
use lib.Dec.{eqb}
use lib.ListN.{length}
use Rattle.check_marks.specs.Marks.{mark_of, with_mark}
use Rattle.check_marks.proofs.Marks.{mark_same, mark_other}
use Rattle.check_walk.specs.Walks.{unmarked}

-- A test as a number.
abbrev pub one_if : Bool → ℕ
one_if b = cond b 1 0

-- 1 where slot s has no mark.
abbrev pub clear : List ℕ → ℕ → ℕ
clear m s = one_if (eqb (mark_of m s) 0)

at_most_one : (b : Bool) → one_if b ≤ 1
at_most_one true = omega arith
at_most_one false = omega arith

pub unmarked_le : (n : ℕ) (m : List ℕ) → unmarked n m ≤ n
unfolding unmarked
unmarked_le zero m = omega arith
unmarked_le (suc n) m = omega (arith, unmarked_le n m, at_most_one (eqb (mark_of m (suc n)) 0))

unmarked_past : (n : ℕ) (m : List ℕ) (s : ℕ) → s < 8 * length m → mark_of m s ≡ 0 → n < s → unmarked n (with_mark m s) ≡ unmarked n m
unfolding unmarked
unmarked_past zero m s l g h = refl
unmarked_past (suc n) m s l g h =
    let ne : suc n ≢ s = omega arith in
    rw (mark_other m s (suc n) l ne g, unmarked_past n m s l g (omega arith))

pub unmarked_mark : (n : ℕ) (m : List ℕ) (s : ℕ) → s < 8 * length m → s ≢ 0 → s ≤ n → mark_of m s ≡ 0 → unmarked n (with_mark m s) + 1 ≡ unmarked n m
unfolding unmarked
unmarked_mark zero m s l z h g = absurd (z (omega arith))
unmarked_mark (suc n) m s l z h g = go (λ k. unmarked_mark n m s l z k g) (ℕ_discrete (suc n) s)
  where
    go : (s ≤ n → unmarked n (with_mark m s) + 1 ≡ unmarked n m) → Dec (suc n ≡ s)
        → clear (with_mark m s) (suc n) + unmarked n (with_mark m s) + 1 ≡ clear m (suc n) + unmarked n m
    go ih (yes q) = rw (q, mark_same m s l g, g, unmarked_past n m s l g (omega arith)) (omega arith)
    go ih (no q) = rw (mark_other m s (suc n) l q g) (omega (arith, ih (omega arith)))
