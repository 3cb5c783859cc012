-- That the marks say what `every_slot_once` says.
use mathlib.Core.Path.{◌≡◌, refl}
use mathlib.Core.Logic.{◌≢◌}
use mathlib.Core.Bool.{true, ◌&&◌}
use mathlib.Core.List.{List, [], ◌∷◌}
use Prim.Native.Nat.{ℕ, zero, suc, ◌+◌, ◌*◌, ◌<◌, ◌≤◌}
use native.Mathlib.Omega.{arith}
use native.Mathlib.Decide.{ℕ_discrete}
use borrow.Author.Tests.{eq-eqb, ne_eqb, le-leb, eqb-true}
use lib.Dec.{eqb}
use lib.ListN.{length}
use Rattle.lists.specs.Lists.{count}
use Rattle.lists.specs.All.{All}
use Rattle.lists.proofs.Bools.{bool_ext, and_left, and_right, and_intro}
use Rattle.lists.proofs.Tests.{all_weaken}
use Rattle.check_marks.specs.Marks.{mark_of, with_mark}
use Rattle.check_marks.proofs.Marks.{length-with_mark, mark_same, mark_other}
use Rattle.tables.specs.Sound.{every_slot_once}
use Rattle.tables.proofs.Once.{OnceFacts, once_facts, facts_once, Inside, once_inside, once_most}
use Rattle.check_walk.specs.Walks.{unmarked}
use Rattle.check_walk.proofs.Unmarked.{one_if, clear}
use Rattle.check_walk.proofs.Each.{unmarked_each, mark_each, Head, head, total_count}

slot_count : (n : ℕ) (m ss : List ℕ) (s : ℕ) → n < 8 * length m → s ≤ n → unmarked_each n m ss ≡ true → count (eqb s) ss + clear (mark_each m ss) s ≡ clear m s
unfolding count mark_each
slot_count n m [] s l h q = omega arith
slot_count n m (t ∷ ts) s l h q =
    let hd = head n m t ts q in
    go hd (slot_count n (with_mark m t) ts s (rw length-with_mark l) h hd.rest) (ℕ_discrete s t)
  where
    go : Head n m t ts → count (eqb s) ts + clear (mark_each (with_mark m t) ts) s ≡ clear (with_mark m t) s → Dec (s ≡ t)
        → one_if (eqb s t) + count (eqb s) ts + clear (mark_each (with_mark m t) ts) s ≡ clear m s
    go hd ih (yes r) =
        let a : clear (with_mark m t) s ≡ 0 = rw (r, mark_same m t (omega (arith, hd.inside)) hd.blank) in
        let b : clear m s ≡ 1 = rw (r, hd.blank) in
        let d : one_if (eqb s t) ≡ 1 = rw (eq-eqb s t r) in
        omega arith
    go hd ih (no r) =
        let a : clear (with_mark m t) s ≡ clear m s = rw (mark_other m t s (omega (arith, hd.inside)) r hd.blank) in
        let d : one_if (eqb s t) ≡ 0 = rw (ne_eqb s t r) in
        omega arith

-- None of 1 to n is left.
all_marked : (n : ℕ) (m : List ℕ) (s : ℕ) → unmarked n m ≡ 0 → s ≢ 0 → s ≤ n → clear m s ≡ 0
unfolding unmarked
all_marked zero m s q z h = absurd (z (omega arith))
all_marked (suc n) m s q z h = go (all_marked n m s (omega arith) z) (ℕ_discrete s (suc n))
  where
    go : (s ≤ n → clear m s ≡ 0) → Dec (s ≡ suc n) → clear m s ≡ 0
    go ih (yes r) = rw r (omega arith)
    go ih (no r) = ih (omega arith)

-- No mark at all up to n.
abbrev pub Blank : ℕ → List ℕ → Type 0
Blank n m = (s : ℕ) → s ≤ n → mark_of m s ≡ 0

unmarked_blank : (n : ℕ) (m : List ℕ) → Blank n m → unmarked n m ≡ n
unfolding unmarked
unmarked_blank zero m b = refl
unmarked_blank (suc n) m b = rw (b (suc n) (omega arith)) (omega (arith, unmarked_blank n m (λ s h. b s (omega arith))))

-- The marks are enough.
mark_once : (n : ℕ) (m ss : List ℕ) → n < 8 * length m → Blank n m → All (λ s. s ≢ 0) ss → length ss ≡ n → unmarked_each n m ss ≡ true → OnceFacts n ss
mark_once n m ss l b z q k =
    record {
      number = q;
      each = λ s y h.
          let all : unmarked n (mark_each m ss) ≡ 0 = omega (arith, total_count n m ss l z k, unmarked_blank n m b) in
          let none : clear (mark_each m ss) s ≡ 0 = all_marked n (mark_each m ss) s all (omega arith) h in
          let was : clear m s ≡ 1 = rw (b s h) in
          omega (arith, slot_count n m ss s l h k);
    }

-- What is counted at most once has no mark when its turn comes.
count_unmarked : (n : ℕ) (m ss : List ℕ) → n < 8 * length m → All (λ s. s ≤ n) ss → ((s : ℕ) → s ≤ n → count (eqb s) ss ≤ clear m s)
    → unmarked_each n m ss ≡ true
unfolding unmarked_each count
count_unmarked n m [] l u f = refl
count_unmarked n m (t ∷ ts) l u f =
    let blank : mark_of m t ≡ 0 = free (ℕ_discrete (mark_of m t) 0) (f t u.0) in
    rw (le-leb t n u.0, eq-eqb (mark_of m t) 0 blank)
    (count_unmarked n (with_mark m t) ts (rw length-with_mark l) u.1 (λ s h. next blank s h (f s h) (ℕ_discrete s t)))
  where
    free : Dec (mark_of m t ≡ 0) → one_if (eqb t t) + count (eqb t) ts ≤ clear m t → mark_of m t ≡ 0
    free (yes r) h = r
    free (no r) h =
        let a : one_if (eqb t t) ≡ 1 = rw (eq-eqb t t refl) in
        let b : clear m t ≡ 0 = rw (ne_eqb (mark_of m t) 0 r) in
        absurd (omega arith)

    next : mark_of m t ≡ 0 → (s : ℕ) → s ≤ n → one_if (eqb s t) + count (eqb s) ts ≤ clear m s → Dec (s ≡ t) → count (eqb s) ts ≤ clear (with_mark m t) s
    next z s h le (yes r) =
        let a : one_if (eqb s t) ≡ 1 = rw (eq-eqb s t r) in
        let b : clear m s ≡ 1 = rw (r, z) in
        omega arith
    next z s h le (no r) =
        let a : one_if (eqb s t) ≡ 0 = rw (ne_eqb s t r) in
        let b : clear (with_mark m t) s ≡ clear m s = rw (mark_other m t s (omega (arith, u.0)) r z) in
        omega arith

once_mark : (n : ℕ) (m ss : List ℕ) → n < 8 * length m → Blank n m → OnceFacts n ss → unmarked_each n m ss ≡ true
once_mark n m ss l b o =
    count_unmarked n m ss l (all_weaken (Inside n) (λ s. s ≤ n) (λ s i. i.1) ss (once_inside n ss o))
    (λ s h. let was : clear m s ≡ 1 = rw (b s h) in omega (arith, once_most n ss o s))

pub marks_mean_once : (n : ℕ) (m ss : List ℕ) → n < 8 * length m → Blank n m → All (λ s. s ≢ 0) ss
    → (unmarked_each n m ss && eqb (length ss) n) ≡ every_slot_once n ss
marks_mean_once n m ss l b z =
    bool_ext (unmarked_each n m ss && eqb (length ss) n) (every_slot_once n ss)
    (λ h.
    facts_once n ss
    (mark_once n m ss l b z (eqb-true (length ss) n (and_right (unmarked_each n m ss) (eqb (length ss) n) h))
    (and_left (unmarked_each n m ss) (eqb (length ss) n) h)))
    (λ h.
    let o = once_facts n ss h in
    and_intro (unmarked_each n m ss) (eqb (length ss) n) (once_mark n m ss l b o) (eq-eqb (length ss) n o.number))
