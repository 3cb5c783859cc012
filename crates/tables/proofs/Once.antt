-- Every slot once: what the test says, and that no other slot stands in the list.
use mathlib.Core.Path.{◌≡◌, refl, ap}
use mathlib.Core.Logic.{◌≢◌}
use mathlib.Core.Bool.{true}
use mathlib.Core.List.{List, [], ◌∷◌}
use Prim.Native.Nat.{ℕ, zero, suc, ◌+◌, ◌<◌, ◌≤◌}
use native.Mathlib.Omega.{arith}
use native.Mathlib.Decide.{ℕ_discrete, dec_lt}
use lib.Dec.{eqb}
use lib.ListN.{length}
use borrow.Author.Tests.{eqb-true, eq-eqb}
use Rattle.lists.specs.Lists.{count}
use Rattle.lists.specs.All.{All}
use Rattle.lists.proofs.Bools.{and_left, and_right, and_intro}
use Rattle.tables.specs.Sound.{once_each, every_slot_once}
use Rattle.tables.proofs.Cells.{times, times_head, times_other}

-- What "every slot once" says of a list of slots.
pub once_at : (n : ℕ) (ss : List ℕ) → once_each n ss ≡ true → (s : ℕ) → 1 ≤ s → s ≤ n → times s ss ≡ 1
unfolding once_each
once_at zero ss q s a b = absurd (omega arith)
once_at (suc n) ss q s a b = go (once_at n ss (and_right (eqb (times (suc n) ss) 1) (once_each n ss) q) s a) (ℕ_discrete s (suc n))
  where
    go : (s ≤ n → times s ss ≡ 1) → Dec (s ≡ suc n) → times s ss ≡ 1
    go ih (yes r) = rw r (eqb-true (times (suc n) ss) 1 (and_left (eqb (times (suc n) ss) 1) (once_each n ss) q))
    go ih (no r) = ih (omega arith)

pub record OnceFacts (n : ℕ) (ss : List ℕ) : Type 0 where
  pub number : length ss ≡ n
  pub each : (s : ℕ) → 1 ≤ s → s ≤ n → times s ss ≡ 1

pub once_facts : (n : ℕ) (ss : List ℕ) → every_slot_once n ss ≡ true → OnceFacts n ss
once_facts n ss h =
    record {
      number = eqb-true (length ss) n (and_left (eqb (length ss) n) (once_each n ss) h);
      each = once_at n ss (and_right (eqb (length ss) n) (once_each n ss) h);
    }

-- How many of the list are from 1 to n, slot by slot: at most all, and then no other stands in it.
tally_upto : ℕ → List ℕ → ℕ
tally_upto zero ss = 0
tally_upto (suc n) ss = times (suc n) ss + tally_upto n ss

upto_all : (n : ℕ) (ss : List ℕ) → ((s : ℕ) → 1 ≤ s → s ≤ n → times s ss ≡ 1) → tally_upto n ss ≡ n
unfolding tally_upto
upto_all zero ss h = refl
upto_all (suc n) ss h = omega (arith, h (suc n) (omega arith) (omega arith), upto_all n ss (λ s a b. h s a (omega arith)))

upto_nil : (n : ℕ) → tally_upto n [] ≡ 0
unfolding tally_upto count
upto_nil zero = refl
upto_nil (suc n) = omega (arith, upto_nil n)

upto_past : (n t : ℕ) (ss : List ℕ) → n < t → tally_upto n (t ∷ ss) ≡ tally_upto n ss
unfolding tally_upto
upto_past zero t ss h = refl
upto_past (suc n) t ss h = omega (arith, times_other (suc n) t ss (omega arith), upto_past n t ss (omega arith))

upto_cons : (n t : ℕ) (ss : List ℕ) → tally_upto n (t ∷ ss) ≤ suc (tally_upto n ss)
unfolding tally_upto
upto_cons zero t ss = omega arith
upto_cons (suc n) t ss = go (ℕ_discrete (suc n) t) (upto_cons n t ss) (upto_past n t ss)
  where
    go : Dec (suc n ≡ t) → tally_upto n (t ∷ ss) ≤ suc (tally_upto n ss) → (n < t → tally_upto n (t ∷ ss) ≡ tally_upto n ss)
        → times (suc n) (t ∷ ss) + tally_upto n (t ∷ ss) ≤ suc (times (suc n) ss + tally_upto n ss)
    go (yes q) ih p = omega (arith, ap (λ x. times x (t ∷ ss)) q, ap (λ x. times x ss) q, times_head t ss, p (omega arith))
    go (no q) ih p = omega (arith, times_other (suc n) t ss q)

upto_zero : (n : ℕ) (ss : List ℕ) → tally_upto n (0 ∷ ss) ≡ tally_upto n ss
unfolding tally_upto
upto_zero zero ss = refl
upto_zero (suc n) ss = omega (arith, times_other (suc n) 0 ss (omega arith), upto_zero n ss)

upto_length : (n : ℕ) (ss : List ℕ) → tally_upto n ss ≤ length ss
upto_length n [] = omega (arith, upto_nil n)
upto_length n (t ∷ ss) = omega (arith, upto_cons n t ss, upto_length n ss)

all_inside : (n : ℕ) (ss : List ℕ) → length ss ≤ tally_upto n ss → All (λ s. (1 ≤ s) × (s ≤ n)) ss
all_inside n [] h = tt
all_inside n (t ∷ ss) h = (inside (ℕ_discrete t 0) (dec_lt n t), all_inside n ss (omega (arith, upto_cons n t ss)))
  where
    inside : Dec (t ≡ 0) → Dec (n < t) → (1 ≤ t) × (t ≤ n)
    inside (yes q) d = absurd (omega (arith, ap (λ x. tally_upto n (x ∷ ss)) q, upto_zero n ss, upto_length n ss))
    inside (no q) (yes d) = absurd (omega (arith, upto_past n t ss d, upto_length n ss))
    inside (no q) (no d) = (omega arith, omega arith)

abbrev pub Inside : ℕ → ℕ → Type 0
Inside n s = (1 ≤ s) × (s ≤ n)

module _ (n : ℕ) (ss : List ℕ) (o : OnceFacts n ss) where
  -- Where each of 1 to n stands once among n, all are from 1 to n.
  pub once_inside : All (Inside n) ss
  once_inside = all_inside n ss (omega (arith, o.number, upto_all n ss o.each))

-- A slot that is none of them does not stand among them.
pub times_outside : (n s : ℕ) (ss : List ℕ) → All (Inside n) ss → (Inside n s → ⊥) → times s ss ≡ 0
unfolding count
times_outside n s [] a h = refl
times_outside n s (t ∷ ss) a h =
    let ne : s ≢ t = λ q. h (omega (arith, a.0.0), omega (arith, a.0.1)) in
    omega (arith, times_other s t ss ne, times_outside n s ss a.1 h)

pub once_most : (n : ℕ) (ss : List ℕ) (o : OnceFacts n ss) (s : ℕ) → times s ss ≤ 1
once_most n ss o s = go (dec_lt s 1) (dec_lt n s)
  where
    go : Dec (s < 1) → Dec (n < s) → times s ss ≤ 1
    go (yes a) d = omega (arith, times_outside n s ss (once_inside n ss o) (λ i. omega (arith, i.0)))
    go (no a) (yes b) = omega (arith, times_outside n s ss (once_inside n ss o) (λ i. omega (arith, i.1)))
    go (no a) (no b) = omega (arith, o.each s (omega arith) (omega arith))

-- And back.
each_once : (n : ℕ) (ss : List ℕ) → ((s : ℕ) → 1 ≤ s → s ≤ n → times s ss ≡ 1) → once_each n ss ≡ true
unfolding once_each
each_once zero ss h = refl
each_once (suc n) ss h =
    let here = eq-eqb (times (suc n) ss) 1 (h (suc n) (omega arith) (omega arith)) in
    and_intro (eqb (times (suc n) ss) 1) (once_each n ss) here (each_once n ss (λ s a b. h s a (omega arith)))

pub facts_once : (n : ℕ) (ss : List ℕ) → OnceFacts n ss → every_slot_once n ss ≡ true
facts_once n ss o = and_intro (eqb (length ss) n) (once_each n ss) (eq-eqb (length ss) n o.number) (each_once n ss o.each)
