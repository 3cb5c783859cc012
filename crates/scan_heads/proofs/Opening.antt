-- The heads of levels, pushed one after the other from level 0 on: what is not yet pushed stands blank behind them.
use mathlib.Core.Path.{◌≡◌, refl, sym, ap, ◌∙◌, subst}
use mathlib.Core.Bool.{cond}
use mathlib.Core.List.{List, [], ◌∷◌, ◌++◌}
use Prim.Native.Nat.{ℕ, zero, suc, ◌+◌, ◌-◌, ◌<◌, ◌≤◌, min, max}
use native.Mathlib.Omega.{arith}
use borrow.Author.Tests.{eqb-true, eqb-false, ne_eqb, ltb-true, ltb-false, lt-ltb, le-ltb}
use lib.Dec.{eqb, ltb}
use lib.ListN.{replicate}
use Rattle.lists.specs.Lists.{sum}
use Rattle.lists.specs.All.{All}
use Rattle.lists.proofs.Bools.{by_cases}
use Rattle.lists.proofs.Tests.{all_append}
use Rattle.lists.proofs.Counting.{sum_append, sum_zeros}
use Rattle.chain_cover.specs.Walks.{Ordered}
use Rattle.scan_heads.specs.declared.Heads.{Heads}
use Rattle.scan_heads.specs.Heads.{head_at, level_of, slot_of, insert, others, heads_of, pushed, no_head, blank, point_in, times_in, point, Head, Rising, Fits}
use Rattle.scan_heads.proofs.Packs.{key_bound, key_none, head_level, head_slot}
use Rattle.scan_heads.proofs.Inserts.{sum-insert, all_insert, rising_insert}
use Rattle.scan_heads.proofs.Passing.{none_ordered}

-- A list without its last element, h being its first.
abbrev front : ℕ → List ℕ → List ℕ
front h [] = []
front h (i ∷ is) = h ∷ front i is

rising_front : (least h : ℕ) (hs : List ℕ) → Rising least (h ∷ hs) → Rising least (front h hs)
rising_front least h [] up = tt
rising_front least h (i ∷ is) up = (up.0, rising_front h i is up.1)

front_blanks : (k : ℕ) → front no_head (replicate k no_head) ≡ replicate k no_head
front_blanks zero = refl
front_blanks (suc k) = ap (λ (hs : List ℕ). no_head ∷ hs) (front_blanks k)

front_append : (k h : ℕ) (hs : List ℕ) → front h (hs ++ replicate (suc k) no_head) ≡ h ∷ (hs ++ replicate k no_head)
front_append k h [] = ap (λ (hs : List ℕ). h ∷ hs) (front_blanks k)
front_append k h (i ∷ is) = ap (λ (hs : List ℕ). h ∷ hs) (front_append k i is)

abbrev init : List ℕ → List ℕ
init [] = []
init (h ∷ hs) = front h hs

init_append : (k : ℕ) (hs : List ℕ) → init (hs ++ replicate (suc k) no_head) ≡ hs ++ replicate k no_head
init_append k [] = front_blanks k
init_append k (h ∷ hs) = front_append k h hs

abbrev Below : List ℕ → Type 0
Below hs = All (λ h. h ≤ no_head) hs

-- A head comes before the blank ones.
insert_blanks : (h k : ℕ) → h ≤ no_head → insert h (replicate k no_head) ≡ h ∷ replicate k no_head
unfolding insert
insert_blanks h zero le = refl
insert_blanks h (suc k) le =
    let lo : min no_head h ≡ h = omega arith in
    let hi : max no_head h ≡ no_head = omega arith in
    rw (lo, hi, insert_blanks no_head k (omega arith))

insert_append : (h k : ℕ) (hs : List ℕ) → h ≤ no_head → Below hs → insert h (hs ++ replicate k no_head) ≡ insert h hs ++ replicate k no_head
unfolding insert
insert_append h k [] le b = insert_blanks h k le
insert_append h k (i ∷ is) le b = ap (λ (hs : List ℕ). min i h ∷ hs) (insert_append (max i h) k is (omega (arith, b.0)) b.1)

-- Of n levels the first i have their heads there, each from a slot that p tells; the others are blank.
pub record Opened (e : List ℕ) (n : ℕ) (p : ℕ → ℕ) (i : ℕ) (a : Heads) : Type 0 where
  pub heads : List ℕ
  pub all : heads_of a ≡ heads ++ replicate (7 - i) no_head
  pub below : Below heads
  pub each : All (Head e n) heads
  pub times : (j : ℕ) → times_in heads j ≡ cond (ltb j i) 1 0
  pub points : (j : ℕ) → point_in heads j ≡ cond (ltb j i) (p j) 0
  pub rising : Rising 0 (heads_of a)
  pub placed : a.slot ≡ slot_of a.first

module _ (e : List ℕ) (n : ℕ) (p : ℕ → ℕ) where
  pub opened_none : Opened e n p 0 blank
  unfolding sum
  opened_none = record {
    heads = [];
    all = refl;
    below = tt;
    each = tt;
    times = λ j. rw (le-ltb j 0 (omega arith));
    points = λ j. rw (le-ltb j 0 (omega arith));
    rising = (omega arith, (omega arith, (omega arith, (omega arith, (omega arith, (omega arith, (omega arith, tt)))))));
    placed = refl;
  }

  -- What is told of the levels before i, and of level i, is told of those up to it.
  next_told : (f : ℕ → ℕ) (i j : ℕ) → cond (eqb i j) (f i) 0 + cond (ltb j i) (f j) 0 ≡ cond (ltb j (suc i)) (f j) 0
  next_told f i j = by_cases (eqb i j)
      (λ t.
      let same = eqb-true i j t in
      rw (t, le-ltb j i (omega (arith, same)), lt-ltb j (suc i) (omega (arith, same)), same) (omega arith))
      (λ t. by_cases (ltb j i)
      (λ u. rw (t, u, lt-ltb j (suc i) (omega (arith, ltb-true j i u))) (omega arith))
      (λ u. rw (t, u, le-ltb j (suc i) (omega (arith, ltb-false j i u, eqb-false i j t)))))

  module _ (few : n ≤ 7) where
    module _ {i : ℕ} {a : Heads} (lt : i < n) (o : Ordered e (p i)) (low : p i < 65536) (s : Opened e n p i a) where
      abbrev new : ℕ
      new = head_at e i (p i)

      new-level : level_of new ≡ i
      new-level = head_level e i (p i) (omega arith) low

      new_slot : slot_of new ≡ p i
      new_slot = head_slot e i (p i) (omega arith) low

      new_below : new ≤ no_head
      new_below = omega (arith, key_bound e (p i))

      pushed_all : heads_of (pushed a new) ≡ insert new s.heads ++ replicate (7 - suc i) no_head
      unfolding insert
      pushed_all =
          let more : 7 - i ≡ suc (7 - suc i) = omega arith in
          let rest : init (heads_of a) ≡ s.heads ++ replicate (7 - suc i) no_head =
          ap init s.all ∙ ap (λ (k : ℕ). init (s.heads ++ replicate k no_head)) more ∙ init_append (7 - suc i) s.heads
          in
          ap (insert new) rest
          ∙ insert_append new (7 - suc i) s.heads new_below s.below

      pub opened_next : Opened e n p (suc i) (pushed a new)
      unfolding insert
      opened_next = record {
        heads = insert new s.heads;
        all = pushed_all;
        below = all_insert (λ h. h ≤ no_head) new s.heads new_below s.below;
        each = all_insert (Head e n) new s.heads
            (record { inside = λ _. rw new-level lt; order = rw new_slot o; is = sym (rw (new-level, new_slot)) }) s.each;
        times = λ j. sum-insert (λ h. cond (eqb (level_of h) j) 1 0) new s.heads ∙ rw (new-level, s.times j) (next_told (λ _. 1) i j);
        points = λ j. sum-insert (λ h. cond (eqb (level_of h) j) (slot_of h) 0) new s.heads ∙ rw (new-level, new_slot, s.points j) (next_told p i j);
        rising = rising_insert 0 new (front a.first (others a)) (omega arith) (rising_front 0 a.first (others a) s.rising);
        placed = refl;
      }

    blank_head : Head e n no_head
    blank_head = record { inside = λ some. absurd (some refl); order = none_ordered e; is = rw (key_none e 0 refl) }

    blank_heads : (k : ℕ) → All (Head e n) (replicate k no_head)
    blank_heads zero = tt
    blank_heads (suc k) = (blank_head, blank_heads k)

    module _ {a : Heads} (s : Opened e n p n a) where
      -- The blank ones are of no level.
      told_all : (f : ℕ → ℕ) (j : ℕ) → j < n → sum (λ h. cond (eqb (level_of h) j) (f h) 0) (heads_of a) ≡ sum (λ h. cond (eqb (level_of h) j) (f h) 0) s.heads
      told_all f j lt =
          let t : ℕ → ℕ = λ h. cond (eqb (level_of h) j) (f h) 0 in
          ap (sum t) s.all ∙ sum_append t s.heads (replicate (7 - n) no_head)
          ∙ omega (arith, sum_zeros t (7 - n) no_head (rw (ne_eqb 7 j (omega arith))))

      pub opened_fits : Fits e n a
      opened_fits = record {
        each = subst (All (Head e n)) (sym s.all) (all_append (Head e n) s.heads (replicate (7 - n) no_head) s.each (blank_heads (7 - n)));
        once = λ j lt. rw (told_all (λ _. 1) j lt, s.times j, lt-ltb j n lt) (omega arith);
        rising = s.rising.1;
        placed = s.placed;
      }

      pub opened_point : (j : ℕ) → j < n → point a j ≡ p j
      opened_point j lt = told_all slot_of j lt ∙ s.points j ∙ rw (lt-ltb j n lt)
