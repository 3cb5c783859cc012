-- A put finds no slot: then all levels hold puts alone, each of another docket, since merging has left as many of every kind.
use mathlib.Core.Path.{◌≡◌, refl, sym}
use mathlib.Core.Bool.{Bool, true, false, cond}
use mathlib.Core.List.{List, [], ◌∷◌, ◌++◌}
use Prim.Native.Nat.{ℕ, ◌+◌, ◌≤◌}
use native.Mathlib.Omega.{arith}
use lib.Dec.{eqb}
use lib.ListN.{length}
use borrow.Author.Tests.{eqb-true, ne_eqb, ltb-true}
use Rattle.lists.specs.Lists.{count, sum}
use Rattle.lists.specs.All.{All, Ascending}
use Rattle.lists.proofs.Tests.{all_weaken}
use Rattle.lists.proofs.Counts.{all_counted, no_element}
use Rattle.lists.proofs.Counting.{count_most, sum_le}
use Rattle.model.specs.Records.{Point, Level, State, is_put, held}
use Rattle.model.specs.Merge.{point_before}
use Rattle.model.specs.Steps.{put, merge_all, no_slot}
use Rattle.model.specs.Lookup.{Found, absent, latest, find, lookup_from, lookup}
use Rattle.model.specs.Live.{all_points}
use Rattle.model.proofs.Slots.{Whole}
use Rattle.model.proofs.Full.{AllPuts, puts_of, puts_held, points_all, bottom, full_every, full_without, counts_stay, lacked_before}
use Rattle.model.proofs.Form.{Formed}
use Rattle.model.proofs.LookupSteps.{merge_all-lookup_bare}

module _ {S A : Type 0} where
  unnamed_after : (k : ℕ) (p : Point S A) (ps : List (Point S A)) → p.key ≡ k → All (λ q. point_before p q ≡ true) ps → count (λ q. eqb q.key k) ps ≡ 0
  unfolding count
  unnamed_after k p [] e a = refl
  unnamed_after k p (q ∷ ps) e a =
      rw (ne_eqb q.key k (λ h. omega (arith, ltb-true p.key q.key a.0))) (omega (arith, unnamed_after k p ps e a.1))

  -- Points that ascend name a docket at most once.
  once_named : (ps : List (Point S A)) (k : ℕ) → Ascending point_before ps → count (λ q. eqb q.key k) ps ≤ 1
  unfolding count
  once_named [] k a = omega arith
  once_named (p ∷ ps) k a = go (eqb p.key k) refl (once_named ps k a.1)
    where
      go : (b : Bool) → eqb p.key k ≡ b → count (λ q. eqb q.key k) ps ≤ 1 → cond b 1 0 + count (λ q. eqb q.key k) ps ≤ 1
      go true e ih = omega (arith, unnamed_after k p ps (eqb-true p.key k e) a.0)
      go false e ih = omega (arith, ih)

module _ {S A : Type 0} where
  -- A level of puts alone.
  abbrev pub PutsOnly : Level S A → Type 0
  PutsOnly l = AllPuts l.points × (l.ranges ≡ [])

  -- Where there are as many puts as records, there is nothing else.
  puts_only : (ls : List (Level S A)) → sum held ls ≤ sum puts_of ls → All PutsOnly ls
  unfolding sum
  puts_only [] h = tt
  puts_only (l ∷ ls) h =
      let below = sum_le puts_of held puts_held ls in
      let here = count_most (λ p. is_put p.entry) l.points in (
        (all_counted (λ p. is_put p.entry) l.points (omega (arith, below, here)), no_element l.ranges (omega (arith, below, here))),
        puts_only ls (omega (arith, here)),
      )

  pub all_put : (ls : List (Level S A)) → All PutsOnly ls → AllPuts (all_points ls)
  all_put ls a = points_all _ ls (all_weaken _ _ (λ l h. h.0) ls a)

  find_append : (xs ys : List (Point S A)) (k : ℕ) (d : Found A) → find 0 (xs ++ ys) k d ≡ find 0 xs k (find 0 ys k d)
  unfolding find
  find_append [] ys k d = refl
  find_append (x ∷ xs) ys k d = rw (find_append xs ys k d)

  -- Levels of puts alone answer as all their points.
  pub lookup_points : (ls : List (Level S A)) (k : ℕ) → All PutsOnly ls → lookup ls k ≡ find 0 (all_points ls) k absent
  unfolding lookup_from latest find
  lookup_points [] k a = refl
  lookup_points (l ∷ ls) k a = rw (a.0.1, lookup_points ls k a.1) (sym (find_append l.points (all_points ls) k absent))

  -- And no merge of theirs changes a lookup, whatever their stamps.
  pub merge_all-lookup_puts : (s : State S A) (k : ℕ) → Formed s → All PutsOnly s.levels → lookup (merge_all s).state.levels k ≡ lookup s.levels k
  merge_all-lookup_puts s k f a = merge_all-lookup_bare s k f (all_weaken _ _ (λ l h. h.1) s.levels a)

module _ {S A : Type 0} (n : ℕ) (s : State S A) (w : Whole n s) (t k : ℕ) (a : A) (h : no_slot t (put k a) s ≡ true) where
  every : length (bottom n s w).points ≡ n
  every = full_every n s w t k a h

  enough : n ≤ sum puts_of s.levels
  enough = omega (arith, (bottom n s w).kept_puts, every)

  pub full_puts : All PutsOnly s.levels
  full_puts = puts_only s.levels (omega (arith, enough, w.all))

  pub full_free : s.free ≡ []
  full_free = no_element s.free (omega (arith, enough, w.all, sum_le puts_of held puts_held s.levels))

  -- Each docket is named once, and the put's is not.
  pub full_once : (j : ℕ) → count (λ p. eqb p.key j) (all_points s.levels) ≤ 1
  full_once j = omega (arith, counts_stay n s w every (λ p. eqb p.key j), once_named (bottom n s w).points j (bottom n s w).ordered)

  pub full_lacks : count (λ p. eqb p.key k) (all_points s.levels) ≡ 0
  full_lacks = lacked_before n s w every k (full_without n s w t k a h)

  -- What can be asked has the answer that it had.
  pub full_lookup : (j : ℕ) → lookup (merge_all s).state.levels j ≡ lookup s.levels j
  full_lookup j = merge_all-lookup_puts s j w.formed full_puts
