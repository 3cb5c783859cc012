-- A store without writes: a level with a record can fall once for each level from it to L−1, and every counted merge is such a fall.
use mathlib.Core.Path.{◌≡◌, refl, sym, ap, ◌∙◌}
use mathlib.Core.Logic.{◌≢◌}
use mathlib.Core.Bool.{Bool, true, false, cond, not, true≢false}
use mathlib.Core.List.{List, [], ◌∷◌}
use Prim.Native.Nat.{ℕ, zero, suc, ◌+◌, ◌*◌, ◌/◌, ◌≤◌, ◌<◌}
use native.Mathlib.Omega.{arith}
use native.Mathlib.Nat.{mul-suc, suc-mul, le-div_iff_mul-le}
use native.Mathlib.Decide.{ℕ_discrete}
use lib.Dec.{eqb}
use lib.ListN.{get_or, set}
use borrow.Author.Tests.{eqb-true, eqb-false, eq-eqb, ne_eqb, not-false}
use Rattle.lists.specs.Lists.{sum}
use Rattle.lists.specs.All.{All}
use Rattle.lists.proofs.Bools.{cond_elim, by_cases}
use Rattle.lists.proofs.Loops.{iterate_keeps}
use Rattle.lists.proofs.Counting.{sum_ones}
use Rattle.model.specs.Records.{Level, State, empty, level, held}
use Rattle.model.specs.Merge.{joined}
use Rattle.model.specs.Steps.{Work, begin, merge_state, merge_level, due, pass_level, pass}
use Rattle.model.specs.Calls.{Op, written, flush, tick, Call, Answer, Outcome, count_written, prepared, out_of_slots, step, answers}
use Rattle.model.proofs.Settle.{merge_empties, merge_other}
use Rattle.model.proofs.Weights.{weigh_joined}
use Rattle.model.proofs.StepView.{StepView, turned_away, refused_7, passed, step_view, accepted_outcome, worked}

-- n levels from i on, each with a record or not: one with a record can fall as often as levels are left.
falls : (ℕ → Bool) → ℕ → ℕ → ℕ
falls some zero i = 0
falls some (suc n) i = cond (some i) (suc n) 0 + falls some n (suc i)

-- All levels at most: n + (n − 1) + … + 1.
falls_most : (some : ℕ → Bool) (n i : ℕ) → falls some n i * 2 ≤ n * suc n
unfolding falls
falls_most some zero i = omega arith
falls_most some (suc n) i =
    let here : cond (some i) (suc n) 0 ≤ suc n = cond_elim (λ k. k ≤ suc n) (some i) (suc n) 0 (λ e. omega arith) (λ e. omega arith) in
    omega (arith, here, falls_most some n (suc i), mul-suc (suc n) (suc n), suc-mul n (suc n), mul-suc n n)

falls_same : (some some' : ℕ → Bool) (n i : ℕ) → ((k : ℕ) → i ≤ k → some' k ≡ some k) → falls some' n i ≡ falls some n i
unfolding falls
falls_same some some' zero i same = refl
falls_same some some' (suc n) i same = rw (same i (omega arith), falls_same some some' n (suc i) (λ k h. same k (omega arith)))

-- Level j falls onto the next: it has no record then, and no other level but the next changes.
module _ (some some' : ℕ → Bool) (j : ℕ) (left : some' j ≡ false) (others : (k : ℕ) → k ≢ j → k ≢ suc j → some' k ≡ some k) where
  -- With a record, there is one fall less to come.
  fell : some j ≡ true → (n i : ℕ) → i ≤ j → j < i + n → suc (falls some' n i) ≤ falls some n i
  unfolding falls
  fell had zero i low high = absurd (omega arith)
  fell had (suc n) i low high = go (ℕ_discrete i j) (fell had n (suc i))
    where
      below : (m : ℕ) → falls some' m (suc j) ≤ falls some m (suc j) + m
      below zero = omega arith
      below (suc m) =
          let most : cond (some' (suc j)) (suc m) 0 ≤ suc m = cond_elim (λ k. k ≤ suc m) (some' (suc j)) (suc m) 0 (λ e. omega arith) (λ e. omega arith) in
          omega (arith, most, falls_same some some' m (suc (suc j)) (λ k h. others k (omega arith) (omega arith)))

      go : Dec (i ≡ j) → (suc i ≤ j → j < suc i + n → suc (falls some' n (suc i)) ≤ falls some n (suc i))
          → suc (cond (some' i) (suc n) 0 + falls some' n (suc i)) ≤ cond (some i) (suc n) 0 + falls some n (suc i)
      go (yes e) deeper = rw (e, left, had) (omega (arith, below n))
      go (no e) deeper = rw (others i e (omega arith)) (omega (arith, deeper (omega arith) (omega arith)))

  -- Without one, nothing comes onto the next, and there are no more.
  fell_empty : some j ≡ false → (some (suc j) ≡ false → some' (suc j) ≡ false) → (n i : ℕ) → falls some' n i ≤ falls some n i
  unfolding falls
  fell_empty had next zero i = omega arith
  fell_empty had next (suc n) i = omega (arith, here (ℕ_discrete i j) (ℕ_discrete i (suc j)), fell_empty had next n (suc i))
    where
      here : Dec (i ≡ j) → Dec (i ≡ suc j) → cond (some' i) (suc n) 0 ≤ cond (some i) (suc n) 0
      here (yes e) q = rw (e, left) (omega arith)
      here (no e) (yes q) = rw q (by_cases (some (suc j)) (λ h. rw h (cond_elim (λ k. k ≤ suc n) (some' (suc j)) (suc n) 0 (λ x. omega arith) (λ x. omega arith)))
          (λ h. rw (h, next h) (omega arith)))
      here (no e) (no q) = rw (others i e q) (omega arith)

module _ {S A : Type 0} where
  -- A merge makes no record.
  held-joined : (b : Bool) (u l : Level S A) → held (joined b u l) ≤ held u + held l
  held-joined b u l =
      let v : Level S A = joined b u l in
      omega (
        arith,
        weigh_joined (λ (x : S). 1) b u l,
        sum_ones u.points,
        sum_ones u.ranges,
        sum_ones l.points,
        sum_ones l.ranges,
        sum_ones v.points,
        sum_ones v.ranges,
      )

  -- Level i has a record.
  abbrev occupied : State S A → ℕ → Bool
  occupied s i = not (eqb (held (level i s)) 0)

  -- The falls that are still to come in a store.
  abbrev to_come : ℕ → State S A → ℕ
  to_come deepest s = falls (occupied s) deepest 0

  -- What comes onto the next level comes from the two.
  next_held : (i : ℕ) (s : State S A) → held (level (suc i) (merge_state i s)) ≤ held (level i s) + held (level (suc i) s)
  unfolding merge_state
  next_held i s =
      set_or (λ (l : Level S A). held l ≤ held (level i s) + held (level (suc i) s)) (set s.levels i empty) (suc i)
      (held-joined (eqb (suc i) s.settings.deepest) (level i s) (level (suc i) s)) (omega arith)
    where
      set_or : (P : Level S A → Type 0) (ls : List (Level S A)) (j : ℕ) {v : Level S A} → P v → P empty → P (get_or (set ls j v) j empty)
      set_or P [] j p q = q
      set_or P (l ∷ ls) zero p q = p
      set_or P (l ∷ ls) (suc j) p q = set_or P ls j p q

  module _ (deepest i : ℕ) (s : State S A) (below : i < deepest) where
    left_empty : occupied (merge_state i s) i ≡ false
    left_empty = rw (merge_empties i s)

    others_same : (k : ℕ) → k ≢ i → k ≢ suc i → occupied (merge_state i s) k ≡ occupied s k
    others_same k a b = rw (merge_other i k s a b)

    falls_counted : held (level i s) ≢ 0 → suc (to_come deepest (merge_state i s)) ≤ to_come deepest s
    falls_counted o =
        fell (occupied s) (occupied (merge_state i s)) i left_empty others_same (rw (ne_eqb (held (level i s)) 0 o)) deepest 0 (omega arith) (omega arith)

    falls_uncounted : held (level i s) ≡ 0 → to_come deepest (merge_state i s) ≤ to_come deepest s
    falls_uncounted z =
        fell_empty (occupied s) (occupied (merge_state i s)) i left_empty others_same (rw (eq-eqb (held (level i s)) 0 z))
        (λ e. rw (eq-eqb (held (level (suc i) (merge_state i s))) 0 (omega (arith, next_held i s, eqb-true (held (level (suc i) s)) 0 (not-false _ e))))) deepest 0

  -- Merges counted and falls to come never grow together.
  Spent : ℕ → ℕ → Work S A → Type 0
  Spent deepest most w = (w.state.settings.deepest ≡ deepest) × (w.merges + to_come deepest w.state ≤ most)

  merge_spends : (deepest most i : ℕ) (w : Work S A) → i < deepest → Spent deepest most w → Spent deepest most (merge_level i w)
  unfolding Spent merge_level merge_state
  merge_spends deepest most i w below p = (p.0, by_cases (eqb (held (level i w.state)) 0) none some)
    where
      none : eqb (held (level i w.state)) 0 ≡ true → (merge_level i w).merges + to_come deepest (merge_state i w.state) ≤ most
      none z = rw z (omega (arith, p.1, falls_uncounted deepest i w.state below (eqb-true (held (level i w.state)) 0 z)))

      some : eqb (held (level i w.state)) 0 ≡ false → (merge_level i w).merges + to_come deepest (merge_state i w.state) ≤ most
      some z = rw z (omega (arith, p.1, falls_counted deepest i w.state below (eqb-false (held (level i w.state)) 0 z)))

  pass_spends : (deepest most t : ℕ) (w : Work S A) → Spent deepest most w → Spent deepest most (pass t w)
  unfolding Spent pass pass_level
  pass_spends deepest most t w p =
      iterate_keeps (pass_level t) (Spent deepest most) w.state.settings.deepest 0 w
      (λ j y a b q. cond_elim (Spent deepest most) (due y.state.settings t j (level j y.state)) (merge_level j y) y
      (λ g. merge_spends deepest most j y (omega (arith, p.0)) q) (λ g. q))
      p

  -- A tick or a flush: what it counts and the falls to come after it are no more than those before it, and L stays.
  record Falls (s : State S A) (r : Outcome S A) : Type 0 where
    deepest : r.state.settings.deepest ≡ s.settings.deepest
    counted : r.answer.merges + to_come s.settings.deepest r.state ≤ to_come s.settings.deepest s

  prepared_spends : (s : State S A) (c : Call A) → 0 < s.settings.deepest → count_written c.op ≡ 0
      → Spent s.settings.deepest (to_come s.settings.deepest s) (prepared c.clock c.op s)
  unfolding Spent prepared
  prepared_spends s c deep = go c.op
    where
      go : (op : Op A) → count_written op ≡ 0 → Spent s.settings.deepest (to_come s.settings.deepest s) (prepared c.clock op s)
      go (written w) z = absurd (omega arith)
      go flush z = merge_spends s.settings.deepest (to_come s.settings.deepest s) 0 (begin s) deep (refl, omega arith)
      go tick z = (refl, omega arith)

  step_falls : (s : State S A) (c : Call A) → 0 < s.settings.deepest → count_written c.op ≡ 0 → Falls s (step s c)
  unfolding accepted_outcome worked Spent
  step_falls s c deep quiet = go (step s c) (step_view s c)
    where
      never_full : (op : Op A) → count_written op ≡ 0 → out_of_slots c.clock op s ≡ false
      never_full (written w) z = absurd (omega arith)
      never_full flush z = refl
      never_full tick z = refl

      go : (r : Outcome S A) → StepView s c r → Falls s r
      go r (turned_away e) = record { deepest = refl; counted = omega arith }
      go r (refused_7 e f) = absurd (true≢false (sym f ∙ never_full c.op quiet))
      go r (passed e f) =
          let w = pass_spends s.settings.deepest (to_come s.settings.deepest s) c.clock (prepared c.clock c.op s) (prepared_spends s c deep quiet) in
          record { deepest = w.0; counted = w.1 }

  run_falls : (s : State S A) (cs : List (Call A)) → 0 < s.settings.deepest → All (λ c. count_written c.op ≡ 0) cs
      → sum (λ (r : Answer). r.merges) (answers s cs) ≤ to_come s.settings.deepest s
  unfolding answers sum
  run_falls s [] deep quiet = omega arith
  run_falls s (c ∷ cs) deep quiet =
      let here = step_falls s c deep quiet.0 in
      let rest = run_falls (step s c).state cs (omega (arith, here.deepest)) quiet.1 in
      omega (arith, here.counted, rest, ap (λ k. to_come k (step s c).state) here.deepest)

  -- "a store without writes runs at most L × (L + 1) / 2 merges, however many ticks follow"
  pub quiet_merges : (s : State S A) (cs : List (Call A)) → 0 < s.settings.deepest → All (λ c. count_written c.op ≡ 0) cs
      → sum (λ (r : Answer). r.merges) (answers s cs) ≤ s.settings.deepest * (s.settings.deepest + 1) / 2
  quiet_merges s cs deep quiet =
      let most = falls_most (occupied s) s.settings.deepest 0 in
      let same : s.settings.deepest * (s.settings.deepest + 1) ≡ s.settings.deepest * suc s.settings.deepest = ap (◌*◌ s.settings.deepest) (omega arith) in
      (le-div_iff_mul-le {k = 2} (omega arith)).1 (omega (arith, run_falls s cs deep quiet, most, same))
