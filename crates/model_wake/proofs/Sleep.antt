-- After an accepted call: ticks before the clock of the next due merge change nothing but the last clock, and a tick at it merges.
use Rattle.std.proofs.Common.{Option, Some, None}
use mathlib.Core.Path.{◌≡◌, refl, sym, ap, ◌∙◌}
use mathlib.Core.Logic.{◌≢◌}
use mathlib.Core.Bool.{Bool, true, false, true≢false, ◌&&◌, not}
use mathlib.Core.List.{List, [], ◌∷◌, map}
use Prim.Native.Nat.{ℕ, zero, suc, ◌+◌, ◌-◌, ◌≤◌, ◌<◌}
use native.Mathlib.Omega.{arith}
use lib.Dec.{eqb, leb}
use borrow.Author.Tests.{leb-true, leb-false, ne_eqb, eqb-true, eqb-false, le-leb, lt-leb, le-ltb}
use Rattle.lists.specs.All.{All, Ascending}
use Rattle.lists.proofs.Bools.{cond_elim, by_cases, or_false_left, or_false_right, or_false_intro, or_right, and_second_false, and_false_left, and_false_right, and_intro}
use Rattle.lists.proofs.Loops.{iterate_holds}
use Rattle.settings.specs.declared.Settings.{Settings}
use Rattle.settings.specs.Limits.{limit}
use Rattle.model.specs.Records.{Level, State, level, held, held_all}
use Rattle.model.specs.Steps.{Work, begin, merge_level, overfull, overdue, due, pass_level, pass}
use Rattle.model.specs.Calls.{Outcome, timed, prepared, step, run, answers}
use Rattle.model.proofs.Settle.{pass_leaves_none_due}
use Rattle.model.proofs.StepView.{accepted_outcome, worked, step_accepts}
use Rattle.model_wake.specs.Wake.{wake, Before, tick_at, last_clock, no_change}
use Rattle.model_wake.proofs.Smallest.{Smallest, next_smallest, at_smallest}

module _ {S A : Type 0} where
  -- What an accepted call leaves: at its clock no level from 0 to L−1 is due, and none owes from later.
  pub record Settled (s : State S A) : Type 0 where
    pub none_due : (i : ℕ) → i < s.settings.deepest → due s.settings s.clock i (level i s) ≡ false
    pub owed_by : (i : ℕ) → i < s.settings.deepest → (level i s).owed ≤ s.clock

-- A level that is not due at a clock comes due at owed + limit, and not before.
module _ {S A : Type 0} (settings : Settings) (t u i : ℕ) (l : Level S A) (quiet : due settings t i l ≡ false) (past : l.owed ≤ t) (later : t ≤ u) where
  abbrev late : ℕ → Bool
  late v = leb (limit settings i) (v - l.owed)

  abbrev owing : Bool
  owing = not (eqb l.owed 0)

  few : overfull settings i (held l) ≡ false
  unfolding due
  few = or_false_left (overfull settings i (held l)) (overdue settings t i l.owed) quiet

  not_late : l.owed ≢ 0 → t < l.owed + limit settings i
  unfolding due overdue
  not_late o =
      let early = and_second_false owing (late t) (or_false_right (overfull settings i (held l)) (owing && late t) quiet) (rw (ne_eqb l.owed 0 o)) in
      omega (arith, leb-false (limit settings i) (t - l.owed) early)

  not_yet : (l.owed ≢ 0 → u < l.owed + limit settings i) → due settings u i l ≡ false
  unfolding due overdue
  not_yet h =
      or_false_intro (overfull settings i (held l)) (owing && late u) few
      (by_cases (eqb l.owed 0) (λ z. and_false_left owing (late u) (rw z))
      (λ z. and_false_right owing (late u) (lt-leb (limit settings i) (u - l.owed) (omega (arith, h (eqb-false l.owed 0 z))))))

  come_due : l.owed ≢ 0 → l.owed + limit settings i ≤ u → due settings u i l ≡ true
  unfolding due overdue
  come_due o h =
      or_right (overfull settings i (held l)) (owing && late u)
      (and_intro owing (late u) (rw (ne_eqb l.owed 0 o)) (le-leb (limit settings i) (u - l.owed) (omega arith)))

module _ {S A : Type 0} where
  -- Where no level is due the pass does nothing.
  pass_nothing : (t : ℕ) (s : State S A) → ((i : ℕ) → i < s.settings.deepest → due s.settings t i (level i s) ≡ false) → pass t (begin s) ≡ begin s
  unfolding pass pass_level
  pass_nothing t s none = iterate_holds (pass_level t) (λ j w. w ≡ begin s) s.settings.deepest 0 (begin s) (λ j w a b e. stays j w (omega arith) e) refl
    where
      stays : (j : ℕ) (w : Work S A) → j < s.settings.deepest → w ≡ begin s → pass_level t j w ≡ begin s
      stays j w h e = rw (e, none j h)

  -- A tick that is let in ends in its pass.
  tick_ends : (t : ℕ) (s : State S A) → 1 ≤ t → s.clock ≤ t → step s (tick_at t) ≡ accepted_outcome s (tick_at t)
  tick_ends t s some later = step_accepts s (tick_at t) (rw (ne_eqb t 0 (omega arith), le-ltb t s.clock later)) refl

  -- Nothing changes but the clock.
  abbrev pub unmoved : ℕ → State S A → Outcome S A
  unmoved t s = record { state = timed t s; answer = no_change }

  module _ (s : State S A) (h : Settled s) where
    -- What the clock of the next due merge says of each level.
    before_each : (t i : ℕ) → i < s.settings.deepest → Before t (wake s) → (level i s).owed ≢ 0 → t < (level i s).owed + limit s.settings i
    before_each t i below = go (wake s) (next_smallest s.settings (λ j. (level j s).owed))
      where
        go : (w : Option ℕ) → Smallest s.settings (λ j. (level j s).owed) s.settings.deepest w → Before t w → (level i s).owed ≢ 0
            → t < (level i s).owed + limit s.settings i
        go None all b o = absurd (o (all i below))
        go (Some m) next b o = omega (arith, b, next.least i below o)

    asleep : (t : ℕ) → s.clock ≤ t → Before t (wake s) → (i : ℕ) → i < s.settings.deepest → due s.settings t i (level i s) ≡ false
    asleep t later b i below =
        not_yet s.settings s.clock t i (level i s) (h.none_due i below) (h.owed_by i below) later (before_each t i below b)

    pub sleeps : (t : ℕ) → 1 ≤ t → s.clock ≤ t → Before t (wake s) → step s (tick_at t) ≡ unmoved t s
    unfolding accepted_outcome worked prepared
    sleeps t from_1 later b =
        let same : held_all s.levels + 0 - held_all s.levels ≡ 0 = omega arith in
        tick_ends t s from_1 later ∙ rw (pass_nothing t s (asleep t later b), same)

    -- The store is as settled as before, and wakes at the same clock.
    pub sleeps_on : (t : ℕ) → s.clock ≤ t → Before t (wake s) → Settled (timed t s)
    sleeps_on t later b = record {
      none_due = asleep t later b;
      owed_by = λ i below. omega (arith, h.owed_by i below);
    }

  -- So for ticks one after the other.
  pub run_sleeps : (s : State S A) → Settled s → 1 ≤ s.clock → (ts : List ℕ) → Ascending leb (s.clock ∷ ts) → All (λ t. Before t (wake s)) ts
      → run s (map tick_at ts) ≡ timed (last_clock s.clock ts) s
  unfolding run
  run_sleeps s h begun [] up b = refl
  run_sleeps s h begun (t ∷ ts) up b =
      let later = leb-true s.clock t up.0.0 in
      ap (λ (r : Outcome S A). run r.state (map tick_at ts)) (sleeps s h t (omega arith) later b.0)
      ∙ run_sleeps (timed t s) (sleeps_on s h t later b.0) (omega arith) ts up.1 b.1

  pub answers_sleep : (s : State S A) → Settled s → 1 ≤ s.clock → (ts : List ℕ) → Ascending leb (s.clock ∷ ts) → All (λ t. Before t (wake s)) ts
      → answers s (map tick_at ts) ≡ map (λ (t : ℕ). no_change) ts
  unfolding answers
  answers_sleep s h begun [] up b = refl
  answers_sleep s h begun (t ∷ ts) up b =
      let later = leb-true s.clock t up.0.0 in
      ap (λ (r : Outcome S A). r.answer ∷ answers r.state (map tick_at ts)) (sleeps s h t (omega arith) later b.0)
      ∙ ap (◌∷◌ no_change) (answers_sleep (timed t s) (sleeps_on s h t later b.0) (omega arith) ts up.1 b.1)

  -- A merge of a level with a record is counted.
  merge_counts : (i : ℕ) (w : Work S A) → held (level i w.state) ≢ 0 → (merge_level i w).merges ≡ suc w.merges
  unfolding merge_level
  merge_counts i w o = rw (ne_eqb (held (level i w.state)) 0 o)

  -- A pass that counts no merge has changed nothing, where only a level with a record is due.
  pass_counts_none : (t : ℕ) (s : State S A) → ((i : ℕ) → i < s.settings.deepest → due s.settings t i (level i s) ≡ true → held (level i s) ≢ 0)
      → (pass t (begin s)).merges ≡ 0 → (pass t (begin s)).state ≡ s
  unfolding pass pass_level merge_level
  pass_counts_none t s some =
      iterate_holds (pass_level t) (λ j w. w.merges ≡ 0 → w.state ≡ s) s.settings.deepest 0 (begin s) (λ j w a b e. go j w (omega arith) e) (λ z. refl)
    where
      grows : (j : ℕ) (w : Work S A) → w.merges ≤ (merge_level j w).merges
      grows j w = cond_elim (λ n. w.merges ≤ n) (eqb (held (level j w.state)) 0) w.merges (suc w.merges) (λ g. omega arith) (λ g. omega arith)

      go : (j : ℕ) (w : Work S A) → j < s.settings.deepest → (w.merges ≡ 0 → w.state ≡ s) → (pass_level t j w).merges ≡ 0 → (pass_level t j w).state ≡ s
      go j w below e =
          cond_elim (λ (x : Work S A). x.merges ≡ 0 → x.state ≡ s) (due w.state.settings t j (level j w.state)) (merge_level j w) w
          (λ g z. caught g z (e (omega (arith, grows j w)))) (λ g z. e z)
        where
          caught : due w.state.settings t j (level j w.state) ≡ true → (merge_level j w).merges ≡ 0 → w.state ≡ s → (merge_level j w).state ≡ s
          caught g z q =
              let o : held (level j w.state) ≢ 0 = rw q (some j below (sym (ap (λ (x : State S A). due x.settings t j (level j x)) q) ∙ g)) in
              absurd (omega (arith, merge_counts j w o))

  module _ (s : State S A) (h : Settled s) (some : 0 < s.settings.buffer)
      (owing_holds : (i : ℕ) → i < s.settings.deepest → (level i s).owed ≢ 0 → held (level i s) ≢ 0) where
    -- Only a level that owes comes due, and that has a record.
    due_holds : (t i : ℕ) → s.clock ≤ t → i < s.settings.deepest → due s.settings t i (level i s) ≡ true → held (level i s) ≢ 0
    due_holds t i later below d = by_cases (eqb (level i s).owed 0)
        (λ z. absurd (true≢false (sym d
        ∙ not_yet s.settings s.clock t i (level i s) (h.none_due i below) (h.owed_by i below) later (λ o. absurd (o (eqb-true (level i s).owed 0 z))))))
        (λ z. owing_holds i below (eqb-false (level i s).owed 0 z))

    -- A tick at the clock of the next due merge, which lies after the last clock, is accepted and counts a merge.
    pub record Wakes (m : ℕ) : Type 0 where
      pub after : s.clock < m
      pub accepted : (step s (tick_at m)).answer.refusal ≡ 0
      pub merges : 1 ≤ (step s (tick_at m)).answer.merges

    pub wakes : (m : ℕ) → wake s ≡ Some m → Wakes m
    unfolding accepted_outcome worked prepared
    wakes m e =
        let next = at_smallest s.settings (λ j. (level j s).owed) e in
        let i = next.level in
        let below = next.above in
        let quiet = h.none_due i below in
        let past = h.owed_by i below in
        let after : s.clock < m = omega (arith, next.clock, not_late s.settings s.clock s.clock i (level i s) quiet past (omega arith) next.owing) in
        let ends = tick_ends m s (omega arith) (omega arith) in
        let come = come_due s.settings s.clock m i (level i s) quiet past (omega arith) next.owing (omega (arith, next.clock)) in
        let same = pass_counts_none m s (λ j b. due_holds m j (omega arith) b) in
        let settled = pass_leaves_none_due m (begin s) i below (λ y. some) in
        record {
          after = after;
          accepted = ap (λ (r : Outcome S A). r.answer.refusal) ends;
          merges = rw ends (positive (pass m (begin s)).merges
              (λ z. true≢false (sym come ∙ ap (λ (x : State S A). due s.settings m i (level i x)) (sym (same z)) ∙ settled)));
        }
      where
        positive : (k : ℕ) → k ≢ 0 → 1 ≤ k
        positive zero n = absurd (n refl)
        positive (suc k) n = omega arith
