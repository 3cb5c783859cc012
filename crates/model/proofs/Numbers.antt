-- The numbers of an accepted call: what purged adds up to, and how many merges there can be.
use mathlib.Core.Path.{◌≡◌, refl, sym, ap, ◌∙◌}
use mathlib.Core.Bool.{Bool, true, false, cond, false≢true}
use mathlib.Core.List.{List, [], ◌∷◌}
use Prim.Native.Nat.{ℕ, suc, ◌+◌, ◌≤◌, ◌<◌}
use native.Mathlib.Omega.{arith}
use lib.Dec.{eqb}
use lib.ListN.{length, length-reverse_aux}
use Rattle.settings.specs.declared.Settings.{Settings}
use Rattle.lists.specs.Lists.{select}
use Rattle.lists.proofs.Bools.{cond_elim}
use Rattle.lists.proofs.Tests.{all_every}
use Rattle.lists.proofs.Loops.{iterate_holds}
use Rattle.model.specs.Records.{Level, State, level, held, held_all}
use Rattle.model.specs.Merge.{point_goes, point_slots, release, freed}
use Rattle.model.specs.Steps.{Work, Write, put, delete, delete_range, unplaced, begin, merge_state, merge_level, merge_all, displaced, enter_at, enter}
use Rattle.model.specs.Steps.{set_points, wipe, act_deepest, crowded, make_room, full, write, due, pass_level, pass}
use Rattle.model.specs.Calls.{Op, written, flush, tick, Call, Outcome, count_written, prepared, step, run}
use Rattle.model.specs.Erasure.{accepted}
use Rattle.model.proofs.Keeps.{Kept, merge_all_keeps, pass_keeps, prepared_kept, run_keeps, enter-settings, act_settings}
use Rattle.model.proofs.Form.{Formed, formed_kept}
use Rattle.model.proofs.Slots.{Whole, whole_kept}
use Rattle.model.proofs.StepView.{worked, accepted_outcome, StepView, turned_away, refused_7, passed, step_view}

module _ {S A : Type 0} where
  -- A merge or an action on level L takes no slot, and an entry takes one.
  merge_free : (i : ℕ) (s : State S A) → length s.free ≤ length (merge_state i s).free
  unfolding merge_state
  merge_free i s = omega (arith, length-reverse_aux (freed (eqb (suc i) s.settings.deepest) (level i s) (level (suc i) s)) s.free)

  wipe-free : (u : Level (Unit {0}) A) (i : ℕ) (s : State S A) → length s.free ≤ length (wipe u i s).free
  unfolding wipe set_points
  wipe-free u i s = omega (arith, length-reverse_aux (point_slots (select (point_goes u) (level i s).points)) s.free)

  act_free : (t : ℕ) (w : Write A) (s : State S A) → length s.free ≤ length (act_deepest t w s).free
  unfolding act_deepest set_points
  act_free t (put k a) s = omega arith
  act_free t (delete k) s = wipe-free (unplaced t (delete k)) s.settings.deepest s
  act_free t (delete_range lo hi date) s = wipe-free (unplaced t (delete_range lo hi date)) s.settings.deepest s

  enter_at-free : (t : ℕ) (w : Write A) (s : State S A) (free : List S) → length s.free ≤ length free → length s.free ≤ length (enter_at t w s free).free + 1
  unfolding enter_at
  enter_at-free t w s [] h = omega arith
  enter_at-free t w s (x ∷ free) h = omega arith

  enter-free : (t : ℕ) (w : Write A) (s : State S A) → length s.free ≤ length (enter t w s).free + 1
  unfolding enter
  enter-free t w s = enter_at-free t w s (release (displaced t w s) s.free) (omega (arith, length-reverse_aux (displaced t w s) s.free))

  -- A store in form with at least m free slots.
  Free : ℕ → State S A → Type 0
  Free m s = Formed s × (m ≤ length s.free)

  free_deep : (m : ℕ) (s : State S A) → Free m s → 0 < s.settings.deepest
  unfolding Free
  free_deep m s p = omega (arith, p.0.deep)

  free_merging : (c : Call A) (m i : ℕ) (s : State S A) → i < s.settings.deepest → Free m s → Free m (merge_state i s)
  unfolding Free
  free_merging c m i s h p = ((formed_kept c).merging i s h p.0, omega (arith, merge_free i s))

  pub merge_all-free : (s : State S A) → Formed s → length s.free ≤ length (merge_all s).state.free
  unfolding Free
  merge_all-free s f =
      (merge_all_keeps (Free (length s.free)) (free_deep _) (free_merging (record { clock = 0; op = tick }) _) s (f, omega arith)).0.1

  make_room-free : (c : Call A) (w : Write A) (s : State S A) → Formed s → length s.free ≤ length (make_room c.clock w s).state.free
  unfolding make_room
  make_room-free c w s f =
      cond_elim (λ (x : Work S A). length s.free ≤ length x.state.free) (crowded c.clock w s) (merge_all s) (begin s)
      (λ g. merge_all-free s f) (λ g. omega arith)

  prepared-free : (s : State S A) (c : Call A) → Formed s → length s.free ≤ length (prepared c.clock c.op s).state.free + count_written c.op
  unfolding prepared write merge_level
  prepared-free s c f = go c.op
    where
      go : (op : Op A) → length s.free ≤ length (prepared c.clock op s).state.free + count_written op
      go (written w) =
          let r : State S A = (make_room c.clock w s).state in
          cond_elim (λ (x : State S A). length s.free ≤ length x.free + 1) (full c.clock w s) (act_deepest c.clock w r) (enter c.clock w r)
          (λ g. omega (arith, make_room-free c w s f, act_free c.clock w r)) (λ g. omega (arith, make_room-free c w s f, enter-free c.clock w r))
      go flush = omega (arith, merge_free 0 s)
      go tick = omega arith

  worked-free : (s : State S A) (c : Call A) → Formed s → length s.free ≤ length (worked s c).state.free + count_written c.op
  unfolding worked Free
  worked-free s c f =
      let w : Work S A = prepared c.clock c.op s in
      let m : ℕ = length w.state.free in
      omega (
        arith,
        prepared-free s c f,
        (pass_keeps (Free m) (free_deep m) (free_merging c m) c.clock w (prepared_kept Formed c (formed_kept c) s f, omega arith)).0.1,
      )

  worked_whole : (n : ℕ) (s : State S A) (c : Call A) → Whole n s → Whole n (worked s c).state
  unfolding worked
  worked_whole n s c f =
      (pass_keeps (Whole n) (whole_kept n c).deep (whole_kept n c).merging c.clock (prepared c.clock c.op s)
      (prepared_kept (Whole n) c (whole_kept n c) s f)).0

  -- No more records are left than there were and one written.
  pub held_most : (n : ℕ) (s : State S A) (c : Call A) → Whole n s → held_all (worked s c).state.levels ≤ held_all s.levels + count_written c.op
  held_most n s c f = omega (arith, worked-free s c f.formed, f.all, (worked_whole n s c f).all)

  -- purged + held after = held before + written.
  pub purged_sum : (n : ℕ) (s : State S A) (c : Call A) → Whole n s → accepted s c ≡ true
      → (step s c).answer.purged + held_all (step s c).state.levels ≡ held_all s.levels + count_written c.op
  unfolding accepted accepted_outcome
  purged_sum n s c f = go (step s c) (step_view s c)
    where
      go : (r : Outcome S A) → StepView s c r → eqb r.answer.refusal 0 ≡ true
          → r.answer.purged + held_all r.state.levels ≡ held_all s.levels + count_written c.op
      go r (turned_away e) h = absurd (false≢true (sym e ∙ h))
      go r (refused_7 e g) h = absurd (false≢true h)
      go r (passed e g) h = omega (arith, held_most n s c f)

  -- The most merges that a call allows: those that make room, the flush's own, and one a level in the pass.
  abbrev pub most_merges : ℕ → Op A → State S A → ℕ
  most_merges t (written w) s = cond (crowded t w s) s.settings.deepest 0 + s.settings.deepest
  most_merges t flush s = 1 + s.settings.deepest
  most_merges t tick s = s.settings.deepest

  pub merge_level-merges : (i : ℕ) (w : Work S A) → (merge_level i w).merges ≤ w.merges + 1
  unfolding merge_level
  merge_level-merges i w = cond_elim (λ n. n ≤ w.merges + 1) (eqb (held (level i w.state)) 0) w.merges (suc w.merges) (λ g. omega arith) (λ g. omega arith)

  pub merge_all-merges : (s : State S A) → (merge_all s).merges ≤ s.settings.deepest
  unfolding merge_all
  merge_all-merges s =
      omega (arith, iterate_holds merge_level (λ i w. w.merges ≤ i) s.settings.deepest 0 (begin s) (λ i w a b h. omega (arith, merge_level-merges i w)) (omega arith))

  pub pass_level-merges : (t i : ℕ) (w : Work S A) → (pass_level t i w).merges ≤ w.merges + 1
  unfolding pass_level
  pass_level-merges t i w = cond_elim (λ (x : Work S A). x.merges ≤ w.merges + 1) (due w.state.settings t i (level i w.state)) (merge_level i w) w
      (λ g. merge_level-merges i w) (λ g. omega arith)

  pub pass-merges_most : (t : ℕ) (w : Work S A) → (pass t w).merges ≤ w.merges + w.state.settings.deepest
  unfolding pass
  pass-merges_most t w =
      omega (
        arith,
        iterate_holds (pass_level t) (λ i x. x.merges ≤ w.merges + i) w.state.settings.deepest 0 w
            (λ i x a b p. omega (arith, pass_level-merges t i x)) (omega arith),
      )

  prepared-merges : (s : State S A) (c : Call A) → (prepared c.clock c.op s).merges + s.settings.deepest ≤ most_merges c.clock c.op s
  unfolding prepared write make_room
  prepared-merges s c = go c.op
    where
      go : (op : Op A) → (prepared c.clock op s).merges + s.settings.deepest ≤ most_merges c.clock op s
      go (written w) = room (crowded c.clock w s)
        where
          room : (b : Bool) → (cond b (merge_all s) (begin s)).merges + s.settings.deepest ≤ cond b s.settings.deepest 0 + s.settings.deepest
          room true = omega (arith, merge_all-merges s)
          room false = omega arith
      go flush = omega (arith, merge_level-merges 0 (begin s))
      go tick = omega arith

  -- The settings as they were.
  Same : Settings → State S A → Type 0
  Same settings s = (s.settings ≡ settings) × (0 < settings.deepest)

  same_kept : (settings : Settings) (c : Call A) → Kept {S = S} (Same settings) c
  unfolding Same merge_state
  same_kept settings c = record {
    deep = λ s p. rw p.0 p.1;
    merging = λ i s h p. p;
    entering = λ w s e n p. (enter-settings c.clock w s ∙ p.0, p.1);
    acting = λ w s e p. (act_settings c.clock w s ∙ p.0, p.1);
    timing = λ s p. p;
  }

  pub prepared-settings : (s : State S A) (c : Call A) → 0 < s.settings.deepest → (prepared c.clock c.op s).state.settings ≡ s.settings
  unfolding Same
  prepared-settings s c h = (prepared_kept (Same s.settings) c (same_kept s.settings c) s (refl, h)).0

  pub run-settings : (s : State S A) (cs : List (Call A)) → 0 < s.settings.deepest → (run s cs).settings ≡ s.settings
  unfolding Same
  run-settings s cs h = (run_keeps (Same s.settings) s cs (all_every (Kept {S = S} (Same s.settings)) (same_kept s.settings) cs) (refl, h)).0

  pub merges_most : (s : State S A) (c : Call A) → 0 < s.settings.deepest → accepted s c ≡ true → (step s c).answer.merges ≤ most_merges c.clock c.op s
  unfolding accepted worked accepted_outcome
  merges_most s c h = go (step s c) (step_view s c)
    where
      go : (r : Outcome S A) → StepView s c r → eqb r.answer.refusal 0 ≡ true → r.answer.merges ≤ most_merges c.clock c.op s
      go r (turned_away e) q = absurd (false≢true (sym e ∙ q))
      go r (refused_7 e g) q = absurd (false≢true q)
      go r (passed e g) q =
          let same = ap (λ (x : Settings). x.deepest) (prepared-settings s c h) in
          omega (arith, pass-merges_most c.clock (prepared c.clock c.op s), prepared-merges s c, same)
