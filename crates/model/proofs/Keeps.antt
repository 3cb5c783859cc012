-- What every part of a call keeps, the call keeps, and so does every list of calls.
use mathlib.Core.Path.{◌≡◌, refl, sym, ◌∙◌}
use mathlib.Core.Bool.{Bool, true, false, cond, true≢false}
use mathlib.Core.List.{List, [], ◌∷◌}
use lib.Dec.{eqb}
use Prim.Native.Nat.{ℕ, ◌<◌}
use native.Mathlib.Omega.{arith}
use Rattle.settings.specs.declared.Settings.{Settings}
use Rattle.lists.specs.Lists.{none}
use Rattle.lists.specs.All.{All}
use Rattle.lists.proofs.Bools.{cond_elim, by_cases, and_intro, and_second_false}
use Rattle.lists.proofs.Loops.{iterate_keeps}
use Rattle.model.specs.Records.{State, level}
use Rattle.model.specs.Merge.{release}
use Rattle.model.specs.Steps.{Work, Write, put, delete, delete_range, begin, merge_state, merge_level, merge_all, displaced, enter_at, enter, set_points}
use Rattle.model.specs.Steps.{wipe, act_deepest, crowded, make_room, full, write, due, pass_level, pass, still_due}
use Rattle.model.specs.Calls.{Op, written, flush, tick, Call, Outcome, early_refusal, timed, refused, prepared, out_of_slots, finish, step, run}

none-release : {X : Type 0} (xs ys : List X) → none (release xs ys) ≡ true → (none xs ≡ true) × (none ys ≡ true)
none-release [] ys h = (refl, h)
none-release (x ∷ xs) ys h = absurd (true≢false (sym (none-release xs (x ∷ ys) h).1))

module _ {S A : Type 0} where
  -- The settings never change.
  pub enter-settings : (t : ℕ) (w : Write A) (s : State S A) → (enter t w s).settings ≡ s.settings
  unfolding enter enter_at
  enter-settings t w s = go (release (displaced t w s) s.free)
    where
      go : (free : List S) → (enter_at t w s free).settings ≡ s.settings
      go [] = refl
      go (x ∷ xs) = refl

  pub act_settings : (t : ℕ) (w : Write A) (s : State S A) → (act_deepest t w s).settings ≡ s.settings
  unfolding act_deepest set_points wipe
  act_settings t (put k a) s = refl
  act_settings t (delete k) s = refl
  act_settings t (delete_range lo hi date) s = refl

  -- Where a write is not crowded, or the merges have freed a slot, its entry finds one.
  pub has_room : (t : ℕ) (w : Write A) (s : State S A) → full t w s ≡ false
      → none (release (displaced t w (make_room t w s).state) (make_room t w s).state.free) ≡ false
  unfolding full make_room crowded
  has_room t w s h = by_cases (none (release (displaced t w (make_room t w s).state) (make_room t w s).state.free)) (λ n. refuted (crowded t w s) refl n) (λ n. n)
    where
      refuted : (b : Bool) → crowded t w s ≡ b → none (release (displaced t w (cond b (merge_all s) (begin s)).state) (cond b (merge_all s) (begin s)).state.free) ≡ true
          → none (release (displaced t w (make_room t w s).state) (make_room t w s).state.free) ≡ false
      refuted true c n =
          let e = none-release (displaced t w (merge_all s).state) (merge_all s).state.free n in
          absurd (true≢false (sym e.1 ∙ and_second_false (crowded t w s) (none (merge_all s).state.free) h c))
      refuted false c n =
          let e = none-release (displaced t w s) s.free n in
          absurd (true≢false (sym (and_intro (none s.free) (none (displaced t w s)) e.1 e.0) ∙ c))

-- What a property P of states is shown to survive, at the call c.
pub record Kept {S A : Type 0} (P : State S A → Type 0) (c : Call A) : Type 0 where
  pub deep : (s : State S A) → P s → 0 < s.settings.deepest
  pub merging : (i : ℕ) (s : State S A) → i < s.settings.deepest → P s → P (merge_state i s)
  pub entering : (w : Write A) (s : State S A) → c.op ≡ written w
      → none (release (displaced c.clock w s) s.free) ≡ false → P s → P (enter c.clock w s)
  pub acting : (w : Write A) (s : State S A) → c.op ≡ written w → P s → P (act_deepest c.clock w s)
  pub timing : (s : State S A) → P s → P (timed c.clock s)

module _ {S A : Type 0} (P : State S A → Type 0) (deep : (s : State S A) → P s → 0 < s.settings.deepest)
    (merging : (i : ℕ) (s : State S A) → i < s.settings.deepest → P s → P (merge_state i s)) where
  -- With the settings that the loop began with.
  abbrev pub Under : Settings → Work S A → Type 0
  Under settings w = P w.state × (w.state.settings ≡ settings)

  merge_under : (settings : Settings) (i : ℕ) (w : Work S A) → i < settings.deepest → Under settings w → Under settings (merge_level i w)
  unfolding merge_level merge_state
  merge_under settings i w h p = (merging i w.state (rw p.1 h) p.0, p.1)

  pub merge_all_keeps : (s : State S A) → P s → Under s.settings (merge_all s)
  unfolding merge_all
  merge_all_keeps s p = iterate_keeps merge_level (Under s.settings) s.settings.deepest 0 (begin s)
      (λ j y a b. merge_under s.settings j y (omega arith)) (p, refl)

  pass_level_keeps : (settings : Settings) (t i : ℕ) (w : Work S A) → i < settings.deepest → Under settings w → Under settings (pass_level t i w)
  unfolding pass_level
  pass_level_keeps settings t i w h p = cond_elim (Under settings) (due w.state.settings t i (level i w.state)) (merge_level i w) w
      (λ g. merge_under settings i w h p) (λ g. p)

  pub pass_keeps : (t : ℕ) (w : Work S A) → P w.state → Under w.state.settings (pass t w)
  unfolding pass
  pass_keeps t w p =
      iterate_keeps (pass_level t) (Under w.state.settings) w.state.settings.deepest 0 w
      (λ j y a b. pass_level_keeps w.state.settings t j y (omega arith)) (p, refl)

module _ {S A : Type 0} (P : State S A → Type 0) (c : Call A) (k : Kept P c) where
  merge_all_kept : (s : State S A) → P s → P (merge_all s).state
  merge_all_kept s p = (merge_all_keeps P k.deep k.merging s p).0

  make_room_kept : (w : Write A) (s : State S A) → P s → P (make_room c.clock w s).state
  unfolding make_room
  make_room_kept w s p = cond_elim (λ (x : Work S A). P x.state) (crowded c.clock w s) (merge_all s) (begin s) (λ g. merge_all_kept s p) (λ g. p)

  write_kept : (w : Write A) → c.op ≡ written w → (s : State S A) → P s → P (write c.clock w s).state
  unfolding write
  write_kept w e s p =
      cond_elim P (full c.clock w s) (act_deepest c.clock w (make_room c.clock w s).state) (enter c.clock w (make_room c.clock w s).state)
      (λ g. k.acting w (make_room c.clock w s).state e (make_room_kept w s p))
      (λ g. k.entering w (make_room c.clock w s).state e (has_room c.clock w s g) (make_room_kept w s p))

  pub prepared_kept : (s : State S A) → P s → P (prepared c.clock c.op s).state
  unfolding prepared merge_level
  prepared_kept s p = go c.op refl
    where
      go : (op : Op A) → c.op ≡ op → P (prepared c.clock op s).state
      go (written w) e = write_kept w e s p
      go flush e = k.merging 0 s (k.deep s p) p
      go tick e = p

  finish_kept : (s : State S A) (w : Work S A) → P w.state → P (finish c.clock c.op s w).state
  unfolding finish
  finish_kept s w p =
      let q : P (timed c.clock (pass c.clock w).state) = k.timing (pass c.clock w).state (pass_keeps P k.deep k.merging c.clock w p).0 in
      cond_elim (λ (r : Outcome S A). P r.state) (still_due c.clock (pass c.clock w).state) _ _ (λ g. q) (λ g. q)

  pub step_keeps : (s : State S A) → P s → P (step s c).state
  unfolding step
  step_keeps s p =
      cond_elim (λ (r : Outcome S A). P r.state) (eqb (early_refusal s.clock c) 0) _ (refused (early_refusal s.clock c) s)
      (λ g. cond_elim (λ (r : Outcome S A). P r.state) (out_of_slots c.clock c.op s) (refused 7 (merge_all s).state) _ (λ h. merge_all_kept s p)
      (λ h. finish_kept s (prepared c.clock c.op s) (prepared_kept s p)))
      (λ g. p)

module _ {S A : Type 0} (P : State S A → Type 0) where
  pub run_keeps : (s : State S A) (cs : List (Call A)) → All (Kept P) cs → P s → P (run s cs)
  unfolding run
  run_keeps s [] k p = p
  run_keeps s (c ∷ cs) k p = run_keeps (step s c).state cs k.1 (step_keeps P c k.0 s p)
