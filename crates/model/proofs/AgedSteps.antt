-- A call keeps the age of records: a write's stamp is the clock, which nothing in the store is later than, and an action on level L comes when the levels above
-- are empty.
use mathlib.Core.Path.{◌≡◌, ap, ◌∙◌}
use mathlib.Core.Bool.{true, false}
use mathlib.Core.List.{List, [], ◌∷◌}
use Prim.Native.Nat.{ℕ, zero, suc, ◌≤◌, ◌<◌}
use native.Mathlib.Omega.{arith}
use lib.Dec.{eqb}
use Rattle.settings.specs.declared.Settings.{Settings}
use Rattle.lists.specs.All.{All}
use Rattle.lists.proofs.Bools.{cond_elim}
use Rattle.lists.proofs.Tests.{all_weaken, all_map, all_select, all_get}
use Rattle.model.specs.Records.{Point, Level, State, empty, level}
use Rattle.model.specs.Merge.{release, settled}
use Rattle.model.specs.Steps.{Work, Write, put, delete, delete_range, begin, merge_state, merge_level, merge_all, displaced, enter_at}
use Rattle.model.specs.Steps.{enter, overwrite, wipe, set_points, act_deepest, crowded, make_room, full, write, pass}
use Rattle.model.specs.Calls.{Op, written, flush, tick, Call, Outcome, early_refusal, prepared, out_of_slots, step}
use Rattle.model.specs.Lookup.{lookup}
use Rattle.model.proofs.Keeps.{merge_all_keeps, pass_keeps, prepared_kept}
use Rattle.model.proofs.Form.{Formed, formed_kept}
use Rattle.model.proofs.StepView.{worked, accepted_outcome, StepView, turned_away, refused_7, passed, step_view}
use Rattle.model.proofs.Timed.{let_in_clock}
use Rattle.model.proofs.Aged.{Stamped, Timely, timely_later, timely_merge, timely_enter}
use Rattle.model.proofs.Deepest.{only, only_level, set_points-only, Drained, merge_all_drained}
use Rattle.model.proofs.LookupSteps.{after_op, full_room, pass-lookup, prepared-lookup}

module _ {S A : Type 0} (t : ℕ) where
  -- A store in form whose levels are timely at t.
  abbrev pub FormedAt : State S A → Type 0
  FormedAt s = Formed s × Timely t s.levels

  at_deep : (s : State S A) → FormedAt s → 0 < s.settings.deepest
  at_deep s p = omega (arith, p.0.deep)

  at_merging : (i : ℕ) (s : State S A) → i < s.settings.deepest → FormedAt s → FormedAt (merge_state i s)
  unfolding merge_state
  at_merging i s h p = ((formed_kept (record { clock = 0; op = tick })).merging i s h p.0, timely_merge t (eqb (suc i) s.settings.deepest) i s.levels p.1)

  pub merge_all_timely : (s : State S A) → FormedAt s → FormedAt (merge_all s).state
  merge_all_timely s p = (merge_all_keeps FormedAt at_deep at_merging s p).0

  pass_timely : (w : Work S A) → FormedAt w.state → FormedAt (pass t w).state
  pass_timely w p = (pass_keeps FormedAt at_deep at_merging t w p).0

  make_room_timely : (w : Write A) (s : State S A) → FormedAt s → FormedAt (make_room t w s).state
  unfolding make_room
  make_room_timely w s p = cond_elim (λ (x : Work S A). FormedAt x.state) (crowded t w s) (merge_all s) (begin s) (λ g. merge_all_timely s p) (λ g. p)

  only_timely : (n : ℕ) (l : Level S A) → Stamped t l → Timely t (only n l)
  only_timely zero l a = record { stamps = (a, tt); aged = (all_weaken _ _ (λ p h. tt) l.points a, tt) }
  only_timely (suc n) l a = record { stamps = (tt, (only_timely n l a).stamps); aged = (tt, (only_timely n l a).aged) }

  module _ (low : 1 ≤ t) where
    enter_timely : (w : Write A) (s : State S A) → Timely t s.levels → Timely t (enter t w s).levels
    unfolding enter enter_at
    enter_timely w s a = go (release (displaced t w s) s.free)
      where
        go : (free : List S) → Timely t (enter_at t w s free).levels
        go [] = a
        go (x ∷ free) = timely_enter x t w s.levels low a

    -- Only level L holds records: an action on it.
    act_timely : (w : Write A) (s : State S A) (n : ℕ) (l : Level S A) → s.settings.deepest ≡ n → s.levels ≡ only n l → Stamped t l → Timely t (act_deepest t w s).levels
    unfolding act_deepest wipe
    act_timely w s n l deep levels a = go w
      where
        here : level s.settings.deepest s ≡ l
        here = rw (deep, levels) (only_level n l)

        set : (ps : List (Point S A)) (free : List S) → All (λ p. (1 ≤ p.stamp) × (p.stamp ≤ t)) ps → Timely t (set_points s.settings.deepest ps s free).levels
        set ps free b = rw (set_points-only s n l ps free deep levels) (only_timely n _ b)

        changed : (k : ℕ) (a : A) (p : Point S A) → (1 ≤ p.stamp) × (p.stamp ≤ t) → (1 ≤ (overwrite k a t p).stamp) × ((overwrite k a t p).stamp ≤ t)
        changed k a p h = cond_elim (λ (q : Point S A). (1 ≤ q.stamp) × (q.stamp ≤ t)) (eqb p.key k) _ p (λ e. (low, omega arith)) (λ e. h)

        go : (w : Write A) → Timely t (act_deepest t w s).levels
        go (put k v) = set _ s.free (rw here (all_map (overwrite k v t) _ l.points (all_weaken _ _ (changed k v) l.points a)))
        go (delete k) = set _ _ (rw here (all_select _ _ l.points a))
        go (delete_range lo hi date) = set _ _ (rw here (all_select _ _ l.points a))

    write_timely : (w : Write A) (s : State S A) → FormedAt s → Timely t (write t w s).state.levels
    unfolding write
    write_timely w s p =
        cond_elim (λ (x : State S A). Timely t x.levels) (full t w s) (act_deepest t w r) (enter t w r) acting (λ g. enter_timely w r (make_room_timely w s p).1)
      where
        r : State S A
        r = (make_room t w s).state

        acting : full t w s ≡ true → Timely t (act_deepest t w r).levels
        acting g =
            let n : ℕ = s.settings.deepest in
            let d : Drained s (merge_all s).state = merge_all_drained s p.0 in
            let e : r ≡ (merge_all s).state = ap (λ (x : Work S A). x.state) (full_room t w s g) in
            let levels : r.levels ≡ only n (settled d.source) = ap (λ (x : State S A). x.levels) e ∙ d.levels in
            act_timely w r n (settled d.source) (ap (λ (x : State S A). x.settings.deepest) e ∙ ap (λ (x : Settings). x.deepest) d.same) levels
            (rw (only_level n (settled d.source)) at (all_get (Stamped t) (only n (settled d.source)) n empty (rw levels at (make_room_timely w s p).1.stamps) tt))

    pub prepared_timely : (op : Op A) (s : State S A) → FormedAt s → Timely t (prepared t op s).state.levels
    unfolding prepared merge_level
    prepared_timely (written w) s p = write_timely w s p
    prepared_timely flush s p = (at_merging 0 s (at_deep s p) p).1
    prepared_timely tick s p = p.1

-- A call that is let in.
module _ {S A : Type 0} (s : State S A) (c : Call A) (e : eqb (early_refusal s.clock c) 0 ≡ true) (f : Formed s) (a : Timely s.clock s.levels) where
  prepared_at : FormedAt c.clock (prepared c.clock c.op s).state
  prepared_at =
      let clock = let_in_clock s.clock c e in
      (prepared_kept Formed c (formed_kept c) s f, prepared_timely c.clock clock.0 c.op s (f, timely_later s.clock c.clock s.levels clock.1 a))

  worked_timely : Timely c.clock (worked s c).state.levels
  unfolding worked
  worked_timely = (pass_timely c.clock (prepared c.clock c.op s) prepared_at).1

  -- If it is not out of slots it answers afterwards as its write says.
  pub worked-lookup : (k : ℕ) → out_of_slots c.clock c.op s ≡ false → lookup (worked s c).state.levels k ≡ after_op c.clock c.op (lookup s.levels) k
  unfolding worked
  worked-lookup k g =
      pass-lookup c.clock (prepared c.clock c.op s) k prepared_at.0 prepared_at.1.aged
      ∙ prepared-lookup c.clock c.op s k (let_in_clock s.clock c e).0 f a.aged g

module _ {S A : Type 0} where
  -- The levels of a store are timely at its last clock, and a call leaves them so.
  pub step_timely : (s : State S A) (c : Call A) → Formed s → Timely s.clock s.levels → Timely (step s c).state.clock (step s c).state.levels
  unfolding merge_state accepted_outcome
  step_timely s c f a = go (step s c) (step_view s c)
    where
      go : (r : Outcome S A) → StepView s c r → Timely r.state.clock r.state.levels
      go r (turned_away e) = a
      go r (refused_7 e g) = (merge_all_keeps (λ x. FormedAt x.clock x) (λ x. at_deep x.clock x) (λ i x. at_merging x.clock i x) s (f, a)).0.1
      go r (passed e g) = worked_timely s c e f a
