-- Every call keeps a formed state formed: what it leaves, sound tables can hold.
use mathlib.Core.Path.{◌≡◌, refl, sym, ap, ◌∙◌}
use mathlib.Core.Bool.{true, false, cond}
use mathlib.Core.List.{List, [], ◌∷◌, ◌++◌, map}
use Prim.Native.Nat.{ℕ, suc, ◌+◌, ◌<◌, ◌≤◌}
use native.Mathlib.Omega.{arith}
use native.Mathlib.Decide.{ℕ_discrete}
use lib.Dec.{eqb, ltb}
use lib.ListN.{length, get_or, set, length-set}
use lib.Seq.{get_or-set_same, get_or-set_other}
use borrow.Author.Tests.{eq-eqb, eqb-false, ltb-false}
use Rattle.settings.specs.Limits.{allowed}
use Rattle.settings.proofs.Allowed.{allowed_bounds}
use Rattle.lists.specs.Lists.{none, sum}
use Rattle.lists.specs.All.{All}
use Rattle.lists.proofs.Bools.{or_false_left, or_false_right}
use Rattle.lists.proofs.Tests.{all_set, all_get, all_weaken}
use Rattle.lists.proofs.Counting.{sum_append, sum-map, sum_ones, count-sum}
use Rattle.model.specs.declared.Tally.{Tally}
use Rattle.model.specs.Records.{Point, Level, State, empty, level}
use Rattle.model.specs.Merge.{point_slots, range_slots, release, merged, settled, joined, point_goes}
use Rattle.model.specs.Steps.{Write, put, delete, delete_range, single, unplaced, merge_state, merge_all, displaced, enter_at, enter, overwrite, set_points, wipe, act_deepest}
use Rattle.model.specs.Calls.{Call, Outcome, written, bad_docket, bad_clock, bad_date, timed, step, run}
use Rattle.model.proofs.Keeps.{Kept, merge_all_keeps, step_keeps}
use Rattle.model.proofs.StepView.{let_in_docket, let_in_time, let_in_date, StepView, turned_away, refused_7, passed, step_view, accepted_clock}
use Rattle.model.proofs.Weights.{weigh_level, weight, merge_weight, enter-weight, act_weight}
use Rattle.tables.specs.Sound.{every_slot_once}
use Rattle.tables.specs.Formed.{LevelFormed, levels_slots, Formed}
use Rattle.tables.proofs.Once.{once_facts, facts_once}
use Rattle.tables.proofs.FormedLevels.{merged_formed, joined_formed, empty_formed, single_formed, fewer_formed, written_formed}

-- The weight of a state is that of all its slots, one after the other.
levels_weight : (g : ℕ → ℕ) (ls : List (Level ℕ Tally)) → sum g (levels_slots ls) ≡ sum (weigh_level g) ls
unfolding sum
levels_weight g [] = refl
levels_weight g (l ∷ ls) = omega (
  arith,
  sum_append g (point_slots l.points ++ range_slots l.ranges) (levels_slots ls),
  sum_append g (point_slots l.points) (range_slots l.ranges),
  sum-map g (λ (p : Point ℕ Tally). p.slot) l.points,
  sum-map g (λ r. r.slot) l.ranges,
  levels_weight g ls,
)

slots-weight : (g : ℕ → ℕ) (p : State ℕ Tally) → sum g (p.free ++ levels_slots p.levels) ≡ weight g p
slots-weight g p = sum_append g p.free (levels_slots p.levels) ∙ ap (λ k. sum g p.free + k) (levels_weight g p.levels)

-- States that weigh the same, whatever a slot weighs, have the same slots.
same_once : (n : ℕ) (p q : State ℕ Tally) → ((g : ℕ → ℕ) → weight g q ≡ weight g p)
    → every_slot_once n (p.free ++ levels_slots p.levels) ≡ true → every_slot_once n (q.free ++ levels_slots q.levels) ≡ true
same_once n p q same h =
    let ss : List ℕ = p.free ++ levels_slots p.levels in
    let rs : List ℕ = q.free ++ levels_slots q.levels in
    let o = once_facts n ss h in
    let moved : (g : ℕ → ℕ) → sum g rs ≡ sum g ss = λ g. slots-weight g q ∙ same g ∙ sym (slots-weight g p) in
    facts_once n rs (record {
      number = sym (sum_ones rs) ∙ moved (λ x. 1) ∙ sum_ones ss ∙ o.number;
      each = λ s a b. count-sum (eqb s) rs ∙ moved (λ x. cond (eqb s x) 1 0) ∙ sym (count-sum (eqb s) ss) ∙ o.each s a b;
    })

-- What every part of a call at clock t keeps, beside the slots of p₀.
pub record At (t : ℕ) (p₀ p : State ℕ Tally) : Type 0 where
  pub settings_ok : allowed p.settings ≡ true
  pub size : length p.levels ≡ suc p.settings.deepest
  pub levels_ok : All (LevelFormed t) p.levels
  pub owes_nothing : (level p.settings.deepest p).owed ≡ 0
  pub slots : (g : ℕ → ℕ) → weight g p ≡ weight g p₀

module _ (t : ℕ) (p₀ : State ℕ Tally) where
  level_at : (i : ℕ) (p : State ℕ Tally) → At t p₀ p → LevelFormed t (level i p)
  level_at i p a = all_get (LevelFormed t) p.levels i empty a.levels_ok (empty_formed t)

  deep_at : (p : State ℕ Tally) → At t p₀ p → 2 ≤ p.settings.deepest
  deep_at p a = (allowed_bounds p.settings a.settings_ok).deepest_low

  joined_owes : (u l : Level ℕ Tally) → (joined true u l).owed ≡ 0
  unfolding joined settled
  joined_owes u l = refl

  pub merge_at : (i : ℕ) (p : State ℕ Tally) → i < p.settings.deepest → At t p₀ p → At t p₀ (merge_state i p)
  unfolding merge_state
  merge_at i p h a = record {
    settings_ok = a.settings_ok;
    size = length-set (set p.levels i empty) (suc i) v ∙ length-set p.levels i empty ∙ a.size;
    levels_ok = all_set (LevelFormed t) (set p.levels i empty) (suc i) v (all_set (LevelFormed t) p.levels i empty a.levels_ok (empty_formed t))
        (joined_formed t (eqb (suc i) p.settings.deepest) (level i p) (level (suc i) p) (level_at i p a) (level_at (suc i) p a));
    owes_nothing = owes (ℕ_discrete (suc i) p.settings.deepest);
    slots = λ g. merge_weight g i p (omega (arith, a.size)) ∙ a.slots g;
  }
    where
      v : Level ℕ Tally
      v = joined (eqb (suc i) p.settings.deepest) (level i p) (level (suc i) p)

      owes : Dec (suc i ≡ p.settings.deepest) → (get_or (set (set p.levels i empty) (suc i) v) p.settings.deepest empty).owed ≡ 0
      owes (yes q) =
          ap (λ k. (get_or (set (set p.levels i empty) (suc i) v) k empty).owed) (sym q)
          ∙ ap (λ (x : Level ℕ Tally). x.owed) (get_or-set_same (set p.levels i empty) (suc i) v empty (omega (arith, length-set p.levels i empty, a.size)))
          ∙ ap (λ b. (joined b (level i p) (level (suc i) p)).owed) (eq-eqb (suc i) p.settings.deepest q) ∙ joined_owes (level i p) (level (suc i) p)
      owes (no q) =
          ap (λ (x : Level ℕ Tally). x.owed)
          (get_or-set_other (set p.levels i empty) (suc i) p.settings.deepest v empty (λ e. q (sym e))
          ∙ get_or-set_other p.levels i p.settings.deepest empty empty (omega arith))
          ∙ a.owes_nothing

  module _ (low : 1 ≤ t) where
    enter_at_at : (w : Write Tally) (p : State ℕ Tally) (free : List ℕ) → bad_docket (written w) ≡ false → bad_date t (written w) ≡ false
        → ((g : ℕ → ℕ) → weight g (enter_at t w p free) ≡ weight g p)
        → At t p₀ p → At t p₀ (enter_at t w p free)
    unfolding enter_at
    enter_at_at w p [] ok day same a = a
    enter_at_at w p (x ∷ free) ok day same a = record {
      settings_ok = a.settings_ok;
      size = length-set p.levels 0 (merged (single x t w) (level 0 p)) ∙ a.size;
      levels_ok = all_set (LevelFormed t) p.levels 0 (merged (single x t w) (level 0 p)) a.levels_ok
          (merged_formed t (single x t w) (level 0 p) (single_formed t low x w ok day) (level_at 0 p a));
      owes_nothing =
          ap (λ (y : Level ℕ Tally). y.owed)
          (get_or-set_other p.levels 0 p.settings.deepest (merged (single x t w) (level 0 p)) empty (omega (arith, deep_at p a)))
          ∙ a.owes_nothing;
      slots = λ g. same g ∙ a.slots g;
    }

    pub entered_at : (w : Write Tally) (p : State ℕ Tally) → bad_docket (written w) ≡ false → bad_date t (written w) ≡ false → none (release (displaced t w p) p.free) ≡ false → At t p₀ p
        → At t p₀ (enter t w p)
    unfolding enter
    entered_at w p ok day room a = enter_at_at w p (release (displaced t w p) p.free) ok day (λ g. enter-weight g t w p (omega (arith, a.size)) room) a

    set_points_at : (ps : List (Point ℕ Tally)) (p : State ℕ Tally) (free : List ℕ)
        → LevelFormed t (record { points = ps; ranges = (level p.settings.deepest p).ranges; owed = (level p.settings.deepest p).owed })
        → ((g : ℕ → ℕ) → weight g (set_points p.settings.deepest ps p free) ≡ weight g p) → At t p₀ p
        → At t p₀ (set_points p.settings.deepest ps p free)
    unfolding set_points
    set_points_at ps p free f same a = record {
      settings_ok = a.settings_ok;
      size = length-set p.levels p.settings.deepest v ∙ a.size;
      levels_ok = all_set (LevelFormed t) p.levels p.settings.deepest v a.levels_ok f;
      owes_nothing =
          ap (λ (y : Level ℕ Tally). y.owed) (get_or-set_same p.levels p.settings.deepest v empty (omega (arith, a.size))) ∙ a.owes_nothing;
      slots = λ g. same g ∙ a.slots g;
    }
      where
        v : Level ℕ Tally
        v = record { points = ps; ranges = (level p.settings.deepest p).ranges; owed = (level p.settings.deepest p).owed }

    pub acted_at : (w : Write Tally) (p : State ℕ Tally) → At t p₀ p → At t p₀ (act_deepest t w p)
    unfolding act_deepest wipe
    acted_at (put k v) p a =
        set_points_at (map (overwrite k v t) (level p.settings.deepest p).points) p p.free
        (written_formed t (level p.settings.deepest p) (level_at p.settings.deepest p a) a.owes_nothing low k v)
        (λ g. act_weight g t (put k v) p (omega (arith, a.size))) a
    acted_at (delete k) p a =
        let deepest = p.settings.deepest in
        set_points_at _ p _ (fewer_formed t (level deepest p) (level_at deepest p a) a.owes_nothing (point_goes (unplaced t (delete k))))
        (λ g. act_weight g t (delete k) p (omega (arith, a.size))) a
    acted_at (delete_range lo hi date) p a =
        let deepest = p.settings.deepest in
        set_points_at _ p _ (fewer_formed t (level deepest p) (level_at deepest p a) a.owes_nothing (point_goes (unplaced t (delete_range lo hi date))))
        (λ g. act_weight g t (delete_range lo hi date) p (omega (arith, a.size))) a

pub at_kept : (p₀ : State ℕ Tally) (c : Call Tally) → 1 ≤ c.clock → bad_docket c.op ≡ false → bad_date c.clock c.op ≡ false → Kept (At c.clock p₀) c
at_kept p₀ c low ok day = record {
  deep = λ p a. omega (arith, deep_at c.clock p₀ p a);
  merging = λ i p h a. merge_at c.clock p₀ i p h a;
  entering = λ w p e room a. entered_at c.clock p₀ low w p (ap bad_docket (sym e) ∙ ok) (ap (bad_date c.clock) (sym e) ∙ day) room a;
  acting = λ w p e a. acted_at c.clock p₀ low w p a;
  timing = λ p a. record { settings_ok = a.settings_ok; size = a.size; levels_ok = a.levels_ok; owes_nothing = a.owes_nothing; slots = a.slots };
}

-- A formed state is one at its own clock, and at any later one.
pub later_formed : (t t' : ℕ) (l : Level ℕ Tally) → t ≤ t' → LevelFormed t l → LevelFormed t' l
later_formed t t' l h f = record {
  keys = f.keys;
  points_ascend = f.points_ascend;
  spans = f.spans;
  ranges_ascend = f.ranges_ascend;
  point_stamps = all_weaken _ _ (λ p s. (s.0, omega (arith, s.1))) l.points f.point_stamps;
  range_stamps = all_weaken _ _ (λ r s. (s.0, omega (arith, s.1))) l.ranges f.range_stamps;
  range_dates = f.range_dates;
  owed_clock = omega (arith, f.owed_clock);
  owed_points = f.owed_points;
  owed_ranges = f.owed_ranges;
  owed_empty = f.owed_empty;
}

pub formed_at : (n t : ℕ) (p : State ℕ Tally) → p.clock ≤ t → Formed n p → At t p p
formed_at n t p h f = record {
  settings_ok = f.settings_ok;
  size = f.size;
  levels_ok = all_weaken (LevelFormed p.clock) (LevelFormed t) (λ l g. later_formed p.clock t l h g) p.levels f.levels_ok;
  owes_nothing = f.deepest_owes_nothing;
  slots = λ g. refl;
}

pub at_formed : (n t : ℕ) (p q : State ℕ Tally) → Formed n p → At t p q → q.clock ≡ t → Formed n q
at_formed n t p q f a e = record {
  few = f.few;
  many = f.many;
  settings_ok = a.settings_ok;
  size = a.size;
  levels_ok = rw e a.levels_ok;
  deepest_owes_nothing = a.owes_nothing;
  slots_once = same_once n p q a.slots f.slots_once;
}

pub merge_clock : (i : ℕ) (p : State ℕ Tally) → (merge_state i p).clock ≡ p.clock
unfolding merge_state
merge_clock i p = refl

-- At a later clock it is formed as well.
pub timed_formed : (n t : ℕ) (p : State ℕ Tally) → p.clock ≤ t → Formed n p → Formed n (timed t p)
timed_formed n t p h f = at_formed n t p (timed t p) f later refl
  where
    a : At t p p
    a = formed_at n t p h f

    later : At t p (timed t p)
    later = record { settings_ok = a.settings_ok; size = a.size; levels_ok = a.levels_ok; owes_nothing = a.owes_nothing; slots = a.slots }

-- Merged into level L, at the clock that it had.
pub merge_all_formed : (n : ℕ) (p : State ℕ Tally) → Formed n p → Formed n (merge_all p).state
merge_all_formed n p f =
    let kept = (merge_all_keeps (λ q. At p.clock p q × (q.clock ≡ p.clock))
    (λ q a. omega (arith, deep_at p.clock p q a.0))
    (λ i q h a. (merge_at p.clock p i q h a.0, merge_clock i q ∙ a.1)) p (formed_at n p.clock p (omega arith) f, refl)).0 in
    at_formed n p.clock p (merge_all p).state f kept.0 kept.1

-- Every call, refused or not.
pub step_formed : (n : ℕ) (p : State ℕ Tally) (c : Call Tally) → Formed n p → Formed n (step p c).state
step_formed n p c f = go (step p c) refl (step_view p c)
  where
    go : (r : Outcome ℕ Tally) → step p c ≡ r → StepView p c r → Formed n r.state
    go r e (turned_away a) = f
    go r e (refused_7 a o) = merge_all_formed n p f
    go r e (passed a o) =
        let b = let_in_time p.clock c a in
        at_formed n c.clock p r.state f
        (rw e at (step_keeps (At c.clock p) c (at_kept p c (timed_from_1 b) (let_in_docket p.clock c a) (let_in_date p.clock c a)) p (formed_at n c.clock p (not_earlier b) f)))
        (accepted_clock p c)
      where
        timed_from_1 : bad_clock c.clock p.clock ≡ false → 1 ≤ c.clock
        timed_from_1 h = let ne = eqb-false c.clock 0 (or_false_left (eqb c.clock 0) (ltb c.clock p.clock) h) in omega arith

        not_earlier : bad_clock c.clock p.clock ≡ false → p.clock ≤ c.clock
        not_earlier h = ltb-false c.clock p.clock (or_false_right (eqb c.clock 0) (ltb c.clock p.clock) h)

pub run_formed : (n : ℕ) (p : State ℕ Tally) (cs : List (Call Tally)) → Formed n p → Formed n (run p cs)
unfolding run
run_formed n p [] f = f
run_formed n p (c ∷ cs) f = run_formed n (step p c).state cs (step_formed n p c f)
