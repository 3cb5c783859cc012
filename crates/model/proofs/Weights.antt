-- No slot is lost: whatever a slot weighs, every part of a call keeps the weight of the free slots and the records together.
use mathlib.Core.Path.{◌≡◌, refl, ap, ◌∙◌}
use mathlib.Core.Bool.{cond, Bool, true, false, true≢false}
use mathlib.Core.List.{List, [], ◌∷◌, map}
use Prim.Native.Nat.{ℕ, suc, ◌+◌, ◌<◌}
use native.Mathlib.Omega.{arith}
use lib.Dec.{eqb}
use lib.ListN.{length, set, length-set}
use lib.Seq.{get_or-set_other}
use Rattle.lists.specs.Lists.{none, any, select, reject, sum}
use Rattle.lists.proofs.Bools.{cond_elim}
use Rattle.lists.proofs.Counting.{sum-set, sum_append, sum_reverse, sum-select, sum-merge, sum-map, sum_same}
use Rattle.model.specs.Records.{Point, Range, Level, State, is_put, empty, level}
use Rattle.model.specs.Merge.{range_before, range_slots, point_before, point_slots, same_range, range_goes, point_goes}
use Rattle.model.specs.Merge.{gone, united, later, release, merged, settled, delete_slots, joined, freed}
use Rattle.model.specs.Steps.{Write, put, delete, delete_range, single, unplaced, merge_state, displaced, enter_at, enter, overwrite, set_points, wipe, act_deepest}

-- The weight of points, of ranges and of a level, by their slots.
module _ {S : Type 0} (g : S → ℕ) where
  abbrev pub weigh_points : {A : Type 0} → List (Point S A) → ℕ
  weigh_points ps = sum (λ p. g p.slot) ps

  abbrev pub weigh_ranges : List (Range S) → ℕ
  weigh_ranges rs = sum (λ r. g r.slot) rs

  abbrev pub weigh_level : {A : Type 0} → Level S A → ℕ
  weigh_level l = weigh_points l.points + weigh_ranges l.ranges

  -- The weight of a state: its free slots and its records.
  abbrev pub weight : {A : Type 0} → State S A → ℕ
  weight s = sum g s.free + sum weigh_level s.levels

module _ {S A : Type 0} where
  -- What the entry of a write makes go does not hang on the slot that it takes.
  pub gone-single : (x : S) (t : ℕ) (w : Write A) (l : Level S A) → gone (single x t w) l ≡ gone (unplaced t w) l
  unfolding single any
  gone-single x t (put k a) l = refl
  gone-single x t (delete k) l = refl
  gone-single x t (delete_range lo hi date) l = refl

module _ {S : Type 0} (g : S → ℕ) where
  later-slot : (qs : List (Range S)) (r : Range S) → (later qs r).slot ≡ r.slot
  unfolding later
  later-slot [] r = refl
  later-slot (q ∷ qs) r =
      later-slot qs (cond (same_range q r) (united r q) r)
      ∙ cond_elim (λ (x : Range S). x.slot ≡ r.slot) (same_range q r) (united r q) r (λ e. refl) (λ e. refl)

  weigh_later : (qs rs : List (Range S)) → weigh_ranges g (map (later qs) rs) ≡ weigh_ranges g rs
  weigh_later qs rs = sum-map (λ r. g r.slot) (later qs) rs ∙ sum_same _ _ (λ r. ap g (later-slot qs r)) rs

  module _ {A : Type 0} where
    weigh_merged : (u l : Level S A) → weigh_level g (merged u l) + sum g (gone u l) ≡ weigh_level g u + weigh_level g l
    unfolding merged
    weigh_merged u l = omega (
      arith,
      sum-merge (λ p. g p.slot) point_before u.points (reject (point_goes u) l.points),
      sum-merge (λ r. g r.slot) range_before (map (later l.ranges) u.ranges) (reject (range_goes u.ranges) l.ranges),
      weigh_later l.ranges u.ranges,
      sum_append g (point_slots (select (point_goes u) l.points)) (range_slots (select (range_goes u.ranges) l.ranges)),
      sum-map g (λ (p : Point S A). p.slot) (select (point_goes u) l.points),
      sum-map g (λ (r : Range S). r.slot) (select (range_goes u.ranges) l.ranges),
      sum-select (λ p. g p.slot) (point_goes u) l.points,
      sum-select (λ r. g r.slot) (range_goes u.ranges) l.ranges,
    )

    weigh_settled : (l : Level S A) → weigh_level g (settled l) + sum g (delete_slots l) ≡ weigh_level g l
    unfolding settled sum
    weigh_settled l = omega (
      arith,
      sum_append g (point_slots (reject (λ p. is_put p.entry) l.points)) (range_slots l.ranges),
      sum-map g (λ (p : Point S A). p.slot) (reject (λ p. is_put p.entry) l.points),
      sum-map g (λ (r : Range S). r.slot) l.ranges,
      sum-select (λ p. g p.slot) (λ p. is_put p.entry) l.points,
    )

    pub weigh_joined : (b : Bool) (u l : Level S A) → weigh_level g (joined b u l) + sum g (freed b u l) ≡ weigh_level g u + weigh_level g l
    unfolding joined freed
    weigh_joined true u l = omega (arith, sum_append g (gone u l) (delete_slots (merged u l)), weigh_merged u l, weigh_settled (merged u l))
    weigh_joined false u l = weigh_merged u l

    weigh_single : (x : S) (t : ℕ) (w : Write A) → weigh_level g (single x t w) ≡ g x
    unfolding single sum
    weigh_single x t (put k a) = omega arith
    weigh_single x t (delete k) = omega arith
    weigh_single x t (delete_range lo hi date) = omega arith

    weigh_empty : (l : Level S A) → l ≡ empty → weigh_level g l ≡ 0
    unfolding sum
    weigh_empty l e = rw e

    pub merge_weight : (i : ℕ) (s : State S A) → suc i < length s.levels → weight g (merge_state i s) ≡ weight g s
    unfolding merge_state
    merge_weight i s h =
        let b : Bool = eqb (suc i) s.settings.deepest in
        let v : Level S A = joined b (level i s) (level (suc i) s) in
        omega (
          arith,
          sum-set (weigh_level g) s.levels i empty empty (omega arith),
          weigh_empty empty refl,
          sum-set (weigh_level g) (set s.levels i empty) (suc i) v empty (omega (arith, length-set s.levels i empty)),
          ap (weigh_level g) (get_or-set_other s.levels i (suc i) empty empty (omega arith)),
          weigh_joined b (level i s) (level (suc i) s),
          sum_reverse g (freed b (level i s) (level (suc i) s)) s.free,
        )

    enter_at-weight : (t : ℕ) (w : Write A) (s : State S A) (free : List S) → 0 < length s.levels → none free ≡ false
        → sum g free ≡ sum g (displaced t w s) + sum g s.free → weight g (enter_at t w s free) ≡ weight g s
    unfolding enter_at sum
    enter_at-weight t w s [] p h e = absurd (true≢false h)
    enter_at-weight t w s (x ∷ free) p h e =
        omega (
          arith,
          sum-set (weigh_level g) s.levels 0 (merged (single x t w) (level 0 s)) empty p,
          weigh_merged (single x t w) (level 0 s),
          ap (sum g) (gone-single x t w (level 0 s)),
          weigh_single x t w,
        )

    pub enter-weight : (t : ℕ) (w : Write A) (s : State S A) → 0 < length s.levels → none (release (displaced t w s) s.free) ≡ false → weight g (enter t w s) ≡ weight g s
    unfolding enter
    enter-weight t w s p h = enter_at-weight t w s (release (displaced t w s) s.free) p h (sum_reverse g (displaced t w s) s.free)

    set_points-weight : (i : ℕ) (ps : List (Point S A)) (s : State S A) (free : List S) → i < length s.levels
        → weigh_points g ps + sum g free ≡ weigh_points g (level i s).points + sum g s.free → weight g (set_points i ps s free) ≡ weight g s
    unfolding set_points
    set_points-weight i ps s free h e =
        omega (arith, sum-set (weigh_level g) s.levels i (record { points = ps; ranges = (level i s).ranges; owed = (level i s).owed }) empty h)

    wipe-weight : (u : Level (Unit {0}) A) (i : ℕ) (s : State S A) → i < length s.levels → weight g (wipe u i s) ≡ weight g s
    unfolding wipe
    wipe-weight u i s h =
        let ps : List (Point S A) = (level i s).points in
        set_points-weight i (reject (point_goes u) ps) s (release (point_slots (select (point_goes u) ps)) s.free) h
        (omega (
          arith,
          sum-select (λ p. g p.slot) (point_goes u) ps,
          sum-map g (λ (p : Point S A). p.slot) (select (point_goes u) ps),
          sum_reverse g (point_slots (select (point_goes u) ps)) s.free,
        ))

    overwrite-slot : (k : ℕ) (a : A) (t : ℕ) (p : Point S A) → (overwrite k a t p).slot ≡ p.slot
    overwrite-slot k a t p = cond_elim (λ (q : Point S A). q.slot ≡ p.slot) (eqb p.key k) _ p (λ e. refl) (λ e. refl)

    pub act_weight : (t : ℕ) (w : Write A) (s : State S A) → s.settings.deepest < length s.levels → weight g (act_deepest t w s) ≡ weight g s
    unfolding act_deepest
    act_weight t (put k a) s h =
        let ps : List (Point S A) = (level s.settings.deepest s).points in
        set_points-weight s.settings.deepest (map (overwrite k a t) ps) s s.free h
        (ap (λ n. n + sum g s.free) (sum-map (λ p. g p.slot) (overwrite k a t) ps ∙ sum_same _ _ (λ p. ap g (overwrite-slot k a t p)) ps))
    act_weight t (delete k) s h = wipe-weight (unplaced t (delete k)) s.settings.deepest s h
    act_weight t (delete_range lo hi date) s h = wipe-weight (unplaced t (delete_range lo hi date)) s.settings.deepest s h
