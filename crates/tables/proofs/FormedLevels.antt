-- What a merge, an entry and the action on level L leave of a level is formed again.
use mathlib.Core.Path.{◌≡◌, refl, sym, ap, ◌∙◌}
use mathlib.Core.Bool.{Bool, false, cond, not, true≢false}
use mathlib.Core.List.{List, [], ◌∷◌, map}
use Prim.Native.Nat.{ℕ, ◌≤◌, min}
use native.Mathlib.Omega.{arith}
use lib.Dec.{eqb, ltb}
use lib.ListN.{length, length-map}
use borrow.Author.Tests.{ltb-false, eqb-false}
use Rattle.lists.specs.Lists.{any, reject}
use Rattle.lists.specs.All.{All, Ascending}
use Rattle.lists.proofs.Bools.{cond_elim, or_false_left, or_false_right}
use Rattle.lists.proofs.Tests.{length-select, select_never, all_select, all_selected, all_weaken, all_map}
use Rattle.lists.proofs.Merges.{all_merge, merge_ascending, select_ascending, map_ascending, length-merge}
use Rattle.model.specs.Records.{Point, Range, Level, is_put, empty, held}
use Rattle.model.specs.Merge.{point_before, range_before, same_range, point_goes, range_goes, later, earlier, merged, settled, joined}
use Rattle.model.specs.Steps.{Write, put, delete, delete_range, single, overwrite}
use Rattle.model.specs.Calls.{written, bad_docket, bad_date}
use Rattle.model.proofs.Marks.{earlier_left, earlier_right}
use Rattle.model.proofs.Form.{merged_ordered, overwrite-key, overwrite_ordered}
use Rattle.tables.specs.Formed.{LevelFormed}
use Rattle.tables.proofs.Ranges.{range_trans, Beside, later_beside, staying_others, ranges_apart, later_before}

earlier_most : (a b t : ℕ) → a ≤ t → b ≤ t → earlier a b ≤ t
earlier_most a b t p q =
    cond_elim (λ x. x ≤ t) (eqb a 0) b (cond (eqb b 0) a (min a b)) (λ e. q) (λ e. cond_elim (λ x. x ≤ t) (eqb b 0) a (min a b) (λ g. p) (λ g. omega arith))

never_any : {X : Type 0} (f : X → Bool) (xs : List X) → length xs ≡ 0 → any f xs ≡ false
unfolding any
never_any f [] h = refl
never_any f (x ∷ xs) h = absurd (omega arith)

-- Where nothing goes, all stays.
all_stay : {X : Type 0} (f : X → Bool) (xs : List X) → ((x : X) → f x ≡ false) → length (reject f xs) ≡ length xs
all_stay f xs h = let q = select_never f h xs in omega (arith, length-select f xs, ap length q)

module _ {S A : Type 0} (t : ℕ) (u l : Level S A) (f : LevelFormed t u) (g : LevelFormed t l) where
  beside : (r : Range S) → Beside t r (later l.ranges r)
  beside r = later_beside t l.ranges r g.range_stamps g.range_dates

  -- What the points, and the ranges, of both levels have, those of the merged level have.
  merged-points_all : (P : Point S A → Type 0) → All P u.points → All P l.points → All P (merged u l).points
  unfolding merged
  merged-points_all P a b = all_merge point_before P u.points (reject (point_goes u) l.points) a (all_select P (λ p. not (point_goes u p)) l.points b)

  merged-ranges_all : (P : Range S → Type 0) → All (λ r. P (later l.ranges r)) u.ranges → All P l.ranges → All P (merged u l).ranges
  unfolding merged
  merged-ranges_all P a b =
      all_merge range_before P (map (later l.ranges) u.ranges) (reject (range_goes u.ranges) l.ranges)
      (all_map (later l.ranges) P u.ranges a) (all_select P (λ r. not (range_goes u.ranges r)) l.ranges b)

  merged-ranges_ascend : Ascending range_before (merged u l).ranges
  unfolding merged
  merged-ranges_ascend =
      merge_ascending range_before range_trans (map (later l.ranges) u.ranges) (reject (range_goes u.ranges) l.ranges)
      (map_ascending (later l.ranges) range_before range_before
      (λ p q. sym (later_before t l.ranges g.range_stamps g.range_dates p q)) u.ranges f.ranges_ascend)
      (select_ascending range_before _ l.ranges g.ranges_ascend)
      (ranges_apart t l.ranges g.range_stamps g.range_dates u.ranges (reject (range_goes u.ranges) l.ranges) (staying_others u.ranges l.ranges))

  -- An empty level comes of two empty ones.
  merged_empty : held (merged u l) ≡ 0 → (held u ≡ 0) × (held l ≡ 0)
  unfolding merged
  merged_empty h =
      let us : List (Range S) = map (later l.ranges) u.ranges in
      let a = length-merge point_before u.points (reject (point_goes u) l.points) in
      let b = length-merge range_before us (reject (range_goes u.ranges) l.ranges) in
      let c : length u.points ≡ 0 = omega arith in
      let d : length u.ranges ≡ 0 = omega (arith, length-map u.ranges (later l.ranges)) in
      let p = all_stay (point_goes u) l.points (λ x. rw (never_any (λ p. eqb p.key x.key) u.points c, never_any _ u.ranges d)) in
      let q = all_stay (range_goes u.ranges) l.ranges (λ x. never_any (λ r. same_range r x) u.ranges d) in
      (omega arith, omega arith)

  owed_early : (merged u l).owed ≤ t
  unfolding merged
  owed_early = earlier_most u.owed l.owed t f.owed_clock g.owed_clock

  since_left : (d : ℕ) → (1 ≤ u.owed) × (u.owed ≤ d) → (1 ≤ (merged u l).owed) × ((merged u l).owed ≤ d)
  unfolding merged
  since_left d h = let e = earlier_left u.owed l.owed d (omega (arith, h.0), h.1) in (omega (arith, e.0), e.1)

  since_right : (d : ℕ) → (1 ≤ l.owed) × (l.owed ≤ d) → (1 ≤ (merged u l).owed) × ((merged u l).owed ≤ d)
  unfolding merged
  since_right d h = let e = earlier_right u.owed l.owed d (omega (arith, h.0), h.1) in (omega (arith, e.0), e.1)

  none_owed : u.owed ≡ 0 → l.owed ≡ 0 → (merged u l).owed ≡ 0
  unfolding merged
  none_owed a b = rw (a, b)

  pub merged_formed : LevelFormed t (merged u l)
  merged_formed = record {
    keys = merged-points_all _ f.keys g.keys;
    points_ascend = merged_ordered u l f.points_ascend g.points_ascend;
    spans = merged-ranges_all (λ r. (r.lo ≤ r.hi) × (r.hi ≤ 65535))
        (all_weaken (λ r. (r.lo ≤ r.hi) × (r.hi ≤ 65535)) (λ r. ((later l.ranges r).lo ≤ (later l.ranges r).hi) × ((later l.ranges r).hi ≤ 65535))
        (λ r h. rw ((beside r).lo_same, (beside r).hi_same) h) u.ranges f.spans) g.spans;
    ranges_ascend = merged-ranges_ascend;
    point_stamps = merged-points_all _ f.point_stamps g.point_stamps;
    range_stamps = merged-ranges_all _
        (all_weaken _ _ (λ r h. (omega (arith, (beside r).no_earlier, h.0), (beside r).in_time h.1)) u.ranges f.range_stamps) g.range_stamps;
    range_dates = merged-ranges_all _ (all_weaken _ _ (λ r h. (beside r).dated h) u.ranges f.range_dates) g.range_dates;
    owed_clock = owed_early;
    owed_points = merged-points_all _
        (all_weaken _ _ (λ p h n. since_left p.stamp (h n)) u.points f.owed_points)
        (all_weaken _ _ (λ p h n. since_right p.stamp (h n)) l.points g.owed_points);
    owed_ranges = merged-ranges_all _
        (all_weaken _ _ (λ r h. since_left (later l.ranges r).stamp (h.0, omega (arith, (beside r).no_earlier, h.1))) u.ranges f.owed_ranges)
        (all_weaken _ _ (λ r h. since_right r.stamp h) l.ranges g.owed_ranges);
    owed_empty = λ h. let e = merged_empty h in none_owed (f.owed_empty e.0) (g.owed_empty e.1);
  }

-- "all deletes are then wiped and owed is 0."
pub settled_formed : {S A : Type 0} (t : ℕ) (l : Level S A) → LevelFormed t l → LevelFormed t (settled l)
unfolding settled
settled_formed t l f = record {
  keys = all_select _ (λ p. is_put p.entry) l.points f.keys;
  points_ascend = select_ascending point_before _ l.points f.points_ascend;
  spans = tt;
  ranges_ascend = tt;
  point_stamps = all_select _ (λ p. is_put p.entry) l.points f.point_stamps;
  range_stamps = tt;
  range_dates = tt;
  owed_clock = omega arith;
  owed_points = all_selected _ (λ p. is_put p.entry) (λ p h n. absurd (true≢false (sym h ∙ n))) l.points;
  owed_ranges = tt;
  owed_empty = λ h. refl;
}

pub joined_formed : {S A : Type 0} (t : ℕ) (b : Bool) (u l : Level S A) → LevelFormed t u → LevelFormed t l → LevelFormed t (joined b u l)
unfolding joined
joined_formed t b u l f g =
    cond_elim (LevelFormed t) b (settled (merged u l)) (merged u l)
    (λ e. settled_formed t (merged u l) (merged_formed t u l f g)) (λ e. merged_formed t u l f g)

pub empty_formed : {S A : Type 0} (t : ℕ) → LevelFormed {S = S} {A = A} t empty
empty_formed t = record {
  keys = tt;
  points_ascend = tt;
  spans = tt;
  ranges_ascend = tt;
  point_stamps = tt;
  range_stamps = tt;
  range_dates = tt;
  owed_clock = omega arith;
  owed_points = tt;
  owed_ranges = tt;
  owed_empty = λ h. refl;
}

-- A level of one record, of dockets that there are and with a date that is allowed.
pub single_formed : {S A : Type 0} (t : ℕ) → 1 ≤ t → (x : S) (w : Write A) → bad_docket (written w) ≡ false → bad_date t (written w) ≡ false
    → LevelFormed t (single x t w)
unfolding single
single_formed t low x (put k a) h d = record {
  keys = (ltb-false 65535 k h, tt);
  points_ascend = (tt, tt);
  spans = tt;
  ranges_ascend = tt;
  point_stamps = ((low, omega arith), tt);
  range_stamps = tt;
  range_dates = tt;
  owed_clock = omega arith;
  owed_points = ((λ n. absurd (true≢false n)), tt);
  owed_ranges = tt;
  owed_empty = λ h. refl;
}
single_formed t low x (delete k) h d = record {
  keys = (ltb-false 65535 k h, tt);
  points_ascend = (tt, tt);
  spans = tt;
  ranges_ascend = tt;
  point_stamps = ((low, omega arith), tt);
  range_stamps = tt;
  range_dates = tt;
  owed_clock = omega arith;
  owed_points = ((λ n. (low, omega arith)), tt);
  owed_ranges = tt;
  owed_empty = λ e. absurd (omega arith);
}
single_formed t low x (delete_range lo hi date) h d = record {
  keys = tt;
  points_ascend = tt;
  ranges_ascend = (tt, tt);
  point_stamps = tt;
  range_stamps = ((low, omega arith), tt);
  range_dates = ((omega (arith, eqb-false date 0 (or_false_left (eqb date 0) (ltb t date) d)), ltb-false t date (or_false_right (eqb date 0) (ltb t date) d)), tt);
  spans = ((ltb-false hi lo (or_false_right (ltb 65535 hi) (ltb hi lo) h), ltb-false 65535 hi (or_false_left (ltb 65535 hi) (ltb hi lo) h)), tt);
  owed_clock = omega arith;
  owed_points = tt;
  owed_ranges = ((low, omega arith), tt);
  owed_empty = λ e. absurd (omega arith);
}

-- A level that owes nothing, with some of its points wiped or one written over.
module _ {S A : Type 0} (t : ℕ) (l : Level S A) (f : LevelFormed t l) (z : l.owed ≡ 0) where
  pub fewer_formed : (g : Point S A → Bool) → LevelFormed t (record { points = reject g l.points; ranges = l.ranges; owed = l.owed })
  fewer_formed g = record {
    keys = all_select _ (λ p. not (g p)) l.points f.keys;
    points_ascend = select_ascending point_before _ l.points f.points_ascend;
    spans = f.spans;
    ranges_ascend = f.ranges_ascend;
    point_stamps = all_select _ (λ p. not (g p)) l.points f.point_stamps;
    range_stamps = f.range_stamps;
    range_dates = f.range_dates;
    owed_clock = f.owed_clock;
    owed_points = all_select _ (λ p. not (g p)) l.points f.owed_points;
    owed_ranges = f.owed_ranges;
    owed_empty = λ h. z;
  }

  pub written_formed : 1 ≤ t → (k : ℕ) (a : A) → LevelFormed t (record { points = map (overwrite k a t) l.points; ranges = l.ranges; owed = l.owed })
  written_formed low k a = record {
    keys = all_map (overwrite k a t) _ l.points (all_weaken _ _ (λ p h. omega (arith, overwrite-key k a t p, h)) l.points f.keys);
    points_ascend = overwrite_ordered k a t l.points f.points_ascend;
    spans = f.spans;
    ranges_ascend = f.ranges_ascend;
    point_stamps = all_map (overwrite k a t) (λ p. (1 ≤ p.stamp) × (p.stamp ≤ t)) l.points
        (all_weaken _ _
        (λ p h. cond_elim (λ (q : Point S A). (1 ≤ q.stamp) × (q.stamp ≤ t)) (eqb p.key k) _ p (λ e. (low, omega arith)) (λ e. h))
        l.points f.point_stamps);
    range_stamps = f.range_stamps;
    range_dates = f.range_dates;
    owed_clock = f.owed_clock;
    owed_points = all_map (overwrite k a t) (λ p. is_put p.entry ≡ false → (1 ≤ l.owed) × (l.owed ≤ p.stamp)) l.points
        (all_weaken _ _
        (λ p h. cond_elim (λ (q : Point S A). is_put q.entry ≡ false → (1 ≤ l.owed) × (l.owed ≤ q.stamp)) (eqb p.key k) _ p
        (λ e n. absurd (true≢false n)) (λ e. h))
        l.points f.owed_points);
    owed_ranges = f.owed_ranges;
    owed_empty = λ h. z;
  }
