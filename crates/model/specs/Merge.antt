-- Document 01, "Steps": the merge of a level u into the level l below it.
use Rattle.std.specs.Prelude.{Bool, cond, ◌&&◌, ◌||◌, ℕ, min, max, ltb, eqb}
use mathlib.Core.List.{List, [], ◌∷◌, ◌++◌, map, reverse_aux}
use Rattle.lists.specs.Lists.{any, select, reject, merge}
use Rattle.model.specs.Records.{Point, Range, Level, is_put}
use Rattle.model.specs.Coverage.{covers}

module _ {S : Type 0} where
  -- A range covers a record of docket k with a stamp; some range of a level does.
  abbrev pub range_covers : Range S → ℕ → ℕ → Bool
  range_covers r k stamp = covers r.lo r.hi r.date k stamp

  abbrev pub covered : List (Range S) → ℕ → ℕ → Bool
  covered rs k stamp = any (λ r. range_covers r k stamp) rs

  -- "ranges ascend strictly by lo, then hi"
  abbrev pub range_before : Range S → Range S → Bool
  range_before r q = ltb r.lo q.lo || (eqb r.lo q.lo && ltb r.hi q.hi)

  abbrev pub range_slots : List (Range S) → List S
  range_slots rs = map (λ (r : Range S). r.slot) rs

module _ {S A : Type 0} where
  abbrev pub names : List (Point S A) → ℕ → Bool
  names ps k = any (λ p. eqb p.key k) ps

  -- "Points of a level ascend strictly by docket"
  abbrev pub point_before : Point S A → Point S A → Bool
  point_before p q = ltb p.key q.key

  abbrev pub point_slots : List (Point S A) → List S
  point_slots ps = map (λ (p : Point S A). p.slot) ps

module _ {R S : Type 0} where
  abbrev pub same_range : Range R → Range S → Bool
  same_range r q = eqb r.lo q.lo && eqb r.hi q.hi

  -- "of two with the same lo and hi one remains": the lower one goes.
  abbrev pub range_goes : List (Range R) → Range S → Bool
  range_goes rs q = any (λ r. same_range r q) rs

module _ {R S A B : Type 0} where
  -- "A point of i+1 goes if i has a point of that docket or a range over it", which covers by stamp too. The ranges are those of i as they were.
  abbrev pub point_goes : Level R A → Point S B → Bool
  point_goes u p = names u.points p.key || covered u.ranges p.key p.stamp

  -- The slots of what goes, in the order in which it goes.
  abbrev pub gone : Level R A → Level S B → List S
  gone u l =
      point_slots (select (point_goes u) l.points)
      ++ range_slots (select (range_goes u.ranges) l.ranges)

module _ {S : Type 0} where
  -- "Of two ranges with equal lo and hi the one left keeps the later s and the later stamp."
  abbrev pub united : Range S → Range S → Range S
  united r q = record { slot = r.slot; lo = r.lo; hi = r.hi; date = max r.date q.date; stamp = max r.stamp q.stamp }

  -- A range, seen beside the ranges below it.
  unfoldable pub later : List (Range S) → Range S → Range S
  later [] r = r
  later (q ∷ qs) r = later qs (cond (same_range q r) (united r q) r)

  -- "put on the free chain, to be used again": the last to go is the first to be used
  abbrev pub release : List S → List S → List S
  release slots free = reverse_aux slots free

-- "Owed becomes the earlier nonzero one."
abbrev pub earlier : ℕ → ℕ → ℕ
earlier a b = cond (eqb a 0) b (cond (eqb b 0) a (min a b))

module _ {S A : Type 0} where
  -- "The points of i join. Ranges are united."
  unfoldable pub merged : Level S A → Level S A → Level S A
  merged u l = record {
    points = merge point_before u.points (reject (point_goes u) l.points);
    ranges = merge range_before (map (later l.ranges) u.ranges) (reject (range_goes u.ranges) l.ranges);
    owed = earlier u.owed l.owed;
  }

  -- "If i+1 = L, all deletes are then wiped and owed is 0."
  unfoldable pub settled : Level S A → Level S A
  settled l = record { points = select (λ p. is_put p.entry) l.points; ranges = []; owed = 0 }

  -- The slots of the deletes that are then wiped.
  abbrev pub delete_slots : Level S A → List S
  delete_slots l = point_slots (reject (λ p. is_put p.entry) l.points) ++ range_slots l.ranges

  -- The level that the merge leaves at i+1.
  unfoldable pub joined : Bool → Level S A → Level S A → Level S A
  joined deepest u l = cond deepest (settled (merged u l)) (merged u l)

  -- The slots that it frees, in the order in which they are freed.
  unfoldable pub freed : Bool → Level S A → Level S A → List S
  freed deepest u l = cond deepest (gone u l ++ delete_slots (merged u l)) (gone u l)
