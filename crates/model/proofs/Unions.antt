-- Ranges united: a merge covers a docket and a stamp where either level does.
use mathlib.Core.Path.{◌≡◌, refl, sym, ap, ◌∙◌}
use mathlib.Core.Bool.{Bool, true, false, cond, ◌&&◌, ◌||◌, false≢true}
use mathlib.Core.List.{List, [], ◌∷◌, map}
use Prim.Native.Nat.{ℕ, max, ◌≤◌}
use native.Mathlib.Omega.{arith}
use lib.Dec.{leb, eqb}
use borrow.Author.Tests.{eqb-true, eq-eqb, leb-true, leb-false, le-leb, lt-leb}
use Rattle.lists.specs.Lists.{any, select, reject}
use Rattle.lists.proofs.Bools.{cond_elim, by_cases, bool_ext, and_left, and_right, and_intro, or_left, or_right, or_second}
use Rattle.lists.proofs.Merges.{any-merge}
use Rattle.model.specs.Records.{Range, Level}
use Rattle.model.specs.Coverage.{over, covers}
use Rattle.model.specs.Lookup.{latest}
use Rattle.model.specs.Merge.{range_covers, covered, range_before, same_range, range_goes, united, later, merged}
use Rattle.model.proofs.Coverage.{covers-true, covers_parts}

-- A stamp at or below the later of two dates is at or below one of them.
pub leb-max : (t a b : ℕ) → leb t (max a b) ≡ leb t a || leb t b
leb-max t a b = bool_ext (leb t (max a b)) (leb t a || leb t b)
    (λ h. by_cases (leb t a) (λ y. or_left (leb t a) (leb t b) y)
    (λ n. or_right (leb t a) (leb t b) (le-leb t b (omega (arith, leb-true t (max a b) h, leb-false t a n)))))
    (λ h. by_cases (leb t a) (λ y. le-leb t (max a b) (omega (arith, leb-true t a y)))
    (λ n. le-leb t (max a b) (omega (arith, leb-true t b (or_second (leb t a) (leb t b) h n)))))

module _ {S : Type 0} where
  same_ends : (q r : Range S) → same_range q r ≡ true → (q.lo ≡ r.lo) × (q.hi ≡ r.hi)
  same_ends q r h = (
    eqb-true q.lo r.lo (and_left (eqb q.lo r.lo) (eqb q.hi r.hi) h),
    eqb-true q.hi r.hi (and_right (eqb q.lo r.lo) (eqb q.hi r.hi) h),
  )

  same_turned : (q r : Range S) → same_range q r ≡ true → same_range r q ≡ true
  same_turned q r h =
      let ends = same_ends q r h in
      and_intro (eqb r.lo q.lo) (eqb r.hi q.hi) (eq-eqb r.lo q.lo (sym ends.0)) (eq-eqb r.hi q.hi (sym ends.1))

  module _ (k t : ℕ) where
    -- Of two alike the one left covers what either covers, and no more.
    united_upper : (r q : Range S) → range_covers r k t ≡ true → range_covers (united r q) k t ≡ true
    united_upper r q h =
        let parts = covers_parts r.lo r.hi r.date k t h in
        covers-true r.lo r.hi (max r.date q.date) k t parts.0 (omega (arith, parts.1))

    united_lower : (r q : Range S) → same_range q r ≡ true → range_covers q k t ≡ true → range_covers (united r q) k t ≡ true
    united_lower r q e h =
        let parts = covers_parts q.lo q.hi q.date k t h in
        let ends = same_ends q r e in
        covers-true r.lo r.hi (max r.date q.date) k t (rw (ends.0, ends.1) at parts.0) (omega (arith, parts.1))

    united_back : (r q : Range S) → same_range q r ≡ true → range_covers (united r q) k t ≡ true → range_covers r k t || range_covers q k t ≡ true
    united_back r q e h =
        let parts = covers_parts r.lo r.hi (max r.date q.date) k t h in
        let ends = same_ends q r e in
        by_cases (leb t r.date)
        (λ y. or_left (range_covers r k t) (range_covers q k t) (covers-true r.lo r.hi r.date k t parts.0 (leb-true t r.date y)))
        (λ n. or_right (range_covers r k t) (range_covers q k t)
        (covers-true q.lo q.hi q.date k t (rw (ends.0, ends.1) parts.0) (omega (arith, parts.1, leb-false t r.date n))))

    -- Seen beside what lies below, a range covers what it covered.
    later_upper : (qs : List (Range S)) (r : Range S) → range_covers r k t ≡ true → range_covers (later qs r) k t ≡ true
    unfolding later
    later_upper [] r h = h
    later_upper (q ∷ qs) r h =
        later_upper qs (cond (same_range q r) (united r q) r)
        (cond_elim (λ x. range_covers x k t ≡ true) (same_range q r) (united r q) r (λ e. united_upper r q h) (λ e. h))

    -- And what those alike cover.
    abbrev alike_covers : Range S → Range S → Bool
    alike_covers r q = same_range q r && range_covers q k t

    later_lower : (qs : List (Range S)) (r : Range S) → any (alike_covers r) qs ≡ true → range_covers (later qs r) k t ≡ true
    unfolding later any
    later_lower [] r h = absurd (false≢true h)
    later_lower (q ∷ qs) r h = by_cases (same_range q r)
        (λ e. by_cases (range_covers q k t)
        (λ c. rw (later, e) (later_upper qs (united r q) (united_lower r q e c)))
        (λ c. rw (later, e) (later_lower qs (united r q) (rw (e, c) at h))))
        (λ e. rw (later, e) (later_lower qs r (rw e at h)))

    -- It covers no more than these.
    later_back : (qs : List (Range S)) (r : Range S) → range_covers (later qs r) k t ≡ true → range_covers r k t || covered qs k t ≡ true
    unfolding later any
    later_back [] r h = or_left (range_covers r k t) false h
    later_back (q ∷ qs) r h = by_cases (same_range q r)
        (λ e. alike (range_covers (united r q) k t) refl e (later_back qs (united r q) (rw (later, e) at h)))
        (λ e. other (range_covers r k t) (range_covers q k t) (covered qs k t) (later_back qs r (rw (later, e) at h)))
      where
        other : (a b c : Bool) → a || c ≡ true → a || (b || c) ≡ true
        other true b c i = refl
        other false true c i = refl
        other false false c i = i

        alike : (b : Bool) → range_covers (united r q) k t ≡ b → same_range q r ≡ true → b || covered qs k t ≡ true → range_covers r k t || (range_covers q k t || covered qs k t) ≡ true
        alike true is e i = or_first (range_covers r k t) (range_covers q k t) (covered qs k t) (united_back r q e is)
          where
            or_first : (a b c : Bool) → a || b ≡ true → a || (b || c) ≡ true
            or_first true b c i = refl
            or_first false true c i = refl
            or_first false false c i = absurd (false≢true i)
        alike false is e i = other (range_covers r k t) (range_covers q k t) (covered qs k t) (or_right (range_covers r k t) (covered qs k t) i)

    covered-later : (qs rs : List (Range S)) → covered rs k t ≡ true → covered (map (later qs) rs) k t ≡ true
    unfolding any
    covered-later qs [] h = absurd (false≢true h)
    covered-later qs (r ∷ rs) h = by_cases (range_covers r k t)
        (λ c. or_left (range_covers (later qs r) k t) (covered (map (later qs) rs) k t) (later_upper qs r c))
        (λ c. or_right (range_covers (later qs r) k t) (covered (map (later qs) rs) k t) (covered-later qs rs (or_second (range_covers r k t) (covered rs k t) h c)))

    covered-later_back : (qs rs : List (Range S)) → covered (map (later qs) rs) k t ≡ true → covered rs k t || covered qs k t ≡ true
    unfolding any
    covered-later_back qs [] h = absurd (false≢true h)
    covered-later_back qs (r ∷ rs) h = by_cases (range_covers (later qs r) k t)
        (λ c. first (range_covers r k t) (covered rs k t) (covered qs k t) (later_back qs r c))
        (λ c. rest (range_covers r k t) (covered rs k t) (covered qs k t)
        (covered-later_back qs rs (or_second (range_covers (later qs r) k t) (covered (map (later qs) rs) k t) h c)))
      where
        first : (a b c : Bool) → a || c ≡ true → (a || b) || c ≡ true
        first true b c i = refl
        first false true c i = refl
        first false false c i = i

        rest : (a b c : Bool) → b || c ≡ true → (a || b) || c ≡ true
        rest true b c i = refl
        rest false b c i = i

    -- A range below that goes is alike one above, which then covers for it.
    goes_covers : (all rs : List (Range S)) (q : Range S) → range_goes rs q ≡ true → ((r : Range S) → same_range q r ≡ true → any (alike_covers r) all ≡ true)
        → covered (map (later all) rs) k t ≡ true
    unfolding any
    goes_covers all [] q g h = absurd (false≢true g)
    goes_covers all (r ∷ rs) q g h = by_cases (same_range r q)
        (λ e. or_left (range_covers (later all r) k t) (covered (map (later all) rs) k t) (later_lower all r (h r (same_turned r q e))))
        (λ e. or_right (range_covers (later all r) k t) (covered (map (later all) rs) k t)
        (goes_covers all rs q (or_second (same_range r q) (range_goes rs q) g e) h))

    covered_below : (all rs qs : List (Range S)) → ((r : Range S) → any (alike_covers r) qs ≡ true → any (alike_covers r) all ≡ true)
        → covered qs k t ≡ true → covered (map (later all) rs) k t || covered (reject (range_goes rs) qs) k t ≡ true
    unfolding any select
    covered_below all rs [] h c = absurd (false≢true c)
    covered_below all rs (q ∷ qs) h c = by_cases (range_goes rs q)
        (λ g. rw g (by_cases (range_covers q k t)
        (λ y. or_left (covered (map (later all) rs) k t) _ (goes_covers all rs q g (λ r e. h r (rw (e, y)))))
        (λ n. covered_below all rs qs deeper (or_second (range_covers q k t) (covered qs k t) c n))))
        (λ g. rw g (kept (range_covers q k t) refl (λ n. covered_below all rs qs deeper (or_second (range_covers q k t) (covered qs k t) c n))))
      where
        deeper : (r : Range S) → any (alike_covers r) qs ≡ true → any (alike_covers r) all ≡ true
        deeper r i = h r (or_right (alike_covers r q) (any (alike_covers r) qs) i)

        kept : (b : Bool) → range_covers q k t ≡ b → (range_covers q k t ≡ false → covered (map (later all) rs) k t || covered (reject (range_goes rs) qs) k t ≡ true)
            → covered (map (later all) rs) k t || (b || covered (reject (range_goes rs) qs) k t) ≡ true
        kept true y i = or_right (covered (map (later all) rs) k t) true refl
        kept false n i = i n

    covered_staying : (f : Range S → Bool) (qs : List (Range S)) → covered (reject f qs) k t ≡ true → covered qs k t ≡ true
    unfolding any select
    covered_staying f [] h = h
    covered_staying f (q ∷ qs) h = by_cases (f q)
        (λ g. or_right (range_covers q k t) (covered qs k t) (covered_staying f qs (rw g at h)))
        (λ g. by_cases (range_covers q k t)
        (λ y. or_left (range_covers q k t) (covered qs k t) y)
        (λ n. or_right (range_covers q k t) (covered qs k t) (covered_staying f qs (rw (g, n) at h))))

module _ {S A : Type 0} where
  -- A merge covers what either level covers.
  pub covered-merged : (u l : Level S A) (k t : ℕ) → covered (merged u l).ranges k t ≡ covered u.ranges k t || covered l.ranges k t
  unfolding merged
  covered-merged u l k t =
      any-merge range_before (λ r. range_covers r k t) (map (later l.ranges) u.ranges) (reject (range_goes u.ranges) l.ranges)
      ∙ bool_ext (covered (map (later l.ranges) u.ranges) k t || covered (reject (range_goes u.ranges) l.ranges) k t)
      (covered u.ranges k t || covered l.ranges k t)
      (λ h. by_cases (covered (map (later l.ranges) u.ranges) k t)
      (λ y. covered-later_back k t l.ranges u.ranges y)
      (λ n. or_right (covered u.ranges k t) (covered l.ranges k t)
      (covered_staying k t (range_goes u.ranges) l.ranges (or_second (covered (map (later l.ranges) u.ranges) k t) _ h n))))
      (λ h. by_cases (covered u.ranges k t)
      (λ y. or_left (covered (map (later l.ranges) u.ranges) k t) _ (covered-later k t l.ranges u.ranges y))
      (λ n. covered_below k t l.ranges u.ranges l.ranges (λ r i. i) (or_second (covered u.ranges k t) (covered l.ranges k t) h n)))

module _ {S : Type 0} (k : ℕ) where
  -- What is covered is covered at every earlier stamp.
  pub covered_earlier : (rs : List (Range S)) (t u : ℕ) → t ≤ u → covered rs k u ≡ true → covered rs k t ≡ true
  unfolding any
  covered_earlier [] t u le h = h
  covered_earlier (r ∷ rs) t u le h = by_cases (range_covers r k u)
      (λ c. let parts = covers_parts r.lo r.hi r.date k u c in
      or_left (range_covers r k t) (covered rs k t) (covers-true r.lo r.hi r.date k t parts.0 (omega (arith, parts.1))))
      (λ c. or_right (range_covers r k t) (covered rs k t) (covered_earlier rs t u le (or_second (range_covers r k u) (covered rs k u) h c)))

  -- A stamp is covered where it is at or below the latest date over the docket.
  pub latest-covers : (rs : List (Range S)) (t : ℕ) → 1 ≤ t → leb t (latest rs k) ≡ covered rs k t
  unfolding latest any covers
  latest-covers [] t low = lt-leb t 0 (omega arith)
  latest-covers (r ∷ rs) t low = go (over r.lo r.hi k) (latest-covers rs t low)
    where
      go : (b : Bool) → leb t (latest rs k) ≡ covered rs k t → leb t (cond b (max r.date (latest rs k)) (latest rs k)) ≡ (b && leb t r.date) || covered rs k t
      go true h = leb-max t r.date (latest rs k) ∙ ap (λ b. leb t r.date || b) h
      go false h = h
