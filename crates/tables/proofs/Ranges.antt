-- Ranges in their order, and a range beside those below it that are alike.
use mathlib.Core.Path.{◌≡◌, refl, sym, ◌∙◌}
use mathlib.Core.Bool.{true, false, ◌&&◌, ◌||◌, not, true≢false}
use mathlib.Core.List.{List, [], ◌∷◌, map}
use Prim.Native.Nat.{ℕ, ◌<◌, ◌≤◌}
use native.Mathlib.Omega.{arith}
use native.Mathlib.Decide.{ℕ_discrete, dec_lt}
use lib.Dec.{eqb, ltb}
use borrow.Author.Tests.{ltb-true, ltb-false, lt-ltb, eqb-true, eq-eqb, not-true}
use Rattle.lists.specs.Lists.{any, reject}
use Rattle.lists.specs.All.{All}
use Rattle.lists.proofs.Bools.{cond_elim, by_cases, or_false_left, or_false_right, or_left, or_right, and_intro, and_left, and_right}
use Rattle.lists.proofs.Tests.{all_selected, all_weaken}
use Rattle.lists.proofs.Merges.{Apart}
use Rattle.model.specs.Records.{Range}
use Rattle.model.specs.Merge.{range_before, same_range, range_goes, united, later}

-- The order of ranges: by lo, then hi.
module _ (a b c d : ℕ) where
  before_facts : ltb a c || (eqb a c && ltb b d) ≡ true → (a ≤ c) × (c ≤ a → b < d)
  before_facts h =
      by_cases (ltb a c)
      (λ x. let l = ltb-true a c x in (omega arith, λ y. absurd (omega arith)))
      (λ x.
      let both : eqb a c && ltb b d ≡ true = rw x at h in
      let e = eqb-true a c (and_left (eqb a c) (ltb b d) both) in
      (omega arith, λ y. ltb-true b d (and_right (eqb a c) (ltb b d) both)))

  facts_before : a ≤ c → (c ≤ a → b < d) → ltb a c || (eqb a c && ltb b d) ≡ true
  facts_before h k = go (dec_lt a c)
    where
      go : Dec (a < c) → ltb a c || (eqb a c && ltb b d) ≡ true
      go (yes x) = or_left (ltb a c) (eqb a c && ltb b d) (lt-ltb a c x)
      go (no x) = or_right (ltb a c) (eqb a c && ltb b d) (and_intro (eqb a c) (ltb b d) (eq-eqb a c (omega arith)) (lt-ltb b d (k (omega arith))))

  not_before_facts : ltb a c || (eqb a c && ltb b d) ≡ false → (c ≤ a) × (a ≡ c → d ≤ b)
  not_before_facts h =
      let l = ltb-false a c (or_false_left (ltb a c) (eqb a c && ltb b d) h) in
      (omega arith, λ e. ltb-false b d (rw (eq-eqb a c e) at (or_false_right (ltb a c) (eqb a c && ltb b d) h)))

module _ {S : Type 0} where
  pub range_trans : (p q r : Range S) → range_before p q ≡ true → range_before q r ≡ true → range_before p r ≡ true
  range_trans p q r x y =
      let f = before_facts p.lo p.hi q.lo q.hi x in
      let g = before_facts q.lo q.hi r.lo r.hi y in
      facts_before p.lo p.hi r.lo r.hi (omega (arith, f.0, g.0))
      (λ h. let a = f.1 (omega (arith, g.0)) in let b = g.1 (omega (arith, f.0)) in omega arith)

  -- Two ranges that are not the same are in one order or the other.
  range_other : (p q : Range S) → same_range p q ≡ false → range_before p q ≡ false → range_before q p ≡ true
  range_other p q n h =
      let f = not_before_facts p.lo p.hi q.lo q.hi h in
      facts_before q.lo q.hi p.lo p.hi f.0
      (λ k. go (omega (arith, f.0)) (f.1 (omega (arith, f.0))) (ℕ_discrete p.hi q.hi))
    where
      go : p.lo ≡ q.lo → q.hi ≤ p.hi → Dec (p.hi ≡ q.hi) → q.hi < p.hi
      go e le (yes x) =
          absurd (true≢false (sym (and_intro (eqb p.lo q.lo) (eqb p.hi q.hi) (eq-eqb p.lo q.lo e) (eq-eqb p.hi q.hi x)) ∙ n))
      go e le (no x) = omega arith

  -- A range's stamp and date, in a table whose last clock is t.
  abbrev pub Stamped : ℕ → Range S → Type 0
  Stamped t r = (1 ≤ r.stamp) × (r.stamp ≤ t)

  abbrev pub Dated : Range S → Type 0
  Dated r = (1 ≤ r.date) × (r.date ≤ r.stamp)

  -- A range beside those below it: its own lo and hi, and a stamp that is no earlier.
  pub record Beside (t : ℕ) (r x : Range S) : Type 0 where
    pub lo_same : x.lo ≡ r.lo
    pub hi_same : x.hi ≡ r.hi
    pub no_earlier : r.stamp ≤ x.stamp
    pub in_time : r.stamp ≤ t → x.stamp ≤ t
    pub dated : Dated r → Dated x

  pub later_beside : (t : ℕ) (qs : List (Range S)) (r : Range S) → All (Stamped t) qs → All Dated qs → Beside t r (later qs r)
  unfolding later
  later_beside t [] r a d = record { lo_same = refl; hi_same = refl; no_earlier = omega arith; in_time = λ h. h; dated = λ h. h }
  later_beside t (q ∷ qs) r a d =
      cond_elim (λ x. Beside t r (later qs x)) (same_range q r) (united r q) r
      (λ e. let b = later_beside t qs (united r q) a.1 d.1 in record {
        lo_same = b.lo_same;
        hi_same = b.hi_same;
        no_earlier = omega (arith, b.no_earlier);
        in_time = λ h. b.in_time (omega (arith, h, a.0.1));
        dated = λ h. b.dated (omega (arith, h.0), omega (arith, h.1, d.0.1));
      })
      (λ e. later_beside t qs r a.1 d.1)

  -- What stays of the lower ranges is none of the upper ones.
  pub staying_others : (us qs : List (Range S)) → All (λ q. range_goes us q ≡ false) (reject (range_goes us) qs)
  staying_others us qs = all_selected (λ q. range_goes us q ≡ false) (λ q. not (range_goes us q)) (λ q h. not-true (range_goes us q) h) qs

  module _ (t : ℕ) (ls : List (Range S)) (stamps : All (Stamped t) ls) (dates : All Dated ls) where
    beside_other : (r q : Range S) → same_range r q ≡ false → range_before (later ls r) q ≡ false → range_before q (later ls r) ≡ true
    beside_other r q n =
        let b = later_beside t ls r stamps dates in
        range_other (later ls r) q (rw (b.lo_same, b.hi_same) n)

    pub ranges_apart : (us qs : List (Range S)) → All (λ q. range_goes us q ≡ false) qs → Apart range_before (map (later ls) us) qs
    unfolding any
    ranges_apart [] qs a = tt
    ranges_apart (u ∷ us) qs a = (
      all_weaken _ _ (λ q h. beside_other u q (or_false_left (same_range u q) _ h)) qs a,
      ranges_apart us qs (all_weaken _ _ (λ q h. or_false_right (same_range u q) _ h) qs a),
    )

    pub later_before : (p q : Range S) → range_before p q ≡ range_before (later ls p) (later ls q)
    later_before p q =
        let b = later_beside t ls p stamps dates in
        let c = later_beside t ls q stamps dates in
        rw (b.lo_same, b.hi_same, c.lo_same, c.hi_same)
