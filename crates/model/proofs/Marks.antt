-- Tallies of which one is marked: the mark follows the tally of one put, of docket k at clock b, through the levels.
use mathlib.Core.Path.{◌≡◌, refl, ap, ◌∙◌}
use mathlib.Core.Bool.{Bool, true, false, cond, ◌||◌, not, false≢true}
use mathlib.Core.List.{List, [], ◌∷◌}
use Prim.Native.Nat.{ℕ, ◌≤◌, ◌<◌, min}
use native.Mathlib.Omega.{arith}
use lib.Dec.{leb, eqb}
use borrow.Author.Tests.{eqb-true, eqb-false, leb-true, leb-false, not-true, not-false}
use Rattle.lists.specs.Lists.{any, select, reject}
use Rattle.lists.specs.All.{All}
use Rattle.lists.proofs.Bools.{cond_elim, by_cases, both_false, or_left, or_right, or_false_left, or_false_right, or_second}
use Rattle.lists.proofs.Merges.{any-merge}
use Rattle.model.specs.Records.{Entry, value, tombstone, Point, Range, Level}
use Rattle.model.specs.Merge.{range_covers, covered, names, point_before, point_goes, earlier, merged}
use Rattle.model.proofs.Coverage.{covers-true, covers_parts}
use Rattle.model.proofs.Unions.{covered-merged}
use Rattle.model.proofs.Points.{AllPoints}

pub data Mark (A : Type 0) : Type 0 where
  plain : A → Mark A
  marked : Mark A

module _ {A : Type 0} where
  -- The tally that the mark stands for.
  abbrev pub read : A → Mark A → A
  read v (plain a) = a
  read v marked = v

  abbrev pub is_marked : Entry (Mark A) → Bool
  is_marked (value (plain a)) = false
  is_marked (value marked) = true
  is_marked tombstone = false

module _ {S A : Type 0} where
  abbrev pub Clean : Point S (Mark A) → Type 0
  Clean p = is_marked p.entry ≡ false

  module _ (k b : ℕ) where
    -- Marked only under docket k with the stamp b; not marked, and of docket k only with a stamp of b or more.
    abbrev pub Keyed : Point S (Mark A) → Type 0
    Keyed p = is_marked p.entry ≡ true → (p.key ≡ k) × (p.stamp ≡ b)

    abbrev pub Newer : Point S (Mark A) → Type 0
    Newer p = Clean p × (p.key ≡ k → b ≤ p.stamp)

    abbrev pub KeyedLevel : Level S (Mark A) → Type 0
    KeyedLevel = AllPoints Keyed

    abbrev pub NewerLevel : Level S (Mark A) → Type 0
    NewerLevel = AllPoints Newer

-- What a range covers, it covers with every earlier stamp.
covered_earlier : {S : Type 0} (rs : List (Range S)) (k t u : ℕ) → t ≤ u → covered rs k u ≡ true → covered rs k t ≡ true
unfolding any
covered_earlier [] k t u le h = h
covered_earlier (r ∷ rs) k t u le h = by_cases (range_covers r k u)
    (λ c. let parts = covers_parts r.lo r.hi r.date k u c in
    or_left (range_covers r k t) (covered rs k t) (covers-true r.lo r.hi r.date k t parts.0 (omega (arith, parts.1))))
    (λ c. or_right (range_covers r k t) (covered rs k t) (covered_earlier rs k t u le (or_second (range_covers r k u) (covered rs k u) h c)))

-- A level has a point of docket k, or a range that covers it with the stamp b.
abbrev pub reaches : {S A : Type 0} → Level S A → ℕ → ℕ → Bool
reaches l k b = names l.points k || covered l.ranges k b

module _ {R S A B : Type 0} (k b : ℕ) (u : Level R B) where
  -- A level that reaches them leaves below no mark, and of docket k only what is newer.
  pub staying_newer : (ps : List (Point S (Mark A))) → reaches u k b ≡ true → All (Keyed k b) ps → All (Newer k b) (reject (point_goes u) ps)
  unfolding select
  staying_newer [] n a = tt
  staying_newer (p ∷ ps) n a =
      cond_elim (All (Newer k b)) (not (point_goes u p)) (p ∷ reject (point_goes u) ps) (reject (point_goes u) ps)
      (λ g. (newer (not-true (point_goes u p) g), staying_newer ps n a.1)) (λ g. staying_newer ps n a.1)
    where
      newer : point_goes u p ≡ false → Newer k b p
      newer g = (unmarked (is_marked p.entry) refl, λ e. late e (leb p.stamp b) refl)
        where
          unmarked : (m : Bool) → is_marked p.entry ≡ m → m ≡ false
          unmarked true e = both_false n (rw ((a.0 e).0, (a.0 e).1) at g)
          unmarked false e = refl

          late : p.key ≡ k → (m : Bool) → leb p.stamp b ≡ m → b ≤ p.stamp
          late e true h =
              let stays : reaches u k p.stamp ≡ false = rw e at g in
              let over : covered u.ranges k b ≡ true = or_second (names u.points k) _ n (or_false_left (names u.points k) _ stays) in
              both_false (covered_earlier u.ranges k p.stamp b (leb-true p.stamp b h) over) (or_false_right (names u.points k) _ stays)
          late e false h = omega (arith, leb-false p.stamp b h)

module _ {S A : Type 0} (k b : ℕ) where
  -- What a level covers with a stamp of b or more it covers with b: so one that does not reach leaves every newer point of docket k.
  names_staying : (u : Level S (Mark A)) (ps : List (Point S (Mark A))) → reaches u k b ≡ false → All (Newer k b) ps → names (reject (point_goes u) ps) k ≡ names ps k
  unfolding any select
  names_staying u [] h a = refl
  names_staying u (p ∷ ps) h a =
      cond_elim (λ l. names l k ≡ names (p ∷ ps) k) (not (point_goes u p)) (p ∷ reject (point_goes u) ps) (reject (point_goes u) ps)
      (λ g. ap (λ x. eqb p.key k || x) (names_staying u ps h a.1)) (λ g. names_staying u ps h a.1 ∙ other (not-false (point_goes u p) g) (eqb p.key k) refl)
    where
      other : point_goes u p ≡ true → (x : Bool) → eqb p.key k ≡ x → names ps k ≡ x || names ps k
      other g true e =
          let same : p.key ≡ k = eqb-true p.key k e in
          let goes : reaches u k p.stamp ≡ true = rw same at g in
          let over : covered u.ranges k p.stamp ≡ true = or_second (names u.points k) _ goes (or_false_left (names u.points k) _ h) in
          both_false (covered_earlier u.ranges k b p.stamp (a.0.1 same) over) (or_false_right (names u.points k) _ h)
      other g false e = refl

  names-merged : (u l : Level S (Mark A)) → names (merged u l).points k ≡ names u.points k || names (reject (point_goes u) l.points) k
  unfolding merged
  names-merged u l = any-merge point_before (λ p. eqb p.key k) u.points (reject (point_goes u) l.points)

  -- What the upper level reaches, their merge reaches; so with the lower one, whose points are newer.
  pub reaches_upper : (u l : Level S (Mark A)) → reaches u k b ≡ true → reaches (merged u l) k b ≡ true
  reaches_upper u l h = rw (names-merged u l, covered-merged u l k b) (go (names u.points k) (covered u.ranges k b) _ _ h)
    where
      go : (a c x y : Bool) → a || c ≡ true → (a || x) || (c || y) ≡ true
      go true c x y g = refl
      go false true true y g = refl
      go false true false y g = refl
      go false false x y g = absurd (false≢true g)

  pub reaches_lower : (u l : Level S (Mark A)) → NewerLevel k b l → reaches l k b ≡ true → reaches (merged u l) k b ≡ true
  reaches_lower u l n h = by_cases (reaches u k b) (reaches_upper u l)
      (λ g. rw (names-merged u l, covered-merged u l k b, names_staying u l.points g n)
      (go (names u.points k) (covered u.ranges k b) (names l.points k) (covered l.ranges k b) h))
    where
      go : (a c x y : Bool) → x || y ≡ true → (a || x) || (c || y) ≡ true
      go true c x y g = refl
      go false c true y g = refl
      go false true false y g = refl
      go false false false y g = g

-- Owed since d or before.
abbrev pub Since : ℕ → ℕ → Type 0
Since d o = (0 < o) × (o ≤ d)

pub earlier_left : (a b d : ℕ) → Since d a → Since d (earlier a b)
earlier_left a b d p = cond_elim (Since d) (eqb a 0) b (cond (eqb b 0) a (min a b)) (λ e. omega (arith, eqb-true a 0 e))
    (λ e. cond_elim (Since d) (eqb b 0) a (min a b) (λ g. p) (λ g. omega (arith, eqb-false b 0 g)))

pub earlier_right : (a b d : ℕ) → Since d b → Since d (earlier a b)
earlier_right a b d p = cond_elim (Since d) (eqb a 0) b (cond (eqb b 0) a (min a b)) (λ e. p)
    (λ e. cond_elim (Since d) (eqb b 0) a (min a b) (λ g. omega (arith, eqb-true b 0 g)) (λ g. omega (arith, eqb-false a 0 e)))
