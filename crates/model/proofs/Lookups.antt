-- No merge changes what a lookup finds where of each docket nothing deeper is later than a point that goes.
use mathlib.Core.Path.{◌≡◌, refl, sym, ap, ◌∙◌}
use mathlib.Core.Bool.{Bool, true, false, cond, ◌&&◌, ◌||◌, not, false≢true}
use mathlib.Core.List.{List, [], ◌∷◌}
use Prim.Native.Nat.{ℕ, zero, suc, ◌≤◌, ◌<◌}
use native.Mathlib.Omega.{arith}
use lib.Dec.{leb, eqb}
use lib.ListN.{length, get_or, set}
use borrow.Author.Tests.{eqb-true, ne_eqb, ltb-true, not-true}
use Rattle.lists.specs.Lists.{any, select, reject, merge}
use Rattle.lists.specs.All.{All, Ascending}
use Rattle.lists.proofs.Bools.{cond_elim, cond_same, by_cases, both_false, and_false_right, or_second, or_false_left, or_false_right, or_false_intro}
use Rattle.lists.proofs.Tests.{all_weaken, any-select, any-select_weaken}
use Rattle.model.specs.Records.{Entry, value, tombstone, Point, Level, is_put, empty}
use Rattle.model.specs.Merge.{covered, names, point_before, point_goes, merged, settled, joined}
use Rattle.model.specs.Lookup.{Found, absent, found, reads, latest, judged, find, lookup_from, lookup}
use Rattle.model.proofs.Unions.{covered-merged, covered_earlier}
use Rattle.model.proofs.Found.{lookup_of_holds}
use Rattle.model.proofs.Levels.{uncovered, uncovered_same, uncovered_both, uncovered-judged, AtMost, uncovered_at_most, lookup_level}
use Rattle.model.proofs.Form.{Ordered, merged_ordered}

module _ {S A : Type 0} where
  -- A list without the docket leaves the answer to what is deeper; one with it decides.
  pub find_unnamed : (date : ℕ) (ps : List (Point S A)) (k : ℕ) (d : Found A) → names ps k ≡ false → find date ps k d ≡ d
  unfolding any find
  find_unnamed date [] k d h = refl
  find_unnamed date (p ∷ ps) k d h =
      rw (or_false_left (eqb p.key k) (names ps k) h) (find_unnamed date ps k d (or_false_right (eqb p.key k) (names ps k) h))

  find_named : (date : ℕ) (ps : List (Point S A)) (k : ℕ) (d e : Found A) → names ps k ≡ true → find date ps k d ≡ find date ps k e
  unfolding any find
  find_named date [] k d e h = absurd (false≢true h)
  find_named date (p ∷ ps) k d e h = go (eqb p.key k) h (find_named date ps k d e)
    where
      go : (b : Bool) → b || names ps k ≡ true → (names ps k ≡ true → find date ps k d ≡ find date ps k e)
          → cond b (judged date p.entry p.stamp) (find date ps k d) ≡ cond b (judged date p.entry p.stamp) (find date ps k e)
      go true g ih = refl
      go false g ih = ih g

  -- Where not both name the docket, a merge says what its halves say.
  find-merge : (before : Point S A → Point S A → Bool) (date : ℕ) (xs ys : List (Point S A)) (k : ℕ) (d : Found A)
      → names xs k && names ys k ≡ false → find date (merge before xs ys) k d ≡ find date xs k (find date ys k d)
  unfolding any find merge
  find-merge before date [] ys k d h = refl
  find-merge before date (x ∷ xs) [] k d h = refl
  find-merge before date (x ∷ xs) (y ∷ ys) k d h =
      cond_elim (λ l. find date l k d ≡ find date (x ∷ xs) k (find date (y ∷ ys) k d)) (before x y) (x ∷ merge before xs (y ∷ ys)) (y ∷ merge before (x ∷ xs) ys)
      (λ g. upper (eqb x.key k) h (find-merge before date xs (y ∷ ys) k d))
      (λ g. lower (eqb y.key k) h (find-merge before date (x ∷ xs) ys k d))
    where
      rx : Found A
      rx = judged date x.entry x.stamp

      ry : Found A
      ry = judged date y.entry y.stamp

      upper : (b : Bool) → (b || names xs k) && names (y ∷ ys) k ≡ false
          → (names xs k && names (y ∷ ys) k ≡ false → find date (merge before xs (y ∷ ys)) k d ≡ find date xs k (find date (y ∷ ys) k d))
          → cond b rx (find date (merge before xs (y ∷ ys)) k d) ≡ cond b rx (find date xs k (find date (y ∷ ys) k d))
      upper true g ih = refl
      upper false g ih = ih g

      lower : (b : Bool) → names (x ∷ xs) k && (b || names ys k) ≡ false
          → (names (x ∷ xs) k && names ys k ≡ false → find date (merge before (x ∷ xs) ys) k d ≡ find date (x ∷ xs) k (find date ys k d))
          → cond b ry (find date (merge before (x ∷ xs) ys) k d) ≡ find date (x ∷ xs) k (cond b ry (find date ys k d))
      lower true g ih = sym (find_unnamed date (x ∷ xs) k ry (unnamed (names (x ∷ xs) k) g))
        where
          unnamed : (b : Bool) → b && true ≡ false → b ≡ false
          unnamed true e = e
          unnamed false e = e
      lower false g ih = ih g

  -- Points later than a docket do not name it.
  later_unnamed : (p : Point S A) (k : ℕ) (ps : List (Point S A)) → p.key ≡ k → All (λ q. point_before p q ≡ true) ps → names ps k ≡ false
  unfolding any
  later_unnamed p k [] e a = refl
  later_unnamed p k (q ∷ ps) e a = or_false_intro (eqb q.key k) (names ps k) (ne_eqb q.key k (λ h. omega (arith, ltb-true p.key q.key a.0))) (later_unnamed p k ps e a.1)

  -- A choice by docket and stamp hides the answers that it takes away, if what is deeper is hidden where a point of the docket goes.
  pub find-reject : (f : ℕ → ℕ → Bool) (ps : List (Point S A)) (k : ℕ) (d : Found A) → Ascending point_before ps
      → All (λ p. p.key ≡ k → f p.key p.stamp ≡ true → uncovered (f k) d ≡ absent) ps
      → find 0 (reject (λ p. f p.key p.stamp) ps) k (uncovered (f k) d) ≡ uncovered (f k) (find 0 ps k d)
  unfolding find select
  find-reject f [] k d a h = refl
  find-reject f (p ∷ ps) k d a h = go (eqb p.key k) refl (f p.key p.stamp) refl (find-reject f ps k d a.1 h.1)
    where
      rest : List (Point S A)
      rest = reject (λ p. f p.key p.stamp) ps

      go : (b : Bool) → eqb p.key k ≡ b → (c : Bool) → f p.key p.stamp ≡ c
          → find 0 rest k (uncovered (f k) d) ≡ uncovered (f k) (find 0 ps k d)
          → find 0 (cond (not (f p.key p.stamp)) (p ∷ rest) rest) k (uncovered (f k) d) ≡ uncovered (f k) (cond (eqb p.key k) (judged 0 p.entry p.stamp) (find 0 ps k d))
      go true e true g ih =
          rw (g, e) (find_unnamed 0 rest k _ (any-select_weaken _ _ ps (later_unnamed p k ps (eqb-true p.key k e) a.0))
          ∙ h.0 (eqb-true p.key k e) g ∙ sym (uncovered-judged (f k) p.entry p.stamp ∙ rw (← (eqb-true p.key k e), g)))
      go true e false g ih = rw (g, e) (sym (uncovered-judged (f k) p.entry p.stamp ∙ rw (← (eqb-true p.key k e), g)))
      go false e true g ih = rw (g, e) ih
      go false e false g ih = rw (g, e) ih

  unnamed_staying : (u : Level S A) (ps : List (Point S A)) (k : ℕ) → names u.points k ≡ true → names (reject (point_goes u) ps) k ≡ false
  unnamed_staying u ps k h = any-select (λ p. not (point_goes u p)) (λ p. eqb p.key k)
      (λ p g. by_cases (eqb p.key k)
      (λ e. both_false (rw (← (eqb-true p.key k e)) at h) (or_false_left (names u.points p.key) _ (not-true (point_goes u p) g))) (λ e. e)) ps

  -- The points of docket k have stamps of t at most.
  abbrev pub Upto : ℕ → ℕ → Level S A → Type 0
  Upto k t l = All (λ p. p.key ≡ k → p.stamp ≤ t) l.points

  -- Then so has what a lookup finds, and whoever covers t covers that.
  lookup_upto : (k t : ℕ) (ls : List (Level S A)) → All (Upto k t) ls → AtMost t (lookup ls k)
  lookup_upto k t ls a = lookup_of_holds (AtMost t) tt 0 ls k (all_weaken _ _ (λ l b. all_weaken _ _ (λ p h e. of p.entry p.stamp (h e)) l.points b) ls a)
    where
      of : (x : Entry A) (u : ℕ) → u ≤ t → AtMost t (reads x u)
      of (value a) u h = h
      of tombstone u h = tt

  hides_earlier : (l : Level S A) (k t : ℕ) (x : Found A) → covered l.ranges k t ≡ true → AtMost t x → uncovered (covered l.ranges k) x ≡ absent
  hides_earlier l k t absent c h = refl
  hides_earlier l k t (found a u) c h = rw (covered_earlier k l.ranges u t h c)

  -- Where u covers a point of l, nothing of that docket is later in the levels below.
  abbrev pub Yields : Level S A → Level S A → List (Level S A) → Type 0
  Yields u l ls = All (λ p. covered u.ranges p.key p.stamp ≡ true → All (Upto p.key p.stamp) ls) l.points

  -- The points of a merge decide as those of its levels, one after the other, over what is hidden by then.
  find-merged : (u l : Level S A) (k : ℕ) (d : Found A) → Ordered l
      → All (λ p. p.key ≡ k → covered u.ranges p.key p.stamp ≡ true → uncovered (covered u.ranges k) d ≡ absent) l.points
      → find 0 (merged u l).points k (uncovered (covered u.ranges k) d) ≡ find 0 u.points k (uncovered (covered u.ranges k) (find 0 l.points k d))
  unfolding merged
  find-merged u l k d o h = by_cases (names u.points k)
      (λ n. find-merge point_before 0 u.points stay k _ (and_false_right (names u.points k) _ (unnamed_staying u l.points k n)) ∙ find_named 0 u.points k _ _ n)
      (λ n. find-merge point_before 0 u.points stay k _ (rw n) ∙ ap (find 0 u.points k) (unnamed n))
    where
      stay : List (Point S A)
      stay = reject (point_goes u) l.points

      goes : ℕ → ℕ → Bool
      goes j t = names u.points j || covered u.ranges j t

      unnamed : names u.points k ≡ false → find 0 stay k (uncovered (covered u.ranges k) d) ≡ uncovered (covered u.ranges k) (find 0 l.points k d)
      unnamed n =
          let same : (x : Found A) → uncovered (goes k) x ≡ uncovered (covered u.ranges k) x = uncovered_same (goes k) (covered u.ranges k) (λ t. rw n) in
          ap (find 0 stay k) (sym (same d))
          ∙ find-reject goes l.points k d o (all_weaken _ _ (λ p g e c. same d ∙ g e (or_second (names u.points p.key) _ c (rw e n))) l.points h)
          ∙ same (find 0 l.points k d)

  -- The merge of two such levels answers as the two did.
  pub lookup-merged : (u l : Level S A) (ls : List (Level S A)) (k : ℕ) → Ordered l → Yields u l ls → lookup (merged u l ∷ ls) k ≡ lookup (u ∷ l ∷ ls) k
  lookup-merged u l ls k o y =
      let d : Found A = uncovered (covered l.ranges k) (lookup ls k) in
      lookup_level (merged u l) ls k
      ∙ ap (find 0 (merged u l).points k) (uncovered_same _ _ (covered-merged u l k) (lookup ls k) ∙ uncovered_both (covered u.ranges k) (covered l.ranges k) (lookup ls k))
      ∙ find-merged u l k d o (all_weaken _ _ (λ p h e c. hidden p e c (h c)) l.points y)
      ∙ sym (lookup_level u (l ∷ ls) k ∙ ap (λ x. find 0 u.points k (uncovered (covered u.ranges k) x)) (lookup_level l ls k))
    where
      hidden : (p : Point S A) → p.key ≡ k → covered u.ranges p.key p.stamp ≡ true → All (Upto p.key p.stamp) ls
          → uncovered (covered u.ranges k) (uncovered (covered l.ranges k) (lookup ls k)) ≡ absent
      hidden p e c a =
          hides_earlier u k p.stamp (uncovered (covered l.ranges k) (lookup ls k)) (rw e at c)
          (uncovered_at_most p.stamp (covered l.ranges k) (lookup ls k) (lookup_upto k p.stamp ls (rw e at a)))

  -- Wiping the deletes of the deepest level changes no answer.
  find_puts : (ps : List (Point S A)) (k : ℕ) → Ascending point_before ps → find 0 (select (λ p. is_put p.entry) ps) k absent ≡ find 0 ps k absent
  unfolding find select
  find_puts [] k a = refl
  find_puts (p ∷ ps) k a = go p.entry refl (eqb p.key k) refl (find_puts ps k a.1)
    where
      puts : List (Point S A)
      puts = select (λ p. is_put p.entry) ps

      go : (e : Entry A) → p.entry ≡ e → (b : Bool) → eqb p.key k ≡ b → find 0 puts k absent ≡ find 0 ps k absent
          → find 0 (cond (is_put p.entry) (p ∷ puts) puts) k absent ≡ cond (eqb p.key k) (judged 0 p.entry p.stamp) (find 0 ps k absent)
      go (value v) e true h ih = rw (e, h)
      go (value v) e false h ih = rw (e, h) ih
      go tombstone e true h ih =
          rw (e, h) (ih ∙ find_unnamed 0 ps k absent (later_unnamed p k ps (eqb-true p.key k h) a.0) ∙ sym (cond_same (leb p.stamp 0) absent))
      go tombstone e false h ih = rw (e, h) ih

  pub lookup-settled : (l : Level S A) (k : ℕ) → Ordered l → lookup (settled l ∷ []) k ≡ lookup (l ∷ []) k
  unfolding lookup_from settled
  lookup-settled l k a = find_puts l.points k a

  pub lookup-empty : (ls : List (Level S A)) (k : ℕ) → lookup (empty ∷ ls) k ≡ lookup ls k
  unfolding lookup_from latest find
  lookup-empty ls k = refl

  lookup_below : (l : Level S A) (ls ms : List (Level S A)) (k : ℕ) → lookup ls k ≡ lookup ms k → lookup (l ∷ ls) k ≡ lookup (l ∷ ms) k
  lookup_below l ls ms k h =
      lookup_level l ls k ∙ ap (λ x. find 0 l.points k (uncovered (covered l.ranges k) x)) h ∙ sym (lookup_level l ms k)

  -- Levels each of which yields to the one above it.
  abbrev pub Yielding : List (Level S A) → Type 0
  Yielding [] = Unit {0}
  Yielding (u ∷ []) = Unit {0}
  Yielding (u ∷ l ∷ ls) = Yields u l ls × Yielding (l ∷ ls)

  -- Level i of the list merged into the next, which is the deepest only if it is the last.
  pub lookup_merge : (b : Bool) (i : ℕ) (ls : List (Level S A)) (k : ℕ) → suc i < length ls → (b ≡ true → length ls ≡ suc (suc i)) → All Ordered ls → Yielding ls
      → lookup (set (set ls i empty) (suc i) (joined b (get_or ls i empty) (get_or ls (suc i) empty))) k ≡ lookup ls k
  unfolding joined
  lookup_merge b i [] k h last a y = absurd (omega arith)
  lookup_merge b zero (u ∷ []) k h last a y = absurd (omega arith)
  lookup_merge true zero (u ∷ l ∷ []) k h last a y =
      lookup-empty (settled (merged u l) ∷ []) k ∙ lookup-settled (merged u l) k (merged_ordered u l a.0 a.1.0) ∙ lookup-merged u l [] k a.1.0 y.0
  lookup_merge true zero (u ∷ l ∷ m ∷ ls) k h last a y = absurd (omega (arith, last refl))
  lookup_merge false zero (u ∷ l ∷ ls) k h last a y = lookup-empty (merged u l ∷ ls) k ∙ lookup-merged u l ls k a.1.0 y.0
  lookup_merge b (suc i) (u ∷ []) k h last a y = absurd (omega arith)
  lookup_merge b (suc i) (u ∷ l ∷ ls) k h last a y =
      lookup_below u _ (l ∷ ls) k (lookup_merge b i (l ∷ ls) k (omega arith) (λ e. omega (arith, last e)) a.1 y.1)
