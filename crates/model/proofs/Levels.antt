-- A lookup level by level: what the deeper levels give is absent where a range of this level covers its docket and its stamp.
use mathlib.Core.Path.{◌≡◌, refl, sym, ap, ◌∙◌}
use mathlib.Core.Bool.{Bool, true, false, cond, ◌||◌}
use mathlib.Core.List.{List, [], ◌∷◌}
use Prim.Native.Nat.{ℕ, max, ◌≤◌}
use native.Mathlib.Omega.{arith}
use lib.Dec.{leb, eqb}
use borrow.Author.Tests.{le-leb, leb-true, leb-false}
use Rattle.lists.proofs.Bools.{cond_ap, cond_elim, cond_same, by_cases}
use Rattle.model.specs.Records.{Entry, value, tombstone, Point, Level}
use Rattle.model.specs.Merge.{covered}
use Rattle.model.specs.Lookup.{Found, absent, found, reads, latest, judged, find, lookup_from, lookup}
use Rattle.model.proofs.Unions.{leb-max, latest-covers}

module _ {A : Type 0} where
  -- An answer, absent if its stamp is hidden.
  abbrev pub uncovered : (ℕ → Bool) → Found A → Found A
  uncovered hides absent = absent
  uncovered hides (found a t) = cond (hides t) absent (found a t)

  pub uncovered_same : (f g : ℕ → Bool) → ((t : ℕ) → f t ≡ g t) → (x : Found A) → uncovered f x ≡ uncovered g x
  uncovered_same f g h absent = refl
  uncovered_same f g h (found a t) = rw (h t)

  pub uncovered_all : (b : Bool) (x : Found A) → uncovered (λ t. b) x ≡ cond b absent x
  uncovered_all true absent = refl
  uncovered_all true (found a t) = refl
  uncovered_all false absent = refl
  uncovered_all false (found a t) = refl

  pub uncovered_both : (f g : ℕ → Bool) (x : Found A) → uncovered (λ t. f t || g t) x ≡ uncovered f (uncovered g x)
  uncovered_both f g absent = refl
  uncovered_both f g (found a t) = go (f t) (g t) refl
    where
      go : (b c : Bool) → f t ≡ b → cond (b || c) absent (found a t) ≡ uncovered f (cond c absent (found a t))
      go true true e = refl
      go false true e = refl
      go true false e = rw e
      go false false e = rw e

  uncovered_later : (a b : ℕ) (x : Found A) → uncovered (λ t. leb t (max a b)) x ≡ uncovered (λ t. leb t a) (uncovered (λ t. leb t b) x)
  uncovered_later a b x =
      uncovered_same (λ t. leb t (max a b)) (λ t. leb t a || leb t b) (λ t. leb-max t a b) x ∙ uncovered_both (λ t. leb t a) (λ t. leb t b) x

  -- The stamp of an answer, if there is one, is t at most.
  abbrev pub AtMost : ℕ → Found A → Type 0
  AtMost t absent = Unit {0}
  AtMost t (found a u) = u ≤ t

  pub uncovered_at_most : (t : ℕ) (f : ℕ → Bool) (x : Found A) → AtMost t x → AtMost t (uncovered f x)
  uncovered_at_most t f absent h = tt
  uncovered_at_most t f (found a u) h = cond_elim (AtMost t) (f u) absent (found a u) (λ e. tt) (λ e. h)

  pub uncovered-judged : (hides : ℕ → Bool) (x : Entry A) (t : ℕ) → uncovered hides (judged 0 x t) ≡ cond (hides t) absent (judged 0 x t)
  uncovered-judged hides x t = cond_elim (λ y. uncovered hides y ≡ cond (hides t) absent y) (leb t 0) absent (reads x t) (λ e. sym (cond_same (hides t) absent)) (λ e. of x)
    where
      of : (x : Entry A) → uncovered hides (reads x t) ≡ cond (hides t) absent (reads x t)
      of (value a) = refl
      of tombstone = sym (cond_same (hides t) absent)

  -- To judge by a date hides, of what is read without one, a stamp at or below it.
  judged-uncovered : (date : ℕ) (x : Entry A) (t : ℕ) → judged date x t ≡ uncovered (λ u. leb u date) (judged 0 x t)
  judged-uncovered date x t = by_cases (leb t 0)
      (λ e. rw (e, le-leb t date (omega (arith, leb-true t 0 e)))) (λ e. rw e (of x))
    where
      of : (x : Entry A) → judged date x t ≡ uncovered (λ u. leb u date) (reads x t)
      of (value a) = refl
      of tombstone = cond_same (leb t date) absent

module _ {S A : Type 0} where
  find-uncovered : (date : ℕ) (ps : List (Point S A)) (k : ℕ) (d : Found A)
      → find date ps k (uncovered (λ t. leb t date) d) ≡ uncovered (λ t. leb t date) (find 0 ps k d)
  unfolding find
  find-uncovered date [] k d = refl
  find-uncovered date (p ∷ ps) k d =
      rw (judged-uncovered date p.entry p.stamp, find-uncovered date ps k d)
      (sym (cond_ap (uncovered (λ t. leb t date)) (eqb p.key k) (judged 0 p.entry p.stamp) (find 0 ps k d)))

  -- A date carried on hides, of what a lookup without it finds, the stamps at or below it.
  pub lookup_from-date : (date : ℕ) (ls : List (Level S A)) (k : ℕ) → lookup_from date ls k ≡ uncovered (λ t. leb t date) (lookup ls k)
  unfolding lookup_from
  lookup_from-date date [] k = refl
  lookup_from-date date (l ∷ ls) k =
      let m : ℕ = latest l.ranges k in
      let same : max date m ≡ max date (max 0 m) = omega arith in
      ap (find date l.points k) (lookup_from-date (max date m) ls k ∙ ap (λ n. uncovered (λ t. leb t n) (lookup ls k)) same
      ∙ uncovered_later date (max 0 m) (lookup ls k) ∙ ap (uncovered (λ t. leb t date)) (sym (lookup_from-date (max 0 m) ls k)))
      ∙ find-uncovered date l.points k (lookup_from (max 0 m) ls k)

  -- What a lookup finds has a stamp of 1 or more, so that ranges hide by their dates just what they cover.
  latest_hides : (l : Level S A) (k : ℕ) (x : Found A) → x ≡ uncovered (λ t. leb t 0) x
      → uncovered (λ t. leb t (max 0 (latest l.ranges k))) x ≡ uncovered (covered l.ranges k) x
  latest_hides l k absent h = refl
  latest_hides l k (found a t) h = by_cases (leb t 0)
      (λ e. let no : found a t ≡ absent = h ∙ rw e in cc)
      (λ e.
      let m : ℕ = latest l.ranges k in
      let same : max 0 m ≡ m = omega arith in
      ap (λ b. cond b absent (found a t)) (ap (leb t) same ∙ latest-covers k l.ranges t (leb-false t 0 e)))

  -- "The first level with a point of the docket decides", or else the deeper ones do, save where a range of this level covers what they find.
  pub lookup_level : (l : Level S A) (ls : List (Level S A)) (k : ℕ)
      → lookup (l ∷ ls) k ≡ find 0 l.points k (uncovered (covered l.ranges k) (lookup ls k))
  unfolding lookup_from
  lookup_level l ls k =
      ap (find 0 l.points k) (lookup_from-date (max 0 (latest l.ranges k)) ls k ∙ latest_hides l k (lookup ls k) (lookup_from-date 0 ls k))
