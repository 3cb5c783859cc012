-- The point of a docket among ascending points, found and overwritten.
use mathlib.Core.Path.{◌≡◌, refl, ap, ◌∙◌}
use mathlib.Core.Bool.{true, false, false≢true}
use mathlib.Core.List.{List, [], ◌∷◌, ◌++◌, map}
use Prim.Native.Nat.{ℕ}
use native.Mathlib.Omega.{arith}
use lib.Dec.{eqb}
use borrow.Author.Tests.{eqb-true, ne_eqb, ltb-true}
use Rattle.std.specs.Prelude.{Some}
use Rattle.lists.specs.Lists.{any, select}
use Rattle.lists.specs.All.{All, Ascending}
use Rattle.lists.proofs.Bools.{by_cases, or_second, or_false_left, or_false_right, or_false_intro}
use Rattle.model.specs.declared.Tally.{Tally}
use Rattle.model.specs.Records.{value, Point}
use Rattle.model.specs.Merge.{names, point_before}
use Rattle.model.specs.Steps.{overwrite}
use Rattle.tables.specs.Placed.{point_cell}
use Rattle.chain_sieve.specs.Doomed.{first_of}

-- Points parted at the one of docket k.
pub record Named (k : ℕ) (ps : List (Point ℕ Tally)) : Type 0 where
  pub before : List (Point ℕ Tally)
  pub point : Point ℕ Tally
  pub after : List (Point ℕ Tally)
  pub whole : ps ≡ before ++ point ∷ after
  pub key_is : eqb point.key k ≡ true
  pub none_before : names before k ≡ false
  pub none_after : names after k ≡ false

-- No point that follows the docket's is of that docket.
none_above : (k : ℕ) (p : Point ℕ Tally) → p.key ≡ k → (ps : List (Point ℕ Tally)) → All (λ q. point_before p q ≡ true) ps → names ps k ≡ false
unfolding any
none_above k p e [] a = refl
none_above k p e (q ∷ qs) a =
    or_false_intro (eqb q.key k) (names qs k) (ne_eqb q.key k (λ r. absurd (omega (arith, ltb-true p.key q.key a.0))))
    (none_above k p e qs a.1)

pub find_named : (k : ℕ) (ps : List (Point ℕ Tally)) → Ascending point_before ps → names ps k ≡ true → Named k ps
unfolding any
find_named k [] a h = absurd (false≢true h)
find_named k (p ∷ ps) a h = by_cases (eqb p.key k) here (λ e. there e (find_named k ps a.1 (or_second (eqb p.key k) (names ps k) h e)))
  where
    here : eqb p.key k ≡ true → Named k (p ∷ ps)
    here e = record {
      before = [];
      point = p;
      after = ps;
      whole = refl;
      key_is = e;
      none_before = refl;
      none_after = none_above k p (eqb-true p.key k e) ps a.0;
    }

    there : eqb p.key k ≡ false → Named k ps → Named k (p ∷ ps)
    there e n = record {
      before = p ∷ n.before;
      point = n.point;
      after = n.after;
      whole = ap (◌∷◌ p) n.whole;
      key_is = n.key_is;
      none_before = or_false_intro (eqb p.key k) (names n.before k) e n.none_before;
      none_after = n.none_after;
    }

-- The first point that passes the test is the docket's.
first_named : (k : ℕ) (qs : List (Point ℕ Tally)) (p : Point ℕ Tally) (rs : List (Point ℕ Tally)) → names qs k ≡ false → eqb p.key k ≡ true
    → first_of (map point_cell (select (λ q. eqb q.key k) (qs ++ p ∷ rs))) ≡ Some p.slot
unfolding any select
first_named k [] p rs h e = rw e
first_named k (q ∷ qs) p rs h e = rw (or_false_left (eqb q.key k) (names qs k) h) (first_named k qs p rs (or_false_right (eqb q.key k) (names qs k) h) e)

pub named_first : (k : ℕ) (ps : List (Point ℕ Tally)) (n : Named k ps) → first_of (map point_cell (select (λ q. eqb q.key k) ps)) ≡ Some n.point.slot
named_first k ps n =
    ap (λ (qs : List (Point ℕ Tally)). first_of (map point_cell (select (λ q. eqb q.key k) qs))) n.whole
    ∙ first_named k n.before n.point n.after n.none_before n.key_is

-- A put with this tally and stamp in the point's place.
abbrev pub written_over : Tally → ℕ → Point ℕ Tally → Point ℕ Tally
written_over a t p = record { slot = p.slot; key = p.key; entry = value a; stamp = t }

module _ (k : ℕ) (a : Tally) (t : ℕ) where
  pub untouched : (ps : List (Point ℕ Tally)) → names ps k ≡ false → map (overwrite k a t) ps ≡ ps
  unfolding any
  untouched [] h = refl
  untouched (p ∷ ps) h = rw (or_false_left (eqb p.key k) (names ps k) h, untouched ps (or_false_right (eqb p.key k) (names ps k) h))

  one_touched : (qs : List (Point ℕ Tally)) (p : Point ℕ Tally) (rs : List (Point ℕ Tally)) → names qs k ≡ false → eqb p.key k ≡ true → names rs k ≡ false
      → map (overwrite k a t) (qs ++ p ∷ rs) ≡ qs ++ written_over a t p ∷ rs
  unfolding any
  one_touched [] p rs h e n = rw (e, untouched rs n)
  one_touched (q ∷ qs) p rs h e n =
      rw (or_false_left (eqb q.key k) (names qs k) h, one_touched qs p rs (or_false_right (eqb q.key k) (names qs k) h) e n)

  pub overwritten : (ps : List (Point ℕ Tally)) (n : Named k ps) → map (overwrite k a t) ps ≡ n.before ++ written_over a t n.point ∷ n.after
  overwritten ps n = ap (map (overwrite k a t)) n.whole ∙ one_touched n.before n.point n.after n.none_before n.key_is n.none_after
