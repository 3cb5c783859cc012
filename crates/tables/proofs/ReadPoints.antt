-- The points of what tables read as, by their slots: each is what its slot reads, and where no other slot has its docket a lookup finds it.
use mathlib.Core.Path.{◌≡◌, refl, sym, ap, ◌∙◌}
use mathlib.Core.Bool.{Bool, true, false, cond, false≢true}
use mathlib.Core.List.{List, [], ◌∷◌, map, append-nil}
use Prim.Native.Nat.{ℕ, zero, suc, ◌+◌, ◌≤◌}
use native.Mathlib.Omega.{arith}
use native.Mathlib.Decide.{ℕ_discrete}
use lib.Dec.{eqb}
use borrow.Author.Tests.{eqb-true, eqb-false, eq-eqb, lt-leb}
use Rattle.lists.specs.Lists.{count}
use Rattle.lists.specs.All.{All}
use Rattle.lists.proofs.Bools.{by_cases}
use Rattle.lists.proofs.Tests.{all_append, append_map}
use Rattle.model.specs.declared.Tally.{Tally}
use Rattle.model.specs.Records.{Level, is_put, Point}
use Rattle.model.specs.Merge.{point_slots}
use Rattle.model.specs.Lookup as model
use Rattle.model.specs.Lookup.{absent, judged, find}
use Rattle.model.specs.Live.{all_points}
use Rattle.model.proofs.Full.{AllPuts}
use Rattle.model.proofs.Puts.{PutsOnly}
use Rattle.tables.specs.Slots.{kind_of, lo_of, tally_of, stamp_of}
use Rattle.tables.specs.Sound.{point_chain}
use Rattle.tables.specs.Placed.{read_point, read_levels, levels_as}
use Rattle.tables.specs.Formed.{levels_slots}
use Rattle.tables.proofs.Cells.{times, times_other}
use Rattle.tables.proofs.SlotLists.{count_one}

-- The slots of levels that hold puts alone.
pub slots_points : {S A : Type 0} (ls : List (Level S A)) → All PutsOnly ls → levels_slots ls ≡ point_slots (all_points ls)
slots_points [] a = refl
slots_points (l ∷ ls) a =
    rw (a.0.1, slots_points ls a.1, append-nil (point_slots l.points)) (sym (append_map (λ p. p.slot) l.points (all_points ls)))

-- Points that are what their slots read.
module _ (e : List ℕ) where
  pub Own : Point ℕ Tally → Type 0
  Own x = read_point e x.slot ≡ x

  own_chain : (ss : List ℕ) → All Own (map (read_point e) ss)
  unfolding Own
  own_chain [] = tt
  own_chain (s ∷ ss) = (refl, own_chain ss)

  pub own_levels : (l : List ℕ) (j i : ℕ) → All Own (all_points (read_levels e l j i))
  unfolding levels_as
  own_levels l zero i = tt
  own_levels l (suc j) i = all_append Own (map (read_point e) (point_chain e l i)) (all_points (read_levels e l j (suc i))) (own_chain (point_chain e l i)) (own_levels l j (suc i))

  pub own_back : (xs : List (Point ℕ Tally)) → All Own xs → map (read_point e) (point_slots xs) ≡ xs
  unfolding Own
  own_back [] a = refl
  own_back (x ∷ xs) a = ap (λ y. y ∷ map (read_point e) (point_slots xs)) a.0 ∙ ap (◌∷◌ x) (own_back xs a.1)

  -- A put's slot has kind 1.
  put_kind : (s : ℕ) → is_put (read_point e s).entry ≡ true → kind_of e s ≡ 1
  put_kind s h = by_cases (eqb (kind_of e s) 1) (λ y. eqb-true (kind_of e s) 1 y) (λ n. absurd (false≢true (rw n at h)))

  pub kind_put : (s : ℕ) → kind_of e s ≡ 1 → is_put (read_point e s).entry ≡ true
  kind_put s h = rw (eq-eqb (kind_of e s) 1 h)

  pub put_kinds : (ss : List ℕ) → AllPuts (map (read_point e) ss) → All (λ s. kind_of e s ≡ 1) ss
  put_kinds [] a = tt
  put_kinds (s ∷ ss) a = (put_kind s a.0, put_kinds ss a.1)

  -- A slot that alone has its docket decides it.
  pub find_own : (i : ℕ) (ss : List ℕ) → kind_of e i ≡ 1 → 1 ≤ stamp_of e i → 1 ≤ times i ss → count (λ s. eqb (lo_of e s) (lo_of e i)) ss ≤ 1
      → find 0 (map (read_point e) ss) (lo_of e i) absent ≡ model.found (tally_of e i) (stamp_of e i)
  unfolding find count
  find_own i [] q t h c = absurd (omega arith)
  find_own i (s ∷ ss) q t h c = go (ℕ_discrete i s) (eqb (lo_of e s) (lo_of e i)) refl c (find_own i ss q t)
    where
      go : Dec (i ≡ s) → (b : Bool) → eqb (lo_of e s) (lo_of e i) ≡ b → cond b 1 0 + count (λ s. eqb (lo_of e s) (lo_of e i)) ss ≤ 1
          → (1 ≤ times i ss → count (λ s. eqb (lo_of e s) (lo_of e i)) ss ≤ 1 → find 0 (map (read_point e) ss) (lo_of e i) absent ≡ model.found (tally_of e i) (stamp_of e i))
          → cond b (judged 0 (read_point e s).entry (stamp_of e s)) (find 0 (map (read_point e) ss) (lo_of e i) absent) ≡ model.found (tally_of e i) (stamp_of e i)
      go (yes r) true g m ih = ap (λ x. judged 0 (read_point e x).entry (stamp_of e x)) (sym r) ∙ rw (lt-leb (stamp_of e i) 0 t, eq-eqb (kind_of e i) 1 q)
      go (yes r) false g m ih = absurd (eqb-false (lo_of e s) (lo_of e i) g (ap (lo_of e) (sym r)))
      go (no r) true g m ih =
          absurd (omega (arith, m, h, times_other i s ss r, count_one (λ s. eqb (lo_of e s) (lo_of e i)) i (eq-eqb (lo_of e i) (lo_of e i) refl) ss))
      go (no r) false g m ih = ih (omega (arith, h, times_other i s ss r)) (omega (arith, m))
