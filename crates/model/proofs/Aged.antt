-- The age of records: of each docket nothing deeper is later, and stamps lie from 1 to the clock. A store from fresh is never otherwise; sound tables may be.
use mathlib.Core.Path.{◌≡◌, refl}
use mathlib.Core.Bool.{Bool, true, false, false≢true}
use mathlib.Core.List.{List, [], ◌∷◌}
use Prim.Native.Nat.{ℕ, zero, suc, ◌≤◌}
use native.Mathlib.Omega.{arith}
use lib.ListN.{get_or, set, replicate}
use Rattle.lists.specs.Lists.{any, select, merge}
use Rattle.lists.specs.All.{All}
use Rattle.lists.proofs.Tests.{all_weaken, all_every}
use Rattle.model.specs.Records.{Point, Level, empty}
use Rattle.model.specs.Merge.{covered, merged, settled, joined}
use Rattle.model.specs.Steps.{Write, put, delete, delete_range, single}
use Rattle.model.proofs.Points.{merge_in, merge_in_all, merged_points, joined_points, merge_points}
use Rattle.model.proofs.Lookups.{Upto, Yielding}

module _ {S A : Type 0} where
  -- "Stamps lie from 1 to the last clock", of a level's points.
  abbrev pub Stamped : ℕ → Level S A → Type 0
  Stamped t l = All (λ p. (1 ≤ p.stamp) × (p.stamp ≤ t)) l.points

  -- Of each docket every stamp below is at most those above.
  abbrev pub Aged : List (Level S A) → Type 0
  Aged [] = Unit {0}
  Aged (l ∷ ls) = All (λ p. All (Upto p.key p.stamp) ls) l.points × Aged ls

  -- A level without ranges.
  abbrev pub Bare : Level S A → Type 0
  Bare l = l.ranges ≡ []

  aged_merge : (b : Bool) (i : ℕ) (ls : List (Level S A)) → Aged ls → Aged (merge_in b i ls)
  aged_merge b i [] a = tt
  aged_merge b zero (u ∷ []) a = (tt, tt)
  aged_merge b zero (u ∷ l ∷ ls) a = (tt, (joined_points _ b u l (all_weaken _ _ (λ p h. h.1) u.points a.0) a.1.0, a.1.1))
  aged_merge b (suc i) (u ∷ ls) a =
      (all_weaken _ _ (λ p h. merge_points (λ q. q.key ≡ p.key → q.stamp ≤ p.stamp) b i ls h) u.points a.0, aged_merge b i ls a.1)

  bare_joined : (b : Bool) (u l : Level S A) → Bare u → Bare l → Bare (joined b u l)
  unfolding joined settled merged
  bare_joined true u l a c = refl
  bare_joined false u l a c = rw (a, c) (unfold merge select in refl)

  -- What every merge keeps, and under which none changes a lookup.
  pub record Steady (P : List (Level S A) → Type 0) : Type 0 where
    pub yields : (ls : List (Level S A)) → P ls → Yielding ls
    pub merging : (b : Bool) (i : ℕ) (ls : List (Level S A)) → P ls → P (merge_in b i ls)

  pub aged_steady : Steady Aged
  aged_steady = record { yields = yields; merging = aged_merge }
    where
      yields : (ls : List (Level S A)) → Aged ls → Yielding ls
      yields [] a = tt
      yields (u ∷ []) a = tt
      yields (u ∷ l ∷ ls) a = (all_weaken _ _ (λ p h c. h) l.points a.1.0, yields (l ∷ ls) a.1)

  -- Where there is no range nothing is covered, whatever the stamps.
  pub bare_steady : Steady (All Bare)
  unfolding any
  bare_steady = record { yields = yields; merging = merge_in_all Bare refl bare_joined }
    where
      uncovered : (u : Level S A) → Bare u → (k t : ℕ) → covered u.ranges k t ≡ true → ⊥
      uncovered u e k t c = false≢true (rw e at c)

      yields : (ls : List (Level S A)) → All Bare ls → Yielding ls
      yields [] a = tt
      yields (u ∷ []) a = tt
      yields (u ∷ l ∷ ls) a = (all_every _ (λ p c. absurd (uncovered u a.0 p.key p.stamp c)) l.points, yields (l ∷ ls) a.1)

-- The levels of a store from fresh, at clock t.
pub record Timely {S A : Type 0} (t : ℕ) (ls : List (Level S A)) : Type 0 where
  pub stamps : All (Stamped t) ls
  pub aged : Aged ls

module _ {S A : Type 0} where
  pub timely_later : (t u : ℕ) (ls : List (Level S A)) → t ≤ u → Timely t ls → Timely u ls
  timely_later t u ls h a = record
      { stamps = all_weaken _ _ (λ l b. all_weaken _ _ (λ p c. (c.0, omega (arith, c.1))) l.points b) ls a.stamps; aged = a.aged }

  pub timely_merge : (t : ℕ) (b : Bool) (i : ℕ) (ls : List (Level S A)) → Timely t ls → Timely t (merge_in b i ls)
  timely_merge t b i ls a = record { stamps = merge_points _ b i ls a.stamps; aged = aged_merge b i ls a.aged }

  single_stamps : (x : S) (t : ℕ) (w : Write A) → All (λ p. p.stamp ≡ t) (single x t w).points
  unfolding single
  single_stamps x t (put k a) = (refl, tt)
  single_stamps x t (delete k) = (refl, tt)
  single_stamps x t (delete_range lo hi date) = tt

  -- A write at t is later than all that is there.
  pub timely_enter : (x : S) (t : ℕ) (w : Write A) (ls : List (Level S A)) → 1 ≤ t → Timely t ls → Timely t (set ls 0 (merged (single x t w) (get_or ls 0 empty)))
  timely_enter x t w [] low a = a
  timely_enter x t w (b ∷ ls) low a = record {
    stamps = (merged_points _ (single x t w) b (all_weaken _ _ (λ p e. (omega arith, omega arith)) (single x t w).points (single_stamps x t w)) a.stamps.0, a.stamps.1);
    aged = (merged_points _ (single x t w) b (all_weaken _ _ below (single x t w).points (single_stamps x t w)) a.aged.0, a.aged.1);
  }
    where
      below : (p : Point S A) → p.stamp ≡ t → All (Upto p.key p.stamp) ls
      below p e = all_weaken _ _ (λ l c. all_weaken _ _ (λ q d f. omega (arith, d.1)) l.points c) ls a.stamps.1

  pub replicate_timely : (t n : ℕ) → Timely t (replicate n (empty {S = S} {A = A}))
  replicate_timely t zero = record { stamps = tt; aged = tt }
  replicate_timely t (suc n) = record { stamps = (tt, (replicate_timely t n).stamps); aged = (tt, (replicate_timely t n).aged) }
