-- A level of one record merged into another level.
use mathlib.Core.Path.{◌≡◌, refl, ap, ◌∙◌}
use mathlib.Core.Logic.{◌≢◌}
use mathlib.Core.Bool.{Bool, false, cond, not}
use mathlib.Core.List.{List, [], ◌∷◌, ◌++◌, append-nil, map}
use Prim.Native.Nat.{ℕ, ◌+◌}
use native.Mathlib.Omega.{arith}
use lib.Dec.{eqb}
use lib.ListN.{length}
use Rattle.lists.specs.Lists.{any, select, reject, merge}
use Rattle.lists.proofs.Tests.{select_never, select_same}
use Rattle.model.specs.declared.Tally.{Tally}
use Rattle.model.specs.Records.{Range, Level, held}
use Rattle.model.specs.Merge.{point_before, range_before, point_goes, range_goes, later, earlier, merged, point_slots, range_slots, gone}
use Rattle.model.specs.Steps.{Write, single, unplaced}
use Rattle.merge_join.proofs.Counts.{held-merged}
use Rattle.table_slots.specs.declared.Kind.TheVariants as kinds
use Rattle.table_slots.specs.Kinds.{kind_number}
use Rattle.write_record.specs.Records.{record_of}
use Rattle.write_record.proofs.Singles.{single_no_range, single-held, single-owed, point_goes_alike, range_goes_alike}

reject_never : {X : Type 0} (t : X → Bool) → ((x : X) → t x ≡ false) → (xs : List X) → reject t xs ≡ xs
unfolding select
reject_never t h [] = refl
reject_never t h (x ∷ xs) = rw (h x, reject_never t h xs)

no_range_goes : (R : Type 0) (q : Range ℕ) → range_goes {R = R} [] q ≡ false
unfolding any
no_range_goes R q = refl

-- A level with no range leaves the ranges below it.
pub merged_no_range : (u l : Level ℕ Tally) → u.ranges ≡ [] → (merged u l).ranges ≡ l.ranges
unfolding merged merge
merged_no_range u l q = rw q (reject_never (range_goes {R = ℕ} []) (no_range_goes ℕ) l.ranges)

-- A put or a delete makes points go and no range.
pub no_range_gone : (t : ℕ) (v : Write Tally) (qs : List (Range ℕ)) → (record_of v).kind ≢ kinds.Range → select (range_goes (unplaced t v).ranges) qs ≡ []
no_range_gone t v qs ne = rw (single_no_range (tt {0}) t v ne) (select_never (range_goes {R = Unit {0}} []) (no_range_goes (Unit {0})) qs)

pub gone_by_point : (t : ℕ) (v : Write Tally) (l : Level ℕ Tally) → (record_of v).kind ≢ kinds.Range
    → gone (unplaced t v) l ≡ point_slots (select (point_goes (unplaced t v)) l.points)
gone_by_point t v l ne =
    ap (λ rs. point_slots (select (point_goes (unplaced t v)) l.points) ++ range_slots rs) (no_range_gone t v l.ranges ne)
    ∙ append-nil (point_slots (select (point_goes (unplaced t v)) l.points))

module _ (x t : ℕ) (v : Write Tally) (l : Level ℕ Tally) where
  -- What goes is the same before a slot is chosen and after.
  gone_alike : select (point_goes (single x t v)) l.points ≡ select (point_goes (unplaced t v)) l.points
  gone_alike = select_same (point_goes (single x t v)) (point_goes (unplaced t v)) (point_goes_alike x tt t v) l.points

  left_alike : reject (point_goes (single x t v)) l.points ≡ reject (point_goes (unplaced t v)) l.points
  left_alike =
      select_same (λ p. not (point_goes (single x t v) p)) (λ p. not (point_goes (unplaced t v) p))
      (λ p. ap not (point_goes_alike x tt t v p)) l.points

  ranges_gone_alike : select (range_goes (single x t v).ranges) l.ranges ≡ select (range_goes (unplaced t v).ranges) l.ranges
  ranges_gone_alike = select_same (range_goes (single x t v).ranges) (range_goes (unplaced t v).ranges) (range_goes_alike x tt t v) l.ranges

  ranges_left_alike : reject (range_goes (single x t v).ranges) l.ranges ≡ reject (range_goes (unplaced t v).ranges) l.ranges
  ranges_left_alike =
      select_same (λ q. not (range_goes (single x t v).ranges q)) (λ q. not (range_goes (unplaced t v).ranges q))
      (λ q. ap not (range_goes_alike x tt t v q)) l.ranges

  -- The record among the points or the ranges that stay.
  pub entered_points : (merged (single x t v) l).points ≡ merge point_before (single x t v).points (reject (point_goes (unplaced t v)) l.points)
  unfolding merged
  entered_points = ap (merge point_before (single x t v).points) left_alike

  pub entered_ranges : (merged (single x t v) l).ranges
      ≡ merge range_before (map (later l.ranges) (single x t v).ranges) (reject (range_goes (unplaced t v).ranges) l.ranges)
  unfolding merged
  entered_ranges = ap (merge range_before (map (later l.ranges) (single x t v).ranges)) ranges_left_alike

  pub entered_held : held (merged (single x t v) l) + length (select (point_goes (unplaced t v)) l.points)
      + length (select (range_goes (unplaced t v).ranges) l.ranges) ≡ 1 + held l
  entered_held = omega (arith, held-merged (single x t v) l, single-held x t v, ap length gone_alike, ap length ranges_gone_alike)

  pub entered_owed : (merged (single x t v) l).owed ≡ earlier (cond (eqb (kind_number (record_of v).kind) 1) 0 t) l.owed
  unfolding merged
  entered_owed = ap (λ (k : ℕ). earlier k l.owed) (single-owed x t v)
