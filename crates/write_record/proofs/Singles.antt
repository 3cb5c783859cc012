-- A level of one record: which records it makes go, and what it is as a cell.
use mathlib.Core.Path.{◌≡◌, refl, sym, ap, ◌∙◌}
use mathlib.Core.Logic.{◌≢◌}
use mathlib.Core.Bool.{false, cond, ◌&&◌, ◌||◌}
use mathlib.Core.List.{[], ◌∷◌, map}
use Prim.Native.Nat.{ℕ}
use lib.Dec.{ltb, eqb}
use borrow.Author.Tests.{ltb-false}
use Rattle.lists.specs.Lists.{any}
use Rattle.lists.specs.All.{All}
use Rattle.lists.proofs.Bools.{or_false, or_false_left, or_false_right, eqb_sym}
use Rattle.model.specs.declared.Tally.{Tally}
use Rattle.model.specs.Records.{Point, Range, held}
use Rattle.model.specs.Coverage.{covers}
use Rattle.model.specs.Merge.{point_goes, range_goes}
use Rattle.model.specs.Steps.{Write, put, delete, delete_range, single}
use Rattle.model.specs.Calls.{written, bad_docket}
use Rattle.tables.specs.Placed.{point_cell, range_cell}
use Rattle.chain_cells.specs.Cells.{cell_lo}
use Rattle.merge_join.proofs.Points.{Keyed, point_lo}
use Rattle.merge_join.proofs.Ranges.{Spanned}
use Rattle.table_slots.specs.declared.Kind.TheVariants as kinds
use Rattle.table_slots.specs.Kinds.{kind_number}
use Rattle.write_record.specs.Records.{record_of, record_cell, displaces}

-- A cell's docket is its point's.
of_docket : (k : ℕ) (p : Point ℕ Tally) → Keyed p → eqb (cell_lo (point_cell p)) k ≡ (eqb k p.key || false) || false
of_docket k p low =
    ap (λ (n : ℕ). eqb n k) (point_lo p low) ∙ eqb_sym p.key k ∙ sym (or_false (eqb k p.key || false) ∙ or_false (eqb k p.key))

module _ {S : Type 0} (x : S) (t : ℕ) where
  -- A point's cell passes the test of the write's record where the write makes the point go.
  pub single_goes : (v : Write Tally) (p : Point ℕ Tally) → Keyed p → displaces (record_of v) (point_cell p) ≡ point_goes (single x t v) p
  unfolding single any
  single_goes (put k a) p low = of_docket k p low
  single_goes (delete k) p low = of_docket k p low
  single_goes (delete_range lo hi date) p low =
      ap (λ (k : ℕ). covers lo hi date k p.stamp) (point_lo p low) ∙ sym (or_false (covers lo hi date p.key p.stamp))

  -- A range goes where it has the same lo and hi as a range delete.
  pub single-range_goes : (v : Write Tally) (q : Range ℕ) → (record_of v).kind ≡ kinds.Range
      → range_goes (single x t v).ranges q ≡ eqb (record_of v).lo q.lo && eqb (record_of v).hi q.hi
  unfolding single any
  single-range_goes (put k a) q e = cc
  single-range_goes (delete k) q e = cc
  single-range_goes (delete_range lo hi date) q e = or_false (eqb lo q.lo && eqb hi q.hi)

-- What goes does not hang on the slot.
pub point_goes_alike : {S : Type 0} (x : ℕ) (y : S) (t : ℕ) (v : Write Tally) (p : Point ℕ Tally) → point_goes (single x t v) p ≡ point_goes (single y t v) p
unfolding single any
point_goes_alike x y t (put k a) p = refl
point_goes_alike x y t (delete k) p = refl
point_goes_alike x y t (delete_range lo hi date) p = refl

pub range_goes_alike : {S : Type 0} (x : ℕ) (y : S) (t : ℕ) (v : Write Tally) (q : Range ℕ)
    → range_goes (single x t v).ranges q ≡ range_goes (single y t v).ranges q
unfolding single any
range_goes_alike x y t (put k a) q = refl
range_goes_alike x y t (delete k) q = refl
range_goes_alike x y t (delete_range lo hi date) q = refl

-- The one record of a put or a delete is a point, that of a range delete a range.
pub single_no_range : {S : Type 0} (x : S) (t : ℕ) (v : Write Tally) → (record_of v).kind ≢ kinds.Range → (single x t v).ranges ≡ []
unfolding single
single_no_range x t (put k a) ne = refl
single_no_range x t (delete k) ne = refl
single_no_range x t (delete_range lo hi date) ne = absurd (ne refl)

pub single_no_point : {S : Type 0} (x : S) (t : ℕ) (v : Write Tally) → (record_of v).kind ≡ kinds.Range → (single x t v).points ≡ []
unfolding single
single_no_point x t (put k a) q = cc
single_no_point x t (delete k) q = cc
single_no_point x t (delete_range lo hi date) q = refl

pub single-point_cell : (x t : ℕ) (v : Write Tally) → (record_of v).kind ≢ kinds.Range → map point_cell (single x t v).points ≡ record_cell x t (record_of v) ∷ []
unfolding single
single-point_cell x t (put k a) ne = refl
single-point_cell x t (delete k) ne = refl
single-point_cell x t (delete_range lo hi date) ne = absurd (ne refl)

pub single-range_cell : (x t : ℕ) (v : Write Tally) → (record_of v).kind ≡ kinds.Range → map range_cell (single x t v).ranges ≡ record_cell x t (record_of v) ∷ []
unfolding single
single-range_cell x t (put k a) q = cc
single-range_cell x t (delete k) q = cc
single-range_cell x t (delete_range lo hi date) q = refl

pub single-owed : (x t : ℕ) (v : Write Tally) → (single x t v).owed ≡ cond (eqb (kind_number (record_of v).kind) 1) 0 t
unfolding single
single-owed x t (put k a) = refl
single-owed x t (delete k) = refl
single-owed x t (delete_range lo hi date) = refl

pub single-held : (x t : ℕ) (v : Write Tally) → held (single x t v) ≡ 1
unfolding single
single-held x t (put k a) = refl
single-held x t (delete k) = refl
single-held x t (delete_range lo hi date) = refl

-- Accepted dockets are at most 65,535, and lo is not above hi.
pub single_keyed : (x t : ℕ) (v : Write Tally) → bad_docket (written v) ≡ false → All Keyed (single x t v).points
unfolding single
single_keyed x t (put k a) d = (ltb-false 65535 k d, tt)
single_keyed x t (delete k) d = (ltb-false 65535 k d, tt)
single_keyed x t (delete_range lo hi date) d = tt

pub single_spanned : (x t : ℕ) (v : Write Tally) → bad_docket (written v) ≡ false → All Spanned (single x t v).ranges
unfolding single
single_spanned x t (put k a) d = tt
single_spanned x t (delete k) d = tt
single_spanned x t (delete_range lo hi date) d =
    let ordered = or_false_right (ltb 65535 hi) (ltb hi lo) d in
    let small = or_false_left (ltb 65535 hi) (ltb hi lo) d in
    ((ltb-false hi lo ordered, ltb-false 65535 hi small), tt)
