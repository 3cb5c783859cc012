-- Ranges as cells: what they cover, their order, which are doubled, and the later date and stamp.
use mathlib.Core.Path.{◌≡◌, refl, sym, ap, ◌∙◌}
use mathlib.Core.Bool.{cond}
use mathlib.Core.List.{List, [], ◌∷◌, map}
use Prim.Native.Nat.{ℕ, ◌≤◌}
use native.Mathlib.Omega.{arith}
use Rattle.lists.specs.Lists.{merge}
use Rattle.lists.specs.All.{All, Ascending}
use Rattle.lists.proofs.Bools.{cond_ap, cond_elim}
use Rattle.lists.proofs.Tests.{all_map, all_weaken}
use Rattle.model.specs.Records.{Range}
use Rattle.model.specs.Merge.{range_covers, covered, range_before, same_range, range_goes, united, later}
use Rattle.tables.specs.Placed.{range_cell, head}
use Rattle.chain_cells.specs.Cells.{cell_lo, cell_hi, cell_before, cell_covers, cells_cover}
use Rattle.chain_cells.specs.Order.{CellsOrdered}
use Rattle.merge_unite.specs.Uniting.{same_span, doubled, united_cell, later_cell}
use Rattle.merge_join.proofs.Maps.{any-map_where, map-map_where, merge-map_where, map_ascending_where}
use Rattle.merge_join.proofs.Spans.{span_lo, span_hi, key_before, span_equal}

-- From lo to hi, each in half a word.
abbrev pub Spanned : Range ℕ → Type 0
Spanned r = (r.lo ≤ r.hi) × (r.hi ≤ 65535)

range_lo : (r : Range ℕ) → Spanned r → cell_lo (range_cell r) ≡ r.lo
range_lo r s = span_lo r.lo r.hi (omega (arith, s.0, s.1))

range_hi : (r : Range ℕ) → Spanned r → cell_hi (range_cell r) ≡ r.hi
range_hi r s = span_hi r.lo r.hi (omega (arith, s.0, s.1))

cell_covers_range : (k t : ℕ) (r : Range ℕ) → Spanned r → cell_covers (range_cell r) k t ≡ range_covers r k t
cell_covers_range k t r s = rw (range_lo r s, range_hi r s)

cells_before : (r q : Range ℕ) → Spanned r → Spanned q → cell_before (range_cell r) (range_cell q) ≡ range_before r q
cells_before r q s t = rw (range_lo r s, range_hi r s, range_lo q t, range_hi q t) (key_before r.lo r.hi q.lo q.hi s.1 t.1)

cells_same : (r q : Range ℕ) → Spanned r → Spanned q → same_span (range_cell r) (range_cell q) ≡ same_range r q
cells_same r q s t = span_equal r.lo r.hi q.lo q.hi (omega (arith, s.0, s.1)) (omega (arith, t.0, t.1))

module _ (rs : List (Range ℕ)) (spans : All Spanned rs) where
  -- A cell that covers a record of docket k with stamp t is a range that covers it.
  pub ranges_cover : (k t : ℕ) → cells_cover (map range_cell rs) k t ≡ covered rs k t
  ranges_cover k t = any-map_where range_cell (λ c. cell_covers c k t) (λ r. range_covers r k t) rs (all_weaken _ _ (cell_covers_range k t) rs spans)

  pub ranges_ordered : Ascending range_before rs → CellsOrdered (map range_cell rs)
  ranges_ordered a = record {
    ascend = map_ascending_where range_cell Spanned range_before cell_before cells_before rs spans a;
    fit = all_map range_cell (λ c. cell_hi c ≤ 65535) rs (all_weaken Spanned (λ r. cell_hi (range_cell r) ≤ 65535) (λ r s. rw (range_hi r s) s.1) rs spans);
  }

  pub ranges_merge : (qs : List (Range ℕ)) → All Spanned qs
      → merge cell_before (map range_cell rs) (map range_cell qs) ≡ map range_cell (merge range_before rs qs)
  ranges_merge qs = merge-map_where range_cell Spanned range_before cell_before cells_before rs qs spans

  -- A range of the same lo and hi is a cell of the same span.
  pub range_doubled : (q : Range ℕ) → Spanned q → doubled (map range_cell rs) (range_cell q) ≡ range_goes rs q
  range_doubled q t = any-map_where range_cell (λ d. same_span d (range_cell q)) (λ r. same_range r q) rs (all_weaken _ _ (λ r s. cells_same r q s t) rs spans)

-- A range beside one below it.
abbrev beside : Range ℕ → Range ℕ → Range ℕ
beside q r = cond (same_range q r) (united r q) r

beside_spanned : (q r : Range ℕ) → Spanned r → Spanned (beside q r)
beside_spanned q r s = cond_elim Spanned (same_range q r) (united r q) r (λ e. s) (λ e. s)

beside-slot : (q r : Range ℕ) → (beside q r).slot ≡ r.slot
beside-slot q r = cond_elim (λ (x : Range ℕ). x.slot ≡ r.slot) (same_range q r) (united r q) r (λ e. refl) (λ e. refl)

beside_cell : (q r : Range ℕ) → Spanned q → Spanned r
    → cond (same_span (range_cell q) (range_cell r)) (united_cell (range_cell r) (range_cell q)) (range_cell r) ≡ range_cell (beside q r)
beside_cell q r t s = rw (cells_same q r t s) (sym (cond_ap range_cell (same_range q r) (united r q) r))

-- The later date and stamp, in cells and in ranges.
later_range : (qs : List (Range ℕ)) → All Spanned qs → (r : Range ℕ) → Spanned r → later_cell (map range_cell qs) (range_cell r) ≡ range_cell (later qs r)
unfolding later_cell later
later_range [] a r s = refl
later_range (q ∷ qs) a r s =
    ap (later_cell (map range_cell qs)) (beside_cell q r a.0 s) ∙ later_range qs a.1 (beside q r) (beside_spanned q r s)

pub later_ranges : (qs : List (Range ℕ)) → All Spanned qs → (rs : List (Range ℕ)) → All Spanned rs
    → map (later_cell (map range_cell qs)) (map range_cell rs) ≡ map range_cell (map (later qs) rs)
later_ranges qs a rs b = map-map_where range_cell (later_cell (map range_cell qs)) (later qs) rs (all_weaken _ _ (later_range qs a) rs b)

later-slot : (qs : List (Range ℕ)) (r : Range ℕ) → (later qs r).slot ≡ r.slot
unfolding later
later-slot [] r = refl
later-slot (q ∷ qs) r = later-slot qs (beside q r) ∙ beside-slot q r

-- The later date and stamp leave a chain's first slot as it is.
pub later-head : (qs rs : List (Range ℕ)) → head (map range_cell rs) ≡ head (map range_cell (map (later qs) rs))
later-head qs [] = refl
later-head qs (r ∷ rs) = sym (later-slot qs r)

later_spanned : (qs : List (Range ℕ)) (r : Range ℕ) → Spanned r → Spanned (later qs r)
unfolding later
later_spanned [] r s = s
later_spanned (q ∷ qs) r s = later_spanned qs (beside q r) (beside_spanned q r s)

pub all_later_spanned : (qs rs : List (Range ℕ)) → All Spanned rs → All Spanned (map (later qs) rs)
all_later_spanned qs rs b = all_map (later qs) Spanned rs (all_weaken _ _ (later_spanned qs) rs b)
