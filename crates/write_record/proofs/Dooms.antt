-- The cells that a write makes go are those of the records that its level of one record makes go.
use mathlib.Core.Path.{◌≡◌, sym, ap, ◌∙◌}
use mathlib.Core.Bool.{Bool, ◌&&◌}
use mathlib.Core.List.{List, map}
use Prim.Native.Nat.{ℕ}
use native.Mathlib.Omega.{arith}
use lib.Dec.{eqb}
use Rattle.lists.specs.Lists.{select, reject}
use Rattle.lists.specs.All.{All}
use Rattle.lists.proofs.Bools.{eqb_sym}
use Rattle.lists.proofs.Tests.{all_weaken}
use Rattle.model.specs.declared.Tally.{Tally}
use Rattle.model.specs.Records as model
use Rattle.model.specs.Records.{Point}
use Rattle.model.specs.Merge.{point_goes, range_goes}
use Rattle.model.specs.Steps.{Write, single}
use Rattle.tables.specs.Placed.{point_cell, range_cell}
use Rattle.chain_cells.specs.Cells.{cell_hi}
use Rattle.chain_sieve.specs.Doomed.{has_span}
use Rattle.merge_join.proofs.Maps.{select-map_where, reject-map_where}
use Rattle.merge_join.proofs.Spans.{span_lo, span_hi}
use Rattle.merge_join.proofs.Points.{Keyed}
use Rattle.merge_join.proofs.Ranges.{Spanned}
use Rattle.table_slots.specs.declared.Kind.TheVariants as kinds
use Rattle.write_record.specs.Records.{record_of, displaces}
use Rattle.write_record.specs.declared.Record.{Record}
use Rattle.write_record.proofs.Singles.{single_goes, single-range_goes}

module _ {S : Type 0} (x : S) (t : ℕ) (v : Write Tally) (w : Record) (is : w ≡ record_of v) where
  -- A point's cell passes the test where the write makes the point go.
  point_doomed : (p : Point ℕ Tally) → Keyed p → displaces w (point_cell p) ≡ point_goes (single x t v) p
  point_doomed p low = ap (λ (r : Record). displaces r (point_cell p)) is ∙ single_goes x t v p low

  module _ (ps : List (Point ℕ Tally)) (keys : All Keyed ps) where
    pub points_gone : select (displaces w) (map point_cell ps) ≡ map point_cell (select (point_goes (single x t v)) ps)
    points_gone = select-map_where point_cell (displaces w) (point_goes (single x t v)) ps (all_weaken Keyed _ point_doomed ps keys)

    pub points_left : reject (displaces w) (map point_cell ps) ≡ map point_cell (reject (point_goes (single x t v)) ps)
    points_left = reject-map_where point_cell (displaces w) (point_goes (single x t v)) ps (all_weaken Keyed _ point_doomed ps keys)

  -- And a range's cell, where the write is a range delete.
  range_doomed : (q : model.Range ℕ) → w.kind ≡ kinds.Range → Spanned q → has_span w.lo w.hi (range_cell q) ≡ range_goes (single x t v).ranges q
  range_doomed q k s =
      ap (λ (n : ℕ). eqb n w.lo && eqb (cell_hi (range_cell q)) w.hi) (span_lo q.lo q.hi (omega (arith, s.0, s.1)))
      ∙ ap (λ (n : ℕ). eqb q.lo w.lo && eqb n w.hi) (span_hi q.lo q.hi (omega (arith, s.0, s.1)))
      ∙ ap (λ (b : Bool). b && eqb q.hi w.hi) (eqb_sym q.lo w.lo) ∙ ap (λ (b : Bool). eqb w.lo q.lo && b) (eqb_sym q.hi w.hi)
      ∙ ap (λ (r : Record). eqb r.lo q.lo && eqb r.hi q.hi) is ∙ sym (single-range_goes x t v q (ap (λ (r : Record). r.kind) (sym is) ∙ k))

  module _ (qs : List (model.Range ℕ)) (spans : All Spanned qs) (ranged : w.kind ≡ kinds.Range) where
    pub ranges_gone : select (has_span w.lo w.hi) (map range_cell qs) ≡ map range_cell (select (range_goes (single x t v).ranges) qs)
    ranges_gone =
        select-map_where range_cell (has_span w.lo w.hi) (range_goes (single x t v).ranges) qs
        (all_weaken Spanned _ (λ q. range_doomed q ranged) qs spans)

    pub ranges_left : reject (has_span w.lo w.hi) (map range_cell qs) ≡ map range_cell (reject (range_goes (single x t v).ranges) qs)
    ranges_left =
        reject-map_where range_cell (has_span w.lo w.hi) (range_goes (single x t v).ranges) qs
        (all_weaken Spanned _ (λ q. range_doomed q ranged) qs spans)
