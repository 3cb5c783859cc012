-- Points as cells: their dockets, their order, and which of them are deletes.
use mathlib.Core.Path.{◌≡◌, refl, ap, ◌∙◌}
use mathlib.Core.Bool.{not}
use mathlib.Core.List.{List, map}
use Prim.Native.Nat.{ℕ, ◌≤◌}
use lib.Dec.{eqb}
use Rattle.lists.specs.Lists.{select, reject, merge}
use Rattle.lists.specs.All.{All, Ascending}
use Rattle.lists.proofs.Tests.{all_map, all_weaken, select-map, select_same}
use Rattle.model.specs.declared.Tally.{Tally}
use Rattle.model.specs.Records.{Entry, value, tombstone, Point, is_put}
use Rattle.model.specs.Merge.{names, point_before}
use Rattle.tables.specs.Placed.{entry_kind, point_cell}
use Rattle.chain_cells.specs.Cells.{cell_lo, cell_hi, cell_before, cells_name}
use Rattle.chain_cells.specs.Order.{CellsOrdered}
use Rattle.chain_sieve.specs.Doomed.{is_delete}
use Rattle.merge_join.proofs.Maps.{any-map_where, merge-map_where, map_ascending_where}
use Rattle.merge_join.proofs.Spans.{span_lo, span_hi, key_one}

-- A docket that half a word can hold.
abbrev pub Keyed : Point ℕ Tally → Type 0
Keyed p = p.key ≤ 65535

pub point_lo : (p : Point ℕ Tally) → Keyed p → cell_lo (point_cell p) ≡ p.key
point_lo p = span_lo p.key p.key

point_hi : (p : Point ℕ Tally) → Keyed p → cell_hi (point_cell p) ≡ p.key
point_hi p = span_hi p.key p.key

cells_before : (p q : Point ℕ Tally) → Keyed p → Keyed q → cell_before (point_cell p) (point_cell q) ≡ point_before p q
cells_before p q a b = rw (point_lo p a, point_hi p a, point_lo q b, point_hi q b) (key_one p.key q.key)

module _ (ps : List (Point ℕ Tally)) (keys : All Keyed ps) where
  -- A cell that has the docket is a point that names it.
  pub points_name : (k : ℕ) → cells_name (map point_cell ps) k ≡ names ps k
  points_name k =
      any-map_where point_cell (λ c. eqb (cell_lo c) k) (λ p. eqb p.key k) ps
      (all_weaken Keyed _ (λ p low. ap (λ (n : ℕ). eqb n k) (point_lo p low)) ps keys)

  pub points_ordered : Ascending point_before ps → CellsOrdered (map point_cell ps)
  points_ordered a = record {
    ascend = map_ascending_where point_cell Keyed point_before cell_before cells_before ps keys a;
    fit = all_map point_cell (λ c. cell_hi c ≤ 65535) ps (all_weaken Keyed (λ p. cell_hi (point_cell p) ≤ 65535) (λ p low. rw (point_hi p low) low) ps keys);
  }

  pub points_merge : (qs : List (Point ℕ Tally)) → All Keyed qs
      → merge cell_before (map point_cell ps) (map point_cell qs) ≡ map point_cell (merge point_before ps qs)
  points_merge qs = merge-map_where point_cell Keyed point_before cell_before cells_before ps qs keys

-- The deletes among the points, and the puts.
deletes : (n : Entry Tally) → eqb (entry_kind n) 2 ≡ not (is_put n)
deletes (value a) = refl
deletes tombstone = refl

puts : (n : Entry Tally) → not (eqb (entry_kind n) 2) ≡ is_put n
puts (value a) = refl
puts tombstone = refl

pub delete_cells : (ps : List (Point ℕ Tally)) → select is_delete (map point_cell ps) ≡ map point_cell (reject (λ p. is_put p.entry) ps)
delete_cells ps = select-map point_cell is_delete ps ∙ ap (map point_cell) (select_same _ _ (λ p. deletes p.entry) ps)

pub put_cells : (ps : List (Point ℕ Tally)) → reject is_delete (map point_cell ps) ≡ map point_cell (select (λ p. is_put p.entry) ps)
put_cells ps = select-map point_cell (λ c. not (is_delete c)) ps ∙ ap (map point_cell) (select_same _ _ (λ p. puts p.entry) ps)
