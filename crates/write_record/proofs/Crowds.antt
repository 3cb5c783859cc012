-- Whether a write finds no room, read from the first free slot and the first cells that would go.
use mathlib.Core.Path.{◌≡◌, refl, sym, ap, ◌∙◌}
use mathlib.Core.Logic.{◌≢◌}
use mathlib.Core.Bool.{Bool, true, false, ◌&&◌}
use mathlib.Core.List.{List, [], ◌∷◌, ◌++◌, map}
use Prim.Native.Nat.{ℕ}
use native.Mathlib.Omega.{arith}
use lib.Dec.{eqb}
use borrow.Author.Tests.{eq-eqb, ne_eqb}
use Rattle.std.specs.Prelude.{Option, is_none}
use Rattle.lists.specs.Lists.{none, select}
use Rattle.lists.proofs.Tests.{none-map}
use Rattle.model.specs.declared.Tally.{Tally}
use Rattle.model.specs.Records as model
use Rattle.model.specs.Records.{level}
use Rattle.model.specs.Merge.{point_goes, range_goes, point_slots, range_slots}
use Rattle.model.specs.Steps.{Write, unplaced, crowded}
use Rattle.tables.specs.Slots.{Slot, first_free}
use Rattle.tables.specs.Placed.{Cell, free_cell, point_cell, range_cell, head}
use Rattle.tables.proofs.Cells.{Chained}
use Rattle.chain_sieve.specs.Doomed.{first_of, has_span}
use Rattle.merge_levels.specs.Laid.{Store, Laid}
use Rattle.merge_levels.proofs.Store.{laid_formed}
use Rattle.table_slots.specs.declared.Kind.TheVariants as kinds
use Rattle.write_record.specs.Records.{record_of, displaces}
use Rattle.write_record.specs.declared.Record.{Record}
use Rattle.write_record.proofs.SingleMerges.{no_range_gone}
use Rattle.write_record.proofs.Dooms.{points_gone, ranges_gone}

none_append : {X : Type 0} (xs ys : List X) → none (xs ++ ys) ≡ none xs && none ys
none_append [] ys = refl
none_append (x ∷ xs) ys = refl

-- A chain's first slot is 0 where it has no cell, and not otherwise; and where cells are, there is a first.
head-none : (n : ℕ) (e : List ℕ) (cs : List Cell) → Chained n e cs → eqb (head cs) 0 ≡ none cs
head-none n e [] h = refl
head-none n e (c ∷ cs) h = ne_eqb c.slot 0 (λ q. absurd (omega (arith, h.0)))

first-none : (cs : List Cell) → is_none (first_of cs) ≡ none cs
first-none [] = refl
first-none (c ∷ cs) = refl

module _ {g : Store} {e l : List ℕ} (laid : Laid g e l) (v : Write Tally) {w : Record} (is : w ≡ record_of v) where
  -- The points and ranges of the buffer that the write would make go.
  abbrev points_gone_of : List (model.Point ℕ Tally)
  points_gone_of = select (point_goes (unplaced g.time v)) (level 0 g.state).points

  abbrev ranges_gone_of : List (model.Range ℕ)
  ranges_gone_of = select (range_goes (unplaced g.time v).ranges) (level 0 g.state).ranges

  -- The same, in the cells that the code looks for.
  abbrev point_cells_gone : List Cell
  point_cells_gone = select (displaces w) (map point_cell (level 0 g.state).points)

  abbrev range_cells_gone : List Cell
  range_cells_gone = select (has_span w.lo w.hi) (map range_cell (level 0 g.state).ranges)

  -- No free slot, no point and no range that would go, as the code asks each.
  free-none : eqb (first_free e) 0 ≡ none g.state.free
  free-none =
      ap (λ (r : Slot). eqb r.link 0) laid.entries.first ∙ head-none g.slots e (map free_cell g.state.free) laid.entries.each.0
      ∙ none-map free_cell g.state.free

  points_none : {s : Option ℕ} → s ≡ first_of point_cells_gone → is_none s ≡ none (point_slots points_gone_of)
  points_none q =
      ap is_none q ∙ first-none point_cells_gone
      ∙ ap none (points_gone tt g.time v w is (level 0 g.state).points (laid_formed g e l laid 0).keys)
      ∙ none-map point_cell points_gone_of ∙ sym (none-map (λ (p : model.Point ℕ Tally). p.slot) points_gone_of)

  ranges_none : w.kind ≡ kinds.Range → {s : Option ℕ} → s ≡ first_of range_cells_gone → is_none s ≡ none (range_slots ranges_gone_of)
  ranges_none ranged q =
      ap is_none q ∙ first-none range_cells_gone
      ∙ ap none (ranges_gone tt g.time v w is (level 0 g.state).ranges (laid_formed g e l laid 0).spans ranged)
      ∙ none-map range_cell ranges_gone_of ∙ sym (none-map (λ (r : model.Range ℕ). r.slot) ranges_gone_of)

  -- The three together are the answer.
  crowded_is : {f p r : Bool} → f ≡ none g.state.free → p ≡ none (point_slots points_gone_of) → r ≡ none (range_slots ranges_gone_of)
      → f && (p && r) ≡ crowded g.time v g.state
  unfolding crowded
  crowded_is a b c = rw (a, b, c) (ap (◌&&◌ (none g.state.free)) (sym (none_append (point_slots points_gone_of) (range_slots ranges_gone_of))))

  pub free_slot : first_free e ≢ 0 → false ≡ crowded g.time v g.state
  free_slot nz = crowded_is (sym (ne_eqb (first_free e) 0 nz) ∙ free-none) refl refl

  module _ {s : Option ℕ} (points : s ≡ first_of point_cells_gone) (z : first_free e ≡ 0) where
    pub point_goes_first : is_none s ≡ false → false ≡ crowded g.time v g.state
    point_goes_first some = crowded_is (sym (eq-eqb (first_free e) 0 z) ∙ free-none) (sym some ∙ points_none points) refl

    pub point_crowded : is_none s ≡ true → w.kind ≢ kinds.Range → true ≡ crowded g.time v g.state
    point_crowded nothing pointed =
        let kept = no_range_gone g.time v (level 0 g.state).ranges (λ q. pointed (ap (λ (r : Record). r.kind) is ∙ q)) in
        crowded_is (sym (eq-eqb (first_free e) 0 z) ∙ free-none) (sym nothing ∙ points_none points)
        (sym (ap (λ (qs : List (model.Range ℕ)). none (range_slots qs)) kept))

    pub range_crowded : is_none s ≡ true → w.kind ≡ kinds.Range → {s' : Option ℕ} → s' ≡ first_of range_cells_gone
        → is_none s' ≡ crowded g.time v g.state
    range_crowded nothing ranged ranges =
        crowded_is (sym (eq-eqb (first_free e) 0 z) ∙ free-none) (sym nothing ∙ points_none points) (ranges_none ranged ranges)
