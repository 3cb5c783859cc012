-- Tally and stamp of a docket's put changed in its slot.
use mathlib.Core.Path.{◌≡◌, refl, sym, ap, ◌∙◌}
use mathlib.Core.Bool.{true, false, false≢true}
use mathlib.Core.List.{List, ◌∷◌, ◌++◌, map}
use Prim.Native.Nat.{ℕ}
use native.Mathlib.Omega.{arith}
use lib.Dec.{eqb}
use Rattle.std.specs.Prelude.{Option, None, Some}
use Rattle.lists.specs.Lists.{select}
use Rattle.lists.proofs.Bools.{by_cases}
use Rattle.lists.proofs.Tests.{all_right, all_weaken, append_map, select_none}
use Rattle.model.specs.declared.Tally.{Tally}
use Rattle.model.specs.Records.{Entry, value, tombstone, Point, is_put}
use Rattle.model.specs.Merge.{names}
use Rattle.model.specs.Steps.{overwrite}
use Rattle.tables.specs.Slots.{InTable, slot_at, set_slot, span_from, with_tally}
use Rattle.tables.proofs.Slots.{length-set_slot, slot_other, slot_same}
use Rattle.tables.specs.Placed.{Cell, entry_kind, point_cell, head, cell_slot}
use Rattle.tables.proofs.Cells.{Chained}
use Rattle.chain_cells.specs.Held.{Held}
use Rattle.chain_cells.specs.Sifting.{Chain, OneHeld}
use Rattle.chain_cells.proofs.Frames.{chain_end}
use Rattle.chain_cells.proofs.Laws.{rewritten_first}
use Rattle.chain_sieve.specs.Doomed.{first_of, has_docket}
use Rattle.merge_join.proofs.Maps.{select-map_where}
use Rattle.merge_join.proofs.Points.{Keyed, point_lo}
use Rattle.write_act.specs.Acting.{PointsHeld, Overwritten}
use Rattle.write_act.specs.Acting as acting
use Rattle.write_act.proofs.Named.{Named, find_named, named_first, written_over, untouched, overwritten}

-- The table after tally and stamp of slot s have changed.
abbrev pub rewritten_words : List ℕ → ℕ → Tally → ℕ → List ℕ
rewritten_words e s a t = set_slot e s (with_tally a t (slot_at e s))

put_kind : (n : Entry Tally) → is_put n ≡ true → entry_kind n ≡ 1
put_kind (value a) h = refl
put_kind tombstone h = absurd (false≢true h)

-- The points of level L as the chain that is searched.
abbrev pub points_chain : acting.Points → Chain
points_chain g = record { slots = g.slots; clock = g.clock; free = g.free; cells = map point_cell g.points; others = g.others }

module _ {g : acting.Points} {e : List ℕ} {first : ℕ} (h : PointsHeld g e first) where
  pub search_asked : OneHeld (points_chain g) e first
  search_asked = record { held = h.held; head_is = h.head_is }

  module _ (k : ℕ) where
    -- The cells that the search stops at are those of the docket's points.
    chosen : select (has_docket k) (map point_cell g.points) ≡ map point_cell (select (λ p. eqb p.key k) g.points)
    chosen = select-map_where point_cell (has_docket k) (λ p. eqb p.key k) g.points
        (all_weaken Keyed _ (λ p low. ap (λ (n : ℕ). eqb n k) (point_lo p low)) g.points h.keys)

    module _ {found : Option ℕ} (first≡ : found ≡ first_of (select (has_docket k) (map point_cell g.points))) where
      found_is : found ≡ first_of (map point_cell (select (λ p. eqb p.key k) g.points))
      found_is = first≡ ∙ ap first_of chosen

      module _ (n : Named k g.points) where
        -- The chain parted at the docket's point, and its cell rewritten there.
        here : Held g.slots g.clock g.free ((map point_cell n.before ++ point_cell n.point ∷ map point_cell n.after) ∷ g.others) e
        here = rw (n.whole, append_map point_cell n.before (n.point ∷ n.after)) at h.held

        at_place : Chained g.slots e (point_cell n.point ∷ map point_cell n.after)
        at_place = chain_end g.slots e (map point_cell n.before) (point_cell n.point ∷ map point_cell n.after) here.holds.each.1.0

        over : (a : Tally) (t : ℕ)
            → Held g.slots g.clock g.free (map point_cell (map (overwrite k a t) g.points) ∷ g.others) (rewritten_words e n.point.slot a t)
        over a t =
            let x : ℕ = n.point.slot in
            let cs : List Cell = map point_cell n.after in
            let put≡ : entry_kind n.point.entry ≡ 1 =
            put_kind n.point.entry (all_right (λ p. is_put p.entry ≡ true) n.before (n.point ∷ n.after) (rw n.whole at h.puts)).0 in
            let row : slot_at (rewritten_words e x a t) x ≡ cell_slot (head cs) (point_cell (written_over a t n.point)) =
            slot_same e x _ (omega (arith, at_place.1, h.held.holds.room)) ∙ ap (with_tally a t) at_place.2
            ∙ ap (λ (kind : ℕ).
            cell_slot (head cs) (record { slot = x; kind = kind; span = span_from n.point.key n.point.key; tally = a; stamp = t })) put≡ in
            rw (overwritten k a t g.points n, append_map point_cell n.before (written_over a t n.point ∷ n.after))
            (rewritten_first g.slots g.clock g.free (map point_cell n.before) (point_cell n.point)
            (point_cell (written_over a t n.point)) cs g.others e (rewritten_words e x a t) here refl (length-set_slot e x _)
            (λ u ne nz. slot_other e x _ u (λ q. ne (sym q))) (slot_other e x _ 0 (omega (arith, at_place.0))) row)

        found_there : found ≡ Some n.point.slot
        found_there = found_is ∙ named_first k g.points n

      -- The search finds no slot where no point has the docket, and only there.
      lacks : found ≡ None → names g.points k ≡ false
      lacks nothing = by_cases (names g.points k) (λ e. let there = found_there (find_named k g.points h.ascend e) in cc) (λ e. e)

      has : {s : ℕ} → found ≡ Some s → names g.points k ≡ true
      has some = by_cases (names g.points k) (λ e. e)
          (λ e.
          let none = found_is ∙ ap (λ (ps : List (Point ℕ Tally)). first_of (map point_cell ps)) (select_none (λ p. eqb p.key k) g.points e) in cc)

      pub kept : found ≡ None → (a : Tally) (t : ℕ) → Overwritten g k a t e false
      kept nothing a t = record { held = rw (untouched k a t g.points (lacks nothing)) h.held; found_is = sym (lacks nothing) }

      module _ {s : ℕ} (some : found ≡ Some s) where
        named : Named k g.points
        named = find_named k g.points h.ascend (has some)

        slot_is : s ≡ named.point.slot
        slot_is = let there = found_there named in cc

        pub slot_in_table : InTable e s
        slot_in_table = omega (arith, slot_is, (at_place named).1, h.held.holds.room)

        pub changed : (a : Tally) (t : ℕ) → Overwritten g k a t (rewritten_words e s a t) true
        changed a t = record { held = rw slot_is (over named a t); found_is = sym (has some) }
