-- The buffer with the record in it: its chains, and the row that the code gives for it.
use mathlib.Core.Path.{◌≡◌, sym, ap, ◌∙◌}
use mathlib.Core.Logic.{◌≢◌}
use mathlib.Core.Bool.{cond, not, false}
use mathlib.Core.List.{List, [], ◌∷◌, map}
use Prim.Native.Nat.{ℕ, ◌+◌, ◌-◌, ◌≤◌}
use native.Mathlib.Omega.{arith}
use lib.Dec.{eqb}
use lib.ListN.{length, length-map}
use Rattle.lists.specs.Lists.{merge}
use Rattle.lists.proofs.Tests.{all_select, length-select}
use Rattle.model.specs.declared.Tally.{Tally}
use Rattle.model.specs.Records as model
use Rattle.model.specs.Merge.{point_before, range_before, point_goes, range_goes, earlier, merged}
use Rattle.model.specs.Steps.{Write, single, unplaced}
use Rattle.model.specs.Calls.{written, bad_docket}
use Rattle.tables.specs.Placed.{Cell, point_cell, range_cell, head}
use Rattle.chain_cells.specs.Cells.{cell_before}
use Rattle.chain_cells.specs.Splicing.{Spliced}
use Rattle.chain_cells.proofs.Laws.{swapped}
use Rattle.merge_join.specs.Joining.{level_of}
use Rattle.table_levels.specs.declared.Level.{Level}
use Rattle.merge_join.proofs.Points.{Keyed, points_merge}
use Rattle.merge_join.proofs.Ranges.{Spanned, ranges_merge}
use Rattle.table_slots.specs.Kinds.{kind_number}
use Rattle.table_slots.specs.declared.Kind.{Kind}
use Rattle.table_slots.specs.declared.Kind.TheVariants as kinds
use Rattle.write_record.specs.Records.{record_of, record_cell}
use Rattle.write_enter.specs.Uniting.{united}
use Rattle.write_enter.specs.Entering.{Entry, EntryHeld, Entered}
use Rattle.write_record.specs.declared.Record.{Record}
use Rattle.chain_cells.proofs.Bounds.{two_few}
use Rattle.write_record.proofs.Singles.{single_no_range, single_no_point, single-point_cell, single-range_cell, single_keyed, single_spanned}
use Rattle.write_record.proofs.SingleMerges.{merged_no_range, no_range_gone, entered_points, entered_ranges, entered_held, entered_owed}
use Rattle.write_enter.proofs.Dates.{range_date, later_dated-kind, later_dated_dockets, entered_write, single-later, united_record}
use Rattle.write_enter.proofs.Entries.{room, to_splice, gone_points, kept_points, gone_ranges, kept_ranges}

-- A level's row by its four words.
row_is : {points ranges held owed : ℕ} (l : Level) → points ≡ l.points → ranges ≡ l.ranges → held ≡ l.held → owed ≡ l.owed
    → record { points = points; ranges = ranges; held = held; owed = owed } ≡ l
row_is l p q r s = rw (p, q, r, s)

module _ {g : Entry} {e : List ℕ} {buffer : Level} {clock : ℕ} {w : Record} (h : EntryHeld g e buffer clock w) where
  -- The first free slot, and the buffer with the record in it.
  abbrev x : ℕ
  x = (room h).first

  entered : model.Level ℕ Tally
  entered = merged (single x g.time g.write) g.buffer

  pub buffer_held : buffer.held ≡ length g.buffer.points + length g.buffer.ranges
  buffer_held = ap (λ (b : Level). b.held) h.buffer_is

  -- Its number of records leaves room for one more in a word.
  pub held_few : buffer.held ≤ 65535
  held_few = omega (
    arith,
    buffer_held,
    two_few h.held,
    length-map g.buffer.points point_cell,
    length-map g.buffer.ranges range_cell,
  )

  -- No more go than there are.
  pub points_fewer : length (gone_points g) ≤ length g.buffer.points
  points_fewer = omega (arith, length-select (point_goes (unplaced g.time g.write)) g.buffer.points)

  pub ranges_fewer : length (gone_ranges g) ≤ length g.buffer.ranges
  ranges_fewer = omega (arith, length-select (range_goes (unplaced g.time g.write).ranges) g.buffer.ranges)

  -- A record as the code has it, and what the write owes.
  cell_is : {r : Record} (v : Write Tally) → r ≡ record_of v → record_cell x clock r ≡ record_cell x g.time (record_of v)
  cell_is {r} v is = ap (λ (t : ℕ). record_cell x t r) h.time_is ∙ ap (record_cell x g.time) is

  owed_is : earlier (cond (eqb (kind_number w.kind) 1) 0 clock) buffer.owed ≡ entered.owed
  unfolding entered
  owed_is =
      ap (λ (t : ℕ). earlier (cond (eqb (kind_number w.kind) 1) 0 t) buffer.owed) h.time_is
      ∙ ap (λ (r : Record). earlier (cond (eqb (kind_number r.kind) 1) 0 g.time) buffer.owed) h.write_is
      ∙ ap (λ (b : Level). earlier (cond (eqb (kind_number (record_of g.write).kind) 1) 0 g.time) b.owed) h.buffer_is
      ∙ sym (entered_owed x g.time g.write g.buffer)

  module _ (pointed : w.kind ≢ kinds.Range) where
    kind_is : (record_of g.write).kind ≢ kinds.Range
    kind_is q = pointed (ap (λ (r : Record). r.kind) h.write_is ∙ q)

    -- Its cell among the points that stay makes the points of the entered buffer.
    points_is : merge cell_before (record_cell x clock w ∷ []) (map point_cell (kept_points g)) ≡ map point_cell entered.points
    unfolding entered
    points_is =
        ap (λ (c : Cell). merge cell_before (c ∷ []) (map point_cell (kept_points g))) (cell_is g.write h.write_is)
        ∙ ap (λ (cs : List Cell). merge cell_before cs (map point_cell (kept_points g))) (sym (single-point_cell x g.time g.write kind_is))
        ∙ points_merge (single x g.time g.write).points (single_keyed x g.time g.write h.dockets) (kept_points g)
        (all_select Keyed (λ p. not (point_goes (unplaced g.time g.write) p)) g.buffer.points h.formed.keys)
        ∙ ap (map point_cell) (sym (entered_points x g.time g.write g.buffer))

    ranges_stay : g.buffer.ranges ≡ entered.ranges
    unfolding entered
    ranges_stay = sym (merged_no_range (single x g.time g.write) g.buffer (single_no_range x g.time g.write kind_is))

    pub point_entered : {e' : List ℕ} {first gone owed : ℕ} → gone ≡ length (gone_points g) → owed ≡ earlier (cond (eqb (kind_number w.kind) 1) 0 clock) buffer.owed
        → Spliced (to_splice h w (map point_cell (kept_points g)) (map range_cell g.buffer.ranges ∷ g.others)) e' first
        → Entered g e' (record { points = first; ranges = buffer.ranges; held = buffer.held - gone + 1; owed = owed })
    unfolding entered
    point_entered gone≡ owed≡ s = record {
      first = x;
      rest = (room h).rest;
      free = (room h).is;
      held = rw (← points_is, ← ranges_stay) s.held;
      buffer_is = row_is (level_of entered) (s.head_is ∙ ap head points_is)
          (ap (λ (b : Level). b.ranges) h.buffer_is ∙ ap (λ (rs : List (model.Range ℕ)). head (map range_cell rs)) ranges_stay)
          (omega (
            arith,
            buffer_held,
            points_fewer,
            entered_held x g.time g.write g.buffer,
            ap length (no_range_gone g.time g.write g.buffer.ranges kind_is),
          ))
          (owed≡ ∙ owed_is);
    }

  module _ (ranged : w.kind ≡ kinds.Range) where
    kind_ranged : (record_of g.write).kind ≡ kinds.Range
    kind_ranged = ap (λ (r : Record). r.kind) (sym h.write_is) ∙ ranged

    -- The write with the later date.
    abbrev dated : Write Tally
    dated = entered_write g.time g.buffer.ranges g.write

    kind-dated : (record_of dated).kind ≡ kinds.Range
    kind-dated = later_dated-kind (range_date (gone_ranges g)) g.write ∙ kind_ranged

    dockets_dated : bad_docket (written dated) ≡ false
    dockets_dated = later_dated_dockets (range_date (gone_ranges g)) g.write ∙ h.dockets

    points_stay : kept_points g ≡ entered.points
    unfolding entered merge
    points_stay = sym (entered_points x g.time g.write g.buffer
        ∙ ap (λ ps. merge point_before ps (kept_points g)) (single_no_point x g.time g.write kind_ranged))

    module _ {r : Record} (united≡ : r ≡ united (map range_cell g.buffer.ranges) w) where
      record_is : r ≡ record_of dated
      record_is = united≡ ∙ united_record g.time g.write h.write_is ranged g.buffer.ranges h.formed.spans

      -- Its cell among the ranges that stay makes the ranges of the entered buffer.
      ranges_is : merge cell_before (record_cell x clock r ∷ []) (map range_cell (kept_ranges g)) ≡ map range_cell entered.ranges
      unfolding entered
      ranges_is =
          ap (λ (c : Cell). merge cell_before (c ∷ []) (map range_cell (kept_ranges g))) (cell_is dated record_is)
          ∙ ap (λ (cs : List Cell). merge cell_before cs (map range_cell (kept_ranges g))) (sym (single-range_cell x g.time dated kind-dated))
          ∙ ranges_merge (single x g.time dated).ranges (single_spanned x g.time dated dockets_dated) (kept_ranges g)
          (all_select Spanned (λ q. not (range_goes (unplaced g.time g.write).ranges q)) g.buffer.ranges h.formed.spans)
          ∙ ap (λ rs. map range_cell (merge range_before rs (kept_ranges g)))
          (sym (single-later x g.time g.write g.buffer.ranges h.formed.ranges_ascend h.formed.range_stamps))
          ∙ ap (map range_cell) (sym (entered_ranges x g.time g.write g.buffer))

      pub range_entered : {e' : List ℕ} {points first gone gone' owed : ℕ} → points ≡ head (map point_cell (kept_points g))
          → gone ≡ length (gone_points g) → gone' ≡ length (gone_ranges g)
          → owed ≡ earlier clock buffer.owed
          → Spliced (to_splice h r (map range_cell (kept_ranges g)) (map point_cell (kept_points g) ∷ g.others)) e' first
          → Entered g e' (record { points = points; ranges = first; held = buffer.held - gone - gone' + 1; owed = owed })
      unfolding entered
      range_entered {e'} points≡ gone≡ gone'≡ owed≡ s = record {
        first = x;
        rest = (room h).rest;
        free = (room h).is;
        held = swapped g.slots g.clock (room h).rest (map range_cell entered.ranges) (map point_cell entered.points) g.others e'
            (rw (← ranges_is, ← points_stay) s.held);
        buffer_is =
            row_is (level_of entered) (points≡ ∙ ap (λ (ps : List (model.Point ℕ Tally)). head (map point_cell ps)) points_stay)
            (s.head_is ∙ ap head ranges_is)
            (omega (arith, buffer_held, points_fewer, ranges_fewer, entered_held x g.time g.write g.buffer))
            (owed≡ ∙ ap (λ (k : Kind). earlier (cond (eqb (kind_number k) 1) 0 clock) buffer.owed) (sym ranged) ∙ owed_is);
      }
