-- A write entered into the buffer, call by call: what each call asks for follows from what the one before it leaves.
use mathlib.Core.Path.{◌≡◌, refl, ap, ◌∙◌}
use mathlib.Core.Logic.{◌≢◌}
use mathlib.Core.Bool.{false, true≢false}
use mathlib.Core.List.{List, [], ◌∷◌, map}
use Prim.Native.Nat.{ℕ, ◌≤◌}
use native.Mathlib.Omega.{arith}
use lib.Dec.{ltb}
use lib.ListN.{length, length-map}
use borrow.Author.Tests.{ltb-false}
use Rattle.lists.specs.Lists.{none, select, reject}
use Rattle.lists.proofs.Bools.{or_false_left, or_false_right}
use Rattle.model.specs.declared.Tally.{Tally}
use Rattle.model.specs.Records as model
use Rattle.model.specs.Merge.{point_goes, range_goes, point_slots, range_slots, release}
use Rattle.model.specs.Steps.{Write, put, delete, delete_range, unplaced}
use Rattle.model.specs.Calls.{written, bad_docket}
use Rattle.tables.specs.Placed.{Cell, point_cell, range_cell, head}
use Rattle.tables.proofs.Back.{point_cell_slots, range_cell_slots}
use Rattle.chain_cells.specs.Held.{Held}
use Rattle.chain_cells.specs.Sifting.{Chain, OneHeld, Sifted}
use Rattle.chain_cells.specs.Splicing.{Chains, TwoHeld}
use Rattle.chain_cells.specs.declared.Cursor.{Cursor}
use Rattle.chain_cells.proofs.Laws.{swapped}
use Rattle.chain_sieve.specs.Doomed.{has_span}
use Rattle.table_slots.specs.declared.Kind.TheVariants.{Range}
use Rattle.table_levels.specs.declared.Level.{Level}
use Rattle.merge_join.proofs.Levels.{release_append}
use Rattle.write_record.specs.Records.{record_of, record_cell, displaces}
use Rattle.write_enter.specs.Uniting.{united}
use Rattle.write_enter.specs.Taking.{Free, FreeHeld, Taken}
use Rattle.write_enter.specs.Entering.{Entry, EntryHeld, free_then}
use Rattle.write_record.specs.declared.Record.{Record}
use Rattle.write_record.proofs.SingleMerges.{gone_by_point}
use Rattle.write_record.proofs.Dooms.{points_gone, points_left, ranges_gone, ranges_left}

-- The first of some slots, and the others.
pub record Room (slots : List ℕ) : Type 0 where
  pub first : ℕ
  pub rest : List ℕ
  pub is : slots ≡ first ∷ rest

some_room : (slots : List ℕ) → none slots ≡ false → Room slots
some_room [] h = absurd (true≢false h)
some_room (x ∷ xs) h = record { first = x; rest = xs; is = refl }

-- The dockets of an accepted write fit a slot.
abbrev Fits : Record → Type 0
Fits r = (r.lo ≤ 65535) × (r.hi ≤ 65535)

record_fits : (v : Write Tally) → bad_docket (written v) ≡ false → Fits (record_of v)
record_fits (put k a) d = let low = ltb-false 65535 k d in (omega arith, omega arith)
record_fits (delete k) d = let low = ltb-false 65535 k d in (omega arith, omega arith)
record_fits (delete_range lo hi date) d =
    let high = ltb-false 65535 hi (or_false_left (ltb 65535 hi) (ltb hi lo) d) in
    let order = ltb-false hi lo (or_false_right (ltb 65535 hi) (ltb hi lo) d) in (omega arith, omega arith)

-- What of the buffer goes, and what stays.
abbrev pub gone_points : Entry → List (model.Point ℕ Tally)
gone_points g = select (point_goes (unplaced g.time g.write)) g.buffer.points

abbrev pub kept_points : Entry → List (model.Point ℕ Tally)
kept_points g = reject (point_goes (unplaced g.time g.write)) g.buffer.points

abbrev pub gone_ranges : Entry → List (model.Range ℕ)
gone_ranges g = select (range_goes (unplaced g.time g.write).ranges) g.buffer.ranges

abbrev pub kept_ranges : Entry → List (model.Range ℕ)
kept_ranges g = reject (range_goes (unplaced g.time g.write).ranges) g.buffer.ranges

-- The slots that are free when the points have gone.
abbrev pub points_free : Entry → List ℕ
points_free g = release (point_slots (gone_points g)) g.free

-- The chain that is looked through first, and the chains of the two sieves.
abbrev pub all_ranges : Entry → Chain
all_ranges g = record {
  slots = g.slots;
  clock = g.clock;
  free = g.free;
  cells = map range_cell g.buffer.ranges;
  others = map point_cell g.buffer.points ∷ g.others;
}

abbrev pub buffer_points : Entry → Chain
buffer_points g = record {
  slots = g.slots;
  clock = g.clock;
  free = g.free;
  cells = map point_cell g.buffer.points;
  others = map range_cell g.buffer.ranges ∷ g.others;
}

abbrev pub buffer_ranges : Entry → Chain
buffer_ranges g = record {
  slots = g.slots;
  clock = g.clock;
  free = points_free g;
  cells = map range_cell g.buffer.ranges;
  others = map point_cell (kept_points g) ∷ g.others;
}

module _ {g : Entry} {e : List ℕ} {buffer : Level} {clock : ℕ} {w : Record} (h : EntryHeld g e buffer clock w) where
  -- The slots that are free when all that goes has gone.
  pub room : Room (free_then g)
  room = some_room (free_then g) h.room

  pub points_asked : OneHeld (buffer_points g) e buffer.points
  points_asked = record { held = h.held; head_is = ap (λ (b : Level). b.points) h.buffer_is }

  -- The ranges, looked through before anything goes.
  pub ranges_held : OneHeld (all_ranges g) e buffer.ranges
  ranges_held = record {
    held = swapped g.slots g.clock g.free (map point_cell g.buffer.points) (map range_cell g.buffer.ranges) g.others e h.held;
    head_is = ap (λ (b : Level). b.ranges) h.buffer_is;
  }

  module _ {e' : List ℕ} {m : Cursor} (s : Sifted (displaces w) (buffer_points g) e' m) where
    -- The cells that went and those that stayed are those of the points.
    gone≡ : select (displaces w) (map point_cell g.buffer.points) ≡ map point_cell (gone_points g)
    gone≡ = points_gone tt g.time g.write w h.write_is g.buffer.points h.formed.keys

    left≡ : reject (displaces w) (map point_cell g.buffer.points) ≡ map point_cell (kept_points g)
    left≡ = points_left tt g.time g.write w h.write_is g.buffer.points h.formed.keys

    pub points_head : m.head ≡ head (map point_cell (kept_points g))
    points_head = s.head_is ∙ ap head left≡

    pub points_count : m.gone ≡ length (gone_points g)
    points_count = s.counts ∙ ap length gone≡ ∙ length-map (gone_points g) point_cell

    points_held : Held g.slots g.clock (points_free g) (map point_cell (kept_points g) ∷ map range_cell g.buffer.ranges ∷ g.others) e'
    points_held = rw (gone≡, left≡, point_cell_slots (gone_points g)) at s.held

    -- A put or a delete makes no range go.
    pub point_room : w.kind ≢ Range → Held g.slots g.clock (free_then g) (map point_cell (kept_points g) ∷ map range_cell g.buffer.ranges ∷ g.others) e'
    point_room pointed = rw (gone_by_point g.time g.write g.buffer (λ q. pointed (ap (λ (r : Record). r.kind) h.write_is ∙ q))) points_held

    pub ranges_asked : OneHeld (buffer_ranges g) e' buffer.ranges
    ranges_asked = record {
      held = swapped g.slots g.clock (points_free g) (map point_cell (kept_points g)) (map range_cell g.buffer.ranges) g.others e' points_held;
      head_is = ap (λ (b : Level). b.ranges) h.buffer_is;
    }

  module _ (ranged : w.kind ≡ Range) {e' : List ℕ} {m : Cursor} (s : Sifted (has_span w.lo w.hi) (buffer_ranges g) e' m) where
    ranges_gone≡ : select (has_span w.lo w.hi) (map range_cell g.buffer.ranges) ≡ map range_cell (gone_ranges g)
    ranges_gone≡ = ranges_gone tt g.time g.write w h.write_is g.buffer.ranges h.formed.spans ranged

    ranges_left≡ : reject (has_span w.lo w.hi) (map range_cell g.buffer.ranges) ≡ map range_cell (kept_ranges g)
    ranges_left≡ = ranges_left tt g.time g.write w h.write_is g.buffer.ranges h.formed.spans ranged

    pub ranges_head : m.head ≡ head (map range_cell (kept_ranges g))
    ranges_head = s.head_is ∙ ap head ranges_left≡

    pub ranges_count : m.gone ≡ length (gone_ranges g)
    ranges_count = s.counts ∙ ap length ranges_gone≡ ∙ length-map (gone_ranges g) range_cell

    pub range_room : Held g.slots g.clock (free_then g) (map range_cell (kept_ranges g) ∷ map point_cell (kept_points g) ∷ g.others) e'
    range_room =
        rw (release_append (point_slots (gone_points g)) (range_slots (gone_ranges g)) g.free)
        (rw (ranges_gone≡, ranges_left≡, range_cell_slots (gone_ranges g)) at s.held)

  -- The write's record fits a slot, with the later date too.
  pub write_fits : Fits w
  write_fits = rw h.write_is (record_fits g.write h.dockets)

  pub united_fits : {r : Record} (cs : List Cell) → r ≡ united cs w → Fits r
  united_fits cs is = rw is write_fits

  -- A record that fits taken into the first free slot, and its cell put into the chain that it is for.
  module _ (r : Record) (chain : List Cell) (others : List (List Cell)) where
    abbrev pub to_take : Free
    to_take = record { slots = g.slots; clock = g.clock; first = room.first; rest = room.rest; chains = chain ∷ others }

    abbrev pub to_splice : Chains
    to_splice = record { slots = g.slots; clock = g.clock; free = room.rest; upper = record_cell room.first clock r ∷ []; lower = chain; others = others }

    pub slot_asked : Fits r → {e' : List ℕ} → Held g.slots g.clock (free_then g) (chain ∷ others) e' → FreeHeld to_take e' r
    slot_asked fits k = record { held = rw room.is at k; lo_fits = fits.0; hi_fits = fits.1 }

    pub chains_asked : {e' : List ℕ} {slot first : ℕ} → Taken to_take clock r e' slot → first ≡ head chain → TwoHeld to_splice e' slot first
    chains_asked {e'} k first≡ = record {
      held = swapped g.slots g.clock room.rest (record_cell room.first clock r ∷ []) chain others e' k.held;
      upper_is = k.slot_is;
      lower_is = first≡;
    }
