-- What a chain's cells say, read from a table or in a list: their dockets, and their order.
use Rattle.std.specs.Prelude.{Bool, List, [], ◌∷◌, ℕ, ◌+◌, ◌*◌, ◌/◌, ◌%◌, ltb, eqb}
use Rattle.lists.specs.Lists.{any}
use Rattle.model.specs.Coverage.{covers}
use Rattle.tables.specs.Slots.{Slot, slot_at, kind_of}
use Rattle.tables.specs.Placed.{Cell}

-- The cell of a slot, by its number, its kind and its words.
abbrev pub cell_from : ℕ → ℕ → Slot → Cell
cell_from s kind r = record { slot = s; kind = kind; span = r.span; tally = r.tally; stamp = r.stamp }

abbrev pub cell_at : List ℕ → ℕ → Cell
cell_at e s = cell_from s (kind_of e s) (slot_at e s)

abbrev pub cell_lo : Cell → ℕ
cell_lo c = c.span % 65536

abbrev pub cell_hi : Cell → ℕ
cell_hi c = c.span / 65536

-- One key orders points by docket and ranges by lo, then hi.
abbrev pub cell_key : Cell → ℕ
cell_key c = cell_lo c * 65536 + cell_hi c

abbrev pub cell_before : Cell → Cell → Bool
cell_before c d = ltb (cell_key c) (cell_key d)

-- Word 2 of a range's cell, and the cell with another date and stamp.
abbrev pub cell_date : Cell → ℕ
cell_date c = c.tally.count

abbrev pub with_date : ℕ → ℕ → Cell → Cell
with_date date stamp c = record { slot = c.slot; kind = c.kind; span = c.span; tally = record { count = date; price = c.tally.price }; stamp = stamp }

-- A range's cell covers a record of docket k with stamp t; some cell of ranges does; some cell of points has the docket.
abbrev pub cell_covers : Cell → ℕ → ℕ → Bool
cell_covers c k t = covers (cell_lo c) (cell_hi c) (cell_date c) k t

abbrev pub cells_cover : List Cell → ℕ → ℕ → Bool
cells_cover cs k t = any (λ c. cell_covers c k t) cs

abbrev pub cells_name : List Cell → ℕ → Bool
cells_name cs k = any (λ c. eqb (cell_lo c) k) cs

-- The slot before a place, when these cells stand before it: 0 where none do.
abbrev pub last_from : ℕ → List Cell → ℕ
last_from s [] = s
last_from s (c ∷ cs) = last_from c.slot cs

abbrev pub last_slot : List Cell → ℕ
last_slot cs = last_from 0 cs
