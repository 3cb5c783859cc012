-- A state with slots, the placed form of the model's: what tables read as, and what such a state writes into them.
use Rattle.std.specs.Prelude.{cond, List, [], ◌∷◌, map, ℕ, zero, suc, eqb, replicate}
use Rattle.model.specs.declared.Tally.{Tally}
use Rattle.model.specs.Records.{Entry, value, tombstone, Point, Range, Level, State, held}
use Rattle.tables.specs.Slots.{entry_length, Slot, set_slot, link_to, kind_of, span_from, lo_of, hi_of, tally_of, count_of, date_of, stamp_of, no_tally, dated, top_slot, clock_of}
use Rattle.tables.specs.Rows.{settings_of, Row, level_row, level_table}
use Rattle.tables.specs.Sound.{free_chain, point_chain, range_chain}

abbrev pub read_range : List ℕ → ℕ → Range ℕ
read_range e s = record { slot = s; lo = lo_of e s; hi = hi_of e s; date = date_of e s; stamp = stamp_of e s }

-- What the tables say, read along the chains by a reader who is shown some of each put.
module _ {A : Type 0} (shown : List ℕ → ℕ → A) where
  abbrev pub point_as : List ℕ → ℕ → Point ℕ A
  point_as e s = record {
    slot = s;
    key = lo_of e s;
    entry = cond (eqb (kind_of e s) 1) (value (shown e s)) tombstone;
    stamp = stamp_of e s;
  }

  abbrev pub level_as : List ℕ → List ℕ → ℕ → Level ℕ A
  level_as e l i = record {
    points = map (point_as e) (point_chain e l i);
    ranges = map (read_range e) (range_chain e l i);
    owed = (level_row l i).owed;
  }

  unfoldable pub levels_as : List ℕ → List ℕ → ℕ → ℕ → List (Level ℕ A)
  levels_as e l zero i = []
  levels_as e l (suc j) i = level_as e l i ∷ levels_as e l j (suc i)

  unfoldable pub state_as : List ℕ → List ℕ → State ℕ A
  state_as e l = record {
    settings = settings_of l;
    clock = clock_of e;
    free = free_chain e;
    levels = levels_as e l (suc (settings_of l).deepest) 0;
  }

-- What they hold: "The hall's reader sees both", count and price.
abbrev pub read_point : List ℕ → ℕ → Point ℕ Tally
read_point e s = point_as tally_of e s

abbrev pub read_level : List ℕ → List ℕ → ℕ → Level ℕ Tally
read_level e l i = level_as tally_of e l i

abbrev pub read_levels : List ℕ → List ℕ → ℕ → ℕ → List (Level ℕ Tally)
read_levels e l j i = levels_as tally_of e l j i

abbrev pub read_state : List ℕ → List ℕ → State ℕ Tally
read_state e l = state_as tally_of e l

-- "counts and stamps only"
abbrev pub read_counts : List ℕ → List ℕ → State ℕ ℕ
read_counts e l = state_as count_of e l

-- What a state writes: each record's slot, and its words but for the next slot.
pub record Cell : Type 0 where
  pub slot : ℕ
  pub kind : ℕ
  pub span : ℕ
  pub tally : Tally
  pub stamp : ℕ

abbrev pub free_cell : ℕ → Cell
free_cell s = record { slot = s; kind = 0; span = 0; tally = no_tally; stamp = 0 }

abbrev pub entry_kind : Entry Tally → ℕ
entry_kind (value a) = 1
entry_kind tombstone = 2

abbrev pub entry_tally : Entry Tally → Tally
entry_tally (value a) = a
entry_tally tombstone = no_tally

abbrev pub point_cell : Point ℕ Tally → Cell
point_cell p = record {
  slot = p.slot;
  kind = entry_kind p.entry;
  span = span_from p.key p.key;
  tally = entry_tally p.entry;
  stamp = p.stamp;
}

abbrev pub range_cell : Range ℕ → Cell
range_cell r = record { slot = r.slot; kind = 3; span = span_from r.lo r.hi; tally = dated r.date; stamp = r.stamp }

abbrev pub head : List Cell → ℕ
head [] = 0
head (c ∷ cs) = c.slot

abbrev pub cell_slot : ℕ → Cell → Slot
cell_slot next c = record { link = link_to next c.kind; span = c.span; tally = c.tally; stamp = c.stamp }

-- A chain's cells, written over a table.
unfoldable pub lay : List ℕ → List Cell → List ℕ
lay e [] = e
lay e (c ∷ cs) = set_slot (lay e cs) c.slot (cell_slot (head cs) c)

unfoldable pub lay_all : List ℕ → List (List Cell) → List ℕ
lay_all e [] = e
lay_all e (c ∷ cs) = lay (lay_all e cs) c

-- The chains of the levels, and all chains of a state, the free one first.
abbrev pub level_chains : List (Level ℕ Tally) → List (List Cell)
level_chains [] = []
level_chains (l ∷ ls) = map point_cell l.points ∷ map range_cell l.ranges ∷ level_chains ls

abbrev pub all_chains : State ℕ Tally → List (List Cell)
all_chains p = map free_cell p.free ∷ level_chains p.levels

-- Slot 0 of a state, the entry table of n slots, and the level table.
abbrev pub top_of : State ℕ Tally → Slot
top_of p = top_slot (head (map free_cell p.free)) p.clock

unfoldable pub entry_words : ℕ → State ℕ Tally → List ℕ
entry_words n p = set_slot (lay_all (replicate (entry_length n) 0) (all_chains p)) 0 (top_of p)

abbrev pub row_of_level : Level ℕ Tally → Row
row_of_level l = record { points = head (map point_cell l.points); ranges = head (map range_cell l.ranges); held = held l; owed = l.owed }

unfoldable pub level_words : State ℕ Tally → List ℕ
level_words p = level_table p.settings (map row_of_level p.levels)
