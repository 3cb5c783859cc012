-- A write that enters the buffer.
use Rattle.std.specs.Prelude.{◌≡◌, false, List, ◌∷◌, map, ℕ}
use Rattle.lists.specs.All.{Exists}
use Rattle.lists.specs.Lists.{none}
use Rattle.model.specs.declared.Tally.{Tally}
use Rattle.model.specs.Records as model
use Rattle.model.specs.Merge.{gone, release, merged}
use Rattle.model.specs.Steps.{Write, single, unplaced, displaced}
use Rattle.model.specs.Calls.{written, bad_docket}
use Rattle.tables.specs.Placed.{Cell, point_cell, range_cell}
use Rattle.tables.specs.Formed.{LevelFormed}
use Rattle.chain_cells.specs.Held.{Held}
use Rattle.merge_levels.specs.Laid.{Store, Laid}
use Rattle.merge_join.specs.Joining.{level_of}
use Rattle.table_levels.specs.declared.Level.{Level}
use Rattle.write_record.specs.Records.{record_of}
use Rattle.write_record.specs.declared.Record.{Record}

-- The write and its time, the buffer, and all that is beside it.
pub record Entry : Type 0 where
  pub slots : ℕ
  pub clock : ℕ
  pub time : ℕ
  pub write : Write Tally
  pub free : List ℕ
  pub buffer : model.Level ℕ Tally
  pub others : List (List Cell)

-- What the entry frees in the buffer comes before the free slots that there were.
abbrev pub free_then : Entry → List ℕ
free_then g = release (gone (unplaced g.time g.write) g.buffer) g.free

pub record EntryHeld (g : Entry) (e : List ℕ) (buffer : Level) (clock : ℕ) (w : Record) : Type 0 where
  pub held : Held g.slots g.clock g.free (map point_cell g.buffer.points ∷ map range_cell g.buffer.ranges ∷ g.others) e
  pub buffer_is : buffer ≡ level_of g.buffer
  pub formed : LevelFormed g.time g.buffer
  pub time_is : clock ≡ g.time
  pub write_is : w ≡ record_of g.write
  pub dockets : bad_docket (written g.write) ≡ false
  pub room : none (free_then g) ≡ false

-- Some buffer in the table, that some write may enter.
abbrev pub Enters : List ℕ → Level → ℕ → Record → Type 0
Enters e buffer clock w = Exists (λ g. EntryHeld g e buffer clock w)

-- The record has the first of the slots that are free then.
pub record Entered (g : Entry) (e : List ℕ) (buffer : Level) : Type 0 where
  pub first : ℕ
  pub rest : List ℕ
  pub free : free_then g ≡ first ∷ rest
  pub held : Held g.slots g.clock rest
      (map point_cell (merged (single first g.time g.write) g.buffer).points ∷ map range_cell (merged (single first g.time g.write) g.buffer).ranges ∷ g.others) e
  pub buffer_is : buffer ≡ level_of (merged (single first g.time g.write) g.buffer)

-- A store with room for the write.
pub record Entering (g : Store) (e l : List ℕ) (clock : ℕ) (w : Record) : Type 0 where
  pub write : Write Tally
  pub laid : Laid g e l
  pub time_is : g.time ≡ clock
  pub write_is : w ≡ record_of write
  pub dockets : bad_docket (written write) ≡ false
  pub room : none (release (displaced clock write g.state) g.state.free) ≡ false
