-- A free slot that takes a record.
use Rattle.std.specs.Prelude.{◌≡◌, List, [], ◌∷◌, ℕ, ◌≤◌}
use Rattle.tables.specs.Placed.{Cell}
use Rattle.chain_cells.specs.Held.{Held}
use Rattle.write_record.specs.Records.{record_cell}
use Rattle.write_record.specs.declared.Record.{Record}

-- The first free slot, the other free ones, and all chains.
pub record Free : Type 0 where
  pub slots : ℕ
  pub clock : ℕ
  pub first : ℕ
  pub rest : List ℕ
  pub chains : List (List Cell)

pub record FreeHeld (g : Free) (e : List ℕ) (w : Record) : Type 0 where
  pub held : Held g.slots g.clock (g.first ∷ g.rest) g.chains e
  pub lo_fits : w.lo ≤ 65535
  pub hi_fits : w.hi ≤ 65535

pub record Taken (g : Free) (t : ℕ) (w : Record) (e : List ℕ) (slot : ℕ) : Type 0 where
  pub held : Held g.slots g.clock g.rest ((record_cell g.first t w ∷ []) ∷ g.chains) e
  pub slot_is : slot ≡ g.first
