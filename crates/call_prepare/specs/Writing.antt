-- A call's work up to its pass, as the tables show it.
use Rattle.std.specs.Prelude.{◌≡◌, true, false, List, ℕ, Result, Ok, Err}
use Rattle.model.specs.declared.Tally.{Tally}
use Rattle.model.specs.Steps.{Write, merge_all, crowded}
use Rattle.model.specs.Calls.{Op, written, prepared, out_of_slots}
use Rattle.refusals.specs.declared.Refusal.{Refusal}
use Rattle.refusals.specs.declared.Refusal.TheVariants.{Full}
use Rattle.tables.specs.Slots.{slots_of}
use Rattle.tables.specs.Placed.{read_state, entry_words, level_words}
use Rattle.merge_levels.specs.Laid.{Worked}
use Rattle.write_record.specs.declared.Record.{Record}
use Rattle.write_record.specs.Records.{record_of}
use Rattle.call_refusal.specs.Began.{Began, store}

-- The write v, whose record is w, as a call that meets no refusal at once.
pub record Writes (v : Write Tally) (e l : List ℕ) (t : ℕ) (w : Record) : Type 0 where
  pub began : Began e l t (written v)
  pub write_is : w ≡ record_of v

-- Such a write that the buffer has no room for.
pub record Crowded (v : Write Tally) (e l : List ℕ) (t : ℕ) (w : Record) : Type 0 where
  pub writes : Writes v e l t w
  pub no_room : crowded t v (read_state e l) ≡ true

-- The tables e and l are now e' and l': the work before the pass is done, with so many merges.
pub record Done (e l : List ℕ) (t : ℕ) (op : Op Tally) (e' l' : List ℕ) (merges : ℕ) : Type 0 where
  pub slot : out_of_slots t op (read_state e l) ≡ false
  pub works : Worked (store e l t) (prepared t op (read_state e l)) e' l' merges

-- Or the call is out of slots and the "tables stay merged, clock as before".
pub record OutOfSlots (e l : List ℕ) (t : ℕ) (op : Op Tally) (e' l' : List ℕ) (r : Refusal) : Type 0 where
  pub full : r ≡ Full
  pub no_slot : out_of_slots t op (read_state e l) ≡ true
  pub merged : (e' ≡ entry_words (slots_of e) (merge_all (read_state e l)).state) × (l' ≡ level_words (merge_all (read_state e l)).state)

abbrev pub Prepares : List ℕ → List ℕ → ℕ → Op Tally → List ℕ → List ℕ → Result ℕ Refusal → Type 0
Prepares e l t op e' l' (Ok merges) = Done e l t op e' l' merges
Prepares e l t op e' l' (Err r) = OutOfSlots e l t op e' l' r
