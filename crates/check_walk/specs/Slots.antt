-- What is asked of one slot of a chain.
use Rattle.std.specs.Prelude.{◌≡◌, Bool, ◌&&◌, List, ℕ, ◌≤◌, leb, eqb, length}
use Rattle.check_marks.specs.Marks.{mark_of}
use Rattle.tables.specs.Slots.{entry_length, slots_of}

-- An entry table that was not refused for its length.
pub record Entries (e : List ℕ) : Type 0 where
  pub number : length e ≡ entry_length (slots_of e)
  pub slots_low : 1 ≤ slots_of e
  pub slots_high : slots_of e ≤ 65535

-- What a chain of one form asks of a table, of what the level owes, of the least key and of a slot.
abbrev pub Asked : Type 0
Asked = List ℕ → ℕ → ℕ → ℕ → Bool

-- The slot is in the table, has no mark yet and has a row that fits.
unfoldable pub slot_fits : Asked → List ℕ → ℕ → ℕ → ℕ → List ℕ → Bool
slot_fits asked e owed least s m = leb s (slots_of e) && (eqb (mark_of m s) 0 && asked e owed least s)
