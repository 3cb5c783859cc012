-- Document 01, "Refused calls": a making "leaves every slot free, the first row set and every other word of the level table zero."
use Rattle.std.specs.Prelude.{cond, List, [], ◌∷◌, ℕ, zero, suc, ◌+◌, eqb, replicate}
use Rattle.settings.specs.declared.Settings.{Settings}
use Rattle.tables.specs.Slots.{Slot, slot_words, free_slot, top_slot}
use Rattle.tables.specs.Rows.{no_row, level_table}

-- The free chain is 1, 2, .., n: after slot s comes s + 1, and "zero ends the chain".
abbrev pub next_free : ℕ → ℕ → ℕ
next_free n s = cond (eqb s n) 0 (s + 1)

-- Slots s, s + 1 and so on, k of them, in a table of n slots.
unfoldable pub free_slots : ℕ → ℕ → ℕ → List Slot
free_slots n s zero = []
free_slots n s (suc k) = free_slot (next_free n s) ∷ free_slots n (suc s) k

-- "Slot 0 has the first free slot, the last accepted clock (0 when fresh), 0, 0." Then slots 1 to n, all free.
unfoldable pub made_entries : ℕ → List ℕ
made_entries n = slot_words (top_slot 1 0 ∷ free_slots n 1 n)

-- "The first row holds L, T, B, D. Then a row for each level from 0", all zero: L + 1 rows.
unfoldable pub made_levels : Settings → List ℕ
made_levels s = level_table s (replicate (s.deepest + 1) no_row)
