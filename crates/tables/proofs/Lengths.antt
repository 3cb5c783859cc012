-- The lengths of the two tables and the level table's first row, as facts.
use mathlib.Core.Path.{◌≡◌}
use mathlib.Core.Bool.{true, and-eq-true_iff}
use mathlib.Core.List.{List}
use Prim.Native.Nat.{ℕ, ◌≤◌}
use borrow.Author.Tests.{eqb-true}
use lib.Dec.{eqb}
use lib.ListN.{length}
use Rattle.settings.specs.Limits.{within, allowed}
use Rattle.settings.proofs.Allowed.{allowed_bounds, within_bounds}
use Rattle.tables.specs.Slots.{entry_length, slots_of}
use Rattle.tables.specs.Rows.{level_length, settings_of}
use Rattle.tables.specs.Sound.{entries_fit, levels_fit}

module _ (e : List ℕ) where
  -- "4 × (N + 1) for an allowed N".
  pub record EntryLength : Type 0 where
    pub number : length e ≡ entry_length (slots_of e)
    pub slots_low : 1 ≤ slots_of e
    pub slots_high : slots_of e ≤ 65535

  pub entries_facts : entries_fit e ≡ true → EntryLength
  unfolding entries_fit
  entries_facts q =
      let a = (and-eq-true_iff (eqb (length e) (entry_length (slots_of e))) (within 1 (slots_of e) 65535)).0 q in
      let b = within_bounds 1 (slots_of e) 65535 a.1 in
      record { number = eqb-true (length e) (entry_length (slots_of e)) a.0; slots_low = b.0; slots_high = b.1 }

module _ (l : List ℕ) where
  -- "4 × (L + 2) words", and a first row in range.
  pub record LevelTable : Type 0 where
    pub number : length l ≡ level_length (settings_of l).deepest
    pub first_row : allowed (settings_of l) ≡ true

  pub table_facts : levels_fit l ≡ true → LevelTable
  unfolding levels_fit
  table_facts q =
      let a = (and-eq-true_iff (eqb (length l) (level_length (settings_of l).deepest)) (allowed (settings_of l))).0 q in
      record { number = eqb-true (length l) (level_length (settings_of l).deepest) a.0; first_row = a.1 }

  pub deepest_high : levels_fit l ≡ true → (settings_of l).deepest ≤ 6
  deepest_high q = (allowed_bounds (settings_of l) (table_facts q).first_row).deepest_high
