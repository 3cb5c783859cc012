-- Document 01, "The script program": a store in memory, what each call does to it and which numbers are printed.
use Rattle.std.specs.Prelude.{cond, List, [], ◌∷◌, ◌++◌, ℕ, eqb, ltb, length, take, drop}
use Rattle.settings.specs.declared.Settings.{Settings}
use Rattle.model.specs.declared.Tally.{Tally}
use Rattle.model.specs.Calls.{Call}
use Rattle.tables.specs.Slots.{entry_length}
use Rattle.tables.specs.Rows.{level_length}
use Rattle.make.specs.Make.{make_tables}
use Rattle.lookup.specs.Lookup.{lookup_tables, numbers}
use Rattle.call_tables.specs.Calls.{Tables, call_tables}

-- Room for the two tables, of which the store takes the first words; no slots where no store was made yet.
pub record Memory : Type 0 where
  pub entries : List ℕ
  pub levels : List ℕ
  pub slots : ℕ
  pub deepest : ℕ

-- "Each line prints three numbers"; request S-2: "`G` lines print it as a fourth number".
pub record Stepped : Type 0 where
  pub memory : Memory
  pub printed : List ℕ

-- The store's tables, and the memory with other words in their place.
abbrev pub tables_of : Memory → Tables
tables_of m = record { entries = take (entry_length m.slots) m.entries; levels = take (level_length m.deepest) m.levels }

abbrev pub with_tables : Memory → Tables → Memory
with_tables m w = record {
  entries = w.entries ++ drop (length w.entries) m.entries;
  levels = w.levels ++ drop (length w.levels) m.levels;
  slots = m.slots;
  deepest = m.deepest;
}

-- "refusal or 0", and zeros; request S-2: "a line answered 9 always prints three numbers".
abbrev pub answers_alone : ℕ → Memory → Stepped
answers_alone n m = record { memory = m; printed = n ∷ 0 ∷ 0 ∷ [] }

-- The words that a making is lent: for an L that no store can have, all there are.
abbrev pub level_room : ℕ → ℕ
level_room deepest = cond (ltb 6 deepest) 32 (level_length deepest)

-- "N above … is 9"; request S-2: "the script program takes N up to 3,275".
-- A making of settings that are out of range is refused whatever the level table's length.
-- "A later M makes the store anew; a refused one leaves the store there was."
unfoldable pub makes : ℕ → Settings → Memory → Stepped
makes n s m =
    let r = make_tables (take (entry_length n) m.entries) (take (level_room s.deepest) m.levels) s in
    let fresh : Memory = record { entries = m.entries; levels = m.levels; slots = n; deepest = s.deepest } in
    cond (ltb 3275 n) (answers_alone 9 m)
    (cond (eqb r.refusal 0)
    (answers_alone 0 (with_tables fresh (record { entries = r.entries; levels = r.levels })))
    (answers_alone r.refusal m))

-- "refusal or 0, then merges and purged"
unfoldable pub does : Call Tally → Memory → Stepped
does c m =
    let r = call_tables (tables_of m) c in
    record { memory = with_tables m r.tables; printed = r.answer.refusal ∷ r.answer.merges ∷ r.answer.purged ∷ [] }

-- "or for G found (1 or 0) and tally": the count; request S-2: "`P` lines take the price last; `G` lines print it as a fourth number".
unfoldable pub finds : ℕ → Memory → Stepped
finds k m =
    let r = numbers (lookup_tables (tables_of m).entries (tables_of m).levels k) in
    record { memory = m; printed = r.refusal ∷ r.found ∷ r.count ∷ r.price ∷ [] }
