-- What the code answers for a making.
use mathlib.Core.Path.{◌≡◌, refl, sym, ap, ◌∙◌}
use mathlib.Core.Bool.{cond}
use mathlib.Core.List.{List, ◌++◌}
use Prim.Native.Nat.{ℕ, ◌≤◌, ◌<◌}
use borrow.Author.Tests.{lt-ltb, le-ltb, eq-eqb, ne_eqb}
use lib.Dec.{eqb}
use lib.ListN.{length, take, drop}
use Rattle.settings.specs.declared.Settings.{Settings}
use Rattle.settings.specs.Limits.{allowed}
use Rattle.lists.proofs.Bools.{cond_elim}
use Rattle.tables.specs.Rows.{level_length}
use Rattle.tables.specs.Slots.{entry_length, slots_of}
use Rattle.tables.specs.Sound.{entries_fit}
use Rattle.make.specs.Make.{Made, made, not_made, make_tables}
use Rattle.settings.proofs.Allowed.{allowed_bounds}
use Rattle.make.proofs.Accepted.{accepting}
use Rattle.script_store.specs.Memory.{Memory, Stepped, level_room, with_tables, answers_alone, makes}
use Rattle.script_store.specs.Coded.{Room, memory}
use Rattle.script_store.proofs.Parts.{rejoined, unchanged, make_entry_part, make_level_part}

-- A refused making leaves both tables as they were.
not_made_where_refused : (e l : List ℕ) (s : Settings) → ((make_tables e l s).refusal ≡ 0 → ⊥) → make_tables e l s ≡ not_made (make_tables e l s).refusal e l
unfolding make_tables
not_made_where_refused e l s =
    let Kept : Made → Type 0 = λ x. (x.refusal ≡ 0 → ⊥) → x ≡ not_made x.refusal e l in
    let three = cond (eqb (length l) (level_length s.deepest)) (made (slots_of e) s) (not_made 2 e l) in
    cond_elim Kept (entries_fit e) (cond (allowed s) three (not_made 6 e l)) (not_made 1 e l)
    (λ _. cond_elim Kept (allowed s) three (not_made 6 e l)
    (λ _. cond_elim Kept (eqb (length l) (level_length s.deepest)) (made (slots_of e) s) (not_made 2 e l) (λ _ refused. absurd (refused refl)) (λ _ _. refl))
    (λ _ _. refl))
    (λ _ _. refl)

module _ {e l : List ℕ} (room : Room e l) (slots deepest n : ℕ) (s : Settings) where
  pub too_many : 3275 < n → answers_alone 9 (memory e l slots deepest) ≡ makes n s (memory e l slots deepest)
  unfolding makes
  too_many many = rw (lt-ltb 3275 n many)

  abbrev fresh : Memory
  fresh = record { entries = e; levels = l; slots = n; deepest = s.deepest }

  -- What a making of at most 3,275 slots gives, by what the call answers and leaves.
  abbrev outcome : Made → Stepped
  outcome r =
      cond (eqb r.refusal 0)
      (answers_alone 0 (with_tables fresh (record { entries = r.entries; levels = r.levels })))
      (answers_alone r.refusal (memory e l slots deepest))

  makes_few : n ≤ 3275 → outcome (make_tables (take (entry_length n) e) (take (level_room s.deepest) l) s) ≡ makes n s (memory e l slots deepest)
  unfolding makes
  makes_few few = rw (le-ltb 3275 n few)

  -- A making that is lent so many words and rows, of which p and q are what it leaves.
  module _ (few : n ≤ 3275) {words rows : ℕ} (words_are : words ≡ entry_length n) (rows_are : rows ≡ level_room s.deepest) (number : ℕ) (p q : List ℕ)
      (tells : record { refusal = number; entries = p; levels = q } ≡ make_tables (take words e) (take rows l) s) where
    makes_told : outcome (record { refusal = number; entries = p; levels = q }) ≡ makes n s (memory e l slots deepest)
    makes_told = ap outcome (tells ∙ (λ i. make_tables (take (words_are i) e) (take (rows_are i) l) s)) ∙ makes_few few

    -- The memory with what is left of the tables, and a store of so many slots and levels.
    abbrev left : ℕ → ℕ → Memory
    left = memory (p ++ drop words e) (q ++ drop rows l)

    abbrev new : Stepped
    new = answers_alone 0 (with_tables fresh (record { entries = p; levels = q }))

    pub make_refused : (number ≡ 0 → ⊥) → answers_alone number (left slots deepest) ≡ makes n s (memory e l slots deepest)
    make_refused refused =
        let kept = tells ∙ not_made_where_refused (take words e) (take rows l) s (λ z. refused (ap (λ (r : Made). r.refusal) tells ∙ z)) in
        let same_entries = unchanged e p words (ap (λ (r : Made). r.entries) kept) in
        let same_levels = unchanged l q rows (ap (λ (r : Made). r.levels) kept) in
        (λ i. answers_alone number (memory (same_entries i) (same_levels i) slots deepest))
        ∙ ap (λ t. cond t new (answers_alone number (memory e l slots deepest))) (sym (ne_eqb number 0 refused))
        ∙ makes_told

    pub make_accepted : number ≡ 0 → length p ≡ length (take words e) → length q ≡ length (take rows l)
        → answers_alone 0 (left n s.deepest) ≡ makes n s (memory e l slots deepest)
    make_accepted accepted p-kept q-kept =
        let whole_entries = rejoined e words (make_entry_part room words_are few) p p-kept in
        let whole_levels = rejoined l rows (make_level_part room s.deepest rows_are) q q-kept in
        (λ i. answers_alone 0 (memory (whole_entries i) (whole_levels i) n s.deepest))
        ∙ ap (λ t. cond t new (answers_alone number (memory e l slots deepest))) (sym (eq-eqb number 0 accepted))
        ∙ makes_told

-- Only settings that are allowed are accepted.
pub accepted_shallow : (e l : List ℕ) (s : Settings) (number : ℕ) (p q : List ℕ) → record { refusal = number; entries = p; levels = q } ≡ make_tables e l s
    → number ≡ 0 → s.deepest ≤ 6
accepted_shallow e l s number p q tells accepted =
    (allowed_bounds s (accepting e l s (sym (ap (λ (r : Made). r.refusal) tells) ∙ accepted)).settings).deepest_high
