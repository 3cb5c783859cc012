-- The level table of a merged state: the two rows that the merge writes.
use mathlib.Core.Path.{◌≡◌, sym, ap, ◌∙◌}
use mathlib.Core.List.{List, map}
use Prim.Native.Nat.{ℕ, suc, ◌+◌, ◌<◌}
use native.Mathlib.Omega.{arith}
use lib.Dec.{eqb}
use lib.ListN.{length, set, length-set, length-map}
use Rattle.lists.proofs.Tests.{set-map}
use Rattle.model.specs.declared.Tally.{Tally}
use Rattle.model.specs.Records.{Level, State, empty, level}
use Rattle.model.specs.Merge.{joined}
use Rattle.model.specs.Steps.{merge_state}
use Rattle.tables.specs.Rows.{Row, set_row, no_row, level_table}
use Rattle.tables.specs.Placed.{row_of_level, level_words}
use Rattle.tables.proofs.Rows.{level_table-set}

-- The level that a merge of level i leaves at i+1.
abbrev pub merged_level : ℕ → State ℕ Tally → Level ℕ Tally
merged_level i p = joined (eqb (suc i) p.settings.deepest) (level i p) (level (suc i) p)

-- "All of row i becomes zero", and the row of i+1 becomes that of the merged level.
pub merged_words : (i : ℕ) (p : State ℕ Tally) → suc i < length p.levels
    → level_words (merge_state i p) ≡ set_row (set_row (level_words p) i no_row) (i + 1) (row_of_level (merged_level i p))
unfolding merge_state level_words
merged_words i p deep =
    let one : i + 1 ≡ suc i = omega arith in
    let rows : List Row = map row_of_level p.levels in
    let v : Row = row_of_level (merged_level i p) in
    rw one
    (ap (level_table p.settings)
    (sym (set-map row_of_level (set p.levels i empty) (suc i) (merged_level i p))
    ∙ ap (λ rs. set rs (suc i) v) (sym (set-map row_of_level p.levels i empty)))
    ∙ level_table-set p.settings (set rows i no_row) (suc i) v (omega (arith, length-set rows i no_row, length-map p.levels row_of_level))
    ∙ ap (λ ws. set_row ws (suc i) v) (level_table-set p.settings rows i no_row (omega (arith, length-map p.levels row_of_level))))
