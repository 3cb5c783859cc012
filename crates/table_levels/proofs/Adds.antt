-- The records of all levels, added up row by row.
use mathlib.Core.Path.{◌≡◌, refl, ap}
use mathlib.Core.List.{List, [], ◌∷◌}
use Prim.Native.Nat.{ℕ, zero, suc, ◌+◌, ◌*◌, ◌<◌, ◌≤◌}
use native.Mathlib.Omega.{arith}
use lib.ListN.{length, get_or, drop}
use Rattle.lists.specs.Lists.{sum}
use Rattle.model.specs.declared.Tally.{Tally}
use Rattle.model.specs.Records.{Level, State, empty, held, held_all}
use Rattle.tables.specs.Rows.{row_size, level_length, settings_of, Row, level_row}
use Rattle.tables.proofs.Rows.{length-level_words, settings_back, level_row_at}
use Rattle.table_levels.specs.Levels.{RowsAre}

-- What is left to add up from level i on.
abbrev held_from : List (Level ℕ Tally) → ℕ → ℕ
held_from ls i = held_all (drop i ls)

held_next : (ls : List (Level ℕ Tally)) (i : ℕ) → i < length ls → held_from ls i ≡ held (get_or ls i empty) + held_from ls (suc i)
unfolding sum
held_next [] i h = absurd (omega arith)
held_next (l ∷ ls) zero h = refl
held_next (l ∷ ls) (suc i) h = held_next ls i (omega arith)

held_past : (ls : List (Level ℕ Tally)) (i : ℕ) → length ls ≤ i → held_from ls i ≡ 0
unfolding sum
held_past [] zero h = refl
held_past [] (suc i) h = refl
held_past (l ∷ ls) zero h = absurd (omega arith)
held_past (l ∷ ls) (suc i) h = held_past ls i (omega arith)

module _ (p : State ℕ Tally) (l : List ℕ) (r : RowsAre p l) where
  pub rows_deepest : (settings_of l).deepest ≡ p.settings.deepest
  rows_deepest = rw r.levels (ap (λ s. s.deepest) (settings_back p))

  pub rows_length : length l ≡ level_length p.settings.deepest
  rows_length = rw r.levels (omega (arith, length-level_words p, r.size))

  rows_held : (i : ℕ) → i < length p.levels → (level_row l i).held ≡ held (get_or p.levels i empty)
  rows_held i h = rw r.levels (ap (λ (x : Row). x.held) (level_row_at p i h))

-- So many levels, whose records up to level i have been added up.
pub record Adds (p : State ℕ Tally) (l : List ℕ) (levels held i : ℕ) : Type 0 where
  pub number : length p.levels ≡ levels
  pub room : length l ≡ row_size * (levels + 1)
  pub sum_is : held + held_from p.levels i ≡ held_all p.levels

module _ (p : State ℕ Tally) (l : List ℕ) (r : RowsAre p l) where
  pub adds_nothing : Adds p l ((settings_of l).deepest + 1) 0 0
  adds_nothing =
      record {
        number = omega (arith, rows_deepest p l r, r.size);
        room = omega (arith, rows_deepest p l r, rows_length p l r);
        sum_is = omega arith;
      }

  module _ (levels held i : ℕ) (a : Adds p l levels held i) where
    pub adds_one : i < levels → Adds p l levels (held + (level_row l i).held) (i + 1)
    adds_one h =
        let next : i + 1 ≡ suc i = omega arith in
        let one : held_from p.levels (i + 1) ≡ held_from p.levels (suc i) = ap (held_from p.levels) next in
        record {
          number = a.number;
          room = a.room;
          sum_is = omega (arith, one, a.sum_is, rows_held p l r i (omega (arith, a.number)), held_next p.levels i (omega (arith, a.number)));
        }

    pub adds_all : levels ≤ i → held ≡ held_all p.levels
    adds_all h = omega (arith, a.sum_is, held_past p.levels i (omega (arith, a.number)))
