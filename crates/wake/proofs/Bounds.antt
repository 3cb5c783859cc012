-- How large the answer's numbers can be: a refusal from 1 to 3, and a clock of 33 bits, "as a 64-bit number".
use mathlib.Core.Path.{◌≡◌}
use mathlib.Core.List.{List}
use Prim.Native.Nat.{ℕ, ◌≤◌}
use native.Mathlib.Omega.{arith}
use lib.Dec.{eqb}
use borrow.Author.Tests.{eqb-true, eqb-false}
use Rattle.lists.proofs.Bools.{cond_elim}
use Rattle.std.proofs.Common.{Option, Some, None, Result, Ok, Err}
use Rattle.model_wake.specs.Wake.{next_wake}
use Rattle.model_wake.proofs.Smallest.{Smallest, next_smallest}
use Rattle.tables.specs.Words.{Fits32}
use Rattle.tables.specs.Rows.{settings_of}
use Rattle.tables.specs.Sound.{table_refusal}
use Rattle.tables.proofs.Numbers.{tables_refuse_low}
use Rattle.tables.proofs.SoundWords.{sound_facts}
use Rattle.wake.specs.Wake.{owed_of, wake_tables}
use Rattle.wake.proofs.Turns.{clock_most}

abbrev pub AnswerLow : Result (Option ℕ) ℕ → Type 0
AnswerLow (Err n) = (1 ≤ n) × (n ≤ 3)
AnswerLow (Ok None) = Unit {0}
AnswerLow (Ok (Some m)) = m ≤ 8589934590

module _ (e l : List ℕ) (fits : Fits32 e) where
  -- What a level of sound tables owes is no later than the last clock, a word of the entry table.
  sound_low : table_refusal e l ≡ 0 → AnswerLow (Ok (next_wake (settings_of l) (owed_of l)))
  sound_low h = go (next_wake (settings_of l) (owed_of l)) (next_smallest (settings_of l) (owed_of l))
    where
      go : (w : Option ℕ) → Smallest (settings_of l) (owed_of l) (settings_of l).deepest w → AnswerLow (Ok w)
      go None s = tt
      go (Some m) s =
          let f = sound_facts e l h in
          let owed = (f.levels s.level (omega (arith, s.above))).owed_clock in
          omega (arith, s.clock, clock_most (settings_of l) s.level (owed_of l s.level) f.settings_ok s.above (omega (arith, owed, fits 1)))

  pub answer_low : AnswerLow (wake_tables e l)
  unfolding wake_tables
  answer_low = cond_elim AnswerLow (eqb (table_refusal e l) 0) _ _ (λ q. sound_low (eqb-true (table_refusal e l) 0 q))
      (λ q. (omega (arith, eqb-false (table_refusal e l) 0 q), tables_refuse_low e l))
