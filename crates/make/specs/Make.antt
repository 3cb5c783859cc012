-- Document 01, "Refused calls": "Making a store checks 1, then 6, then the length in 2; it takes tables of any content
-- and leaves every slot free, the first row set and every other word of the level table zero."
use Rattle.std.specs.Prelude.{cond, List, [], ◌∷◌, ℕ, zero, suc, eqb, length}
use Rattle.settings.specs.declared.Settings.{Settings}
use Rattle.settings.specs.Limits.{allowed}
use Rattle.tables.specs.Rows.{level_length}
use Rattle.tables.specs.Slots.{slots_of}
use Rattle.tables.specs.Sound.{entries_fit}
use Rattle.make_fresh.specs.Fresh.{made_entries, made_levels}

-- The numbers s, s + 1 and so on, k of them; and 1, 2, .., n, the slots of a fresh store.
unfoldable pub count_up : ℕ → ℕ → List ℕ
count_up s zero = []
count_up s (suc k) = s ∷ count_up (suc s) k

abbrev pub upto : ℕ → List ℕ
upto n = count_up 1 n

-- The number of the refusal, or 0, and every word of both tables after the call.
pub record Made : Type 0 where
  pub refusal : ℕ
  pub entries : List ℕ
  pub levels : List ℕ

abbrev pub made : ℕ → Settings → Made
made n s = record { refusal = 0; entries = made_entries n; levels = made_levels s }

-- "Tables and rows are unchanged".
abbrev pub not_made : ℕ → List ℕ → List ℕ → Made
not_made number e l = record { refusal = number; entries = e; levels = l }

-- "Making a store checks 1, then 6, then the length in 2."
unfoldable pub make_tables : List ℕ → List ℕ → Settings → Made
make_tables e l s =
    cond (entries_fit e)
    (cond (allowed s)
    (cond (eqb (length l) (level_length s.deepest)) (made (slots_of e) s) (not_made 2 e l))
    (not_made 6 e l))
    (not_made 1 e l)
