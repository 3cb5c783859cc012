-- What is asked of a level, in the order of the code, what it answers and what it marks.
use Rattle.std.specs.Prelude.{Bool, Option, Result, Ok, Err, cond, ◌&&◌, ◌||◌, not, List, ℕ, ◌+◌, leb, eqb}
use Rattle.std.specs.Result.{result_ok}
use Rattle.tables.specs.Slots.{clock_of}
use Rattle.tables.specs.Rows.{level_row}
use Rattle.tables.specs.Sound.{point_chain, range_chain}
use Rattle.check_forms.specs.Forms.{point_fits, range_fits}
use Rattle.check_walk.specs.Walks.{Marked, after, walked}

-- The level's number of records is count, and its owed is one that it may have.
unfoldable pub numbers_fit : List ℕ → List ℕ → ℕ → ℕ → Bool
numbers_fit e l i count =
    eqb (level_row l i).held count && (leb (level_row l i).owed (clock_of e) && (not (eqb count 0) || eqb (level_row l i).owed 0))

-- A chain that does not fit: no record is counted, and the marks so far stay.
abbrev pub broken : List ℕ → Marked (Result ℕ ℕ)
broken m = record { answer = Err 0; marks = m }

-- The numbers, once the chains have been walked: how many records these hold, whether the numbers fit or not.
abbrev pub numbered : List ℕ → List ℕ → ℕ → ℕ → List ℕ → Marked (Result ℕ ℕ)
numbered e l i count m = record { answer = cond (numbers_fit e l i count) (Ok count) (Err count); marks = m }

-- The ranges over the marks of the points, then the numbers.
abbrev pub ranged : List ℕ → List ℕ → ℕ → ℕ → List ℕ → Marked (Result ℕ ℕ)
ranged e l i points m =
    after (walked range_fits e (level_row l i).owed 0 0 m (range_chain e l i)) (λ ranges. numbered e l i (points + ranges)) broken

-- The points, then the ranges.
unfoldable pub leveled : List ℕ → List ℕ → ℕ → List ℕ → Marked (Result ℕ ℕ)
leveled e l i m = after (walked point_fits e (level_row l i).owed 0 0 m (point_chain e l i)) (ranged e l i) broken

-- The records of a level where all of it fits.
abbrev pub fitting : Marked (Result ℕ ℕ) → Marked (Option ℕ)
fitting w = record { answer = result_ok w.answer; marks = w.marks }
