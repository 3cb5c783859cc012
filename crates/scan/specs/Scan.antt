-- Document 01: "Scan of lo to hi fills the caller's rows, each a docket, a tally and a stamp, ascending", and is refused 1, 2, 3, 4 in this order.
-- Document 02: "the grower's terminal has a lookup and a scan that show counts and stamps only". The two differ in their rows alone.
use Rattle.std.specs.Prelude.{Bool, true, false, Option, None, Some, Result, Ok, Err, cond, List, ◌++◌, map, ℕ, eqb, length, drop}
use Rattle.refusals.specs.declared.Refusal.{Refusal}
use Rattle.refusals.specs.Numbers.{number_of}
use Rattle.model.specs.declared.Tally.{Tally}
use Rattle.model.specs.Lookup as model
use Rattle.tables.specs.Placed.{read_state, read_counts}
use Rattle.check_refusal.specs.Dockets.{docket_refusal}
use Rattle.scan.specs.declared.Row.{Row}
use Rattle.scan.specs.declared.CountRow.{CountRow}
use Rattle.scan.specs.declared.Scanned.{Scanned}

-- Document 01's numbers of a scan's answer: the refusal, how many rows it filled, 'more', and the next docket.
pub record Numbers : Type 0 where
  pub refusal : ℕ
  pub count : ℕ
  pub more : Bool
  pub next : ℕ

-- 'More' is said with the next live docket; "otherwise the next docket is given as 0".
abbrev pub counted_to : ℕ → Option ℕ → Numbers
counted_to count None = record { refusal = 0; count = count; more = false; next = 0 }
counted_to count (Some docket) = record { refusal = 0; count = count; more = true; next = docket }

-- "A refusal gives its number and zeros."
abbrev pub numbers : Result Scanned Refusal → Numbers
numbers (Ok s) = counted_to s.count s.next
numbers (Err r) = record { refusal = number_of r; count = 0; more = false; next = 0 }

-- What a scan leaves: its answer, and the caller's rows, of a type R.
pub record Outcome (R : Type 0) : Type 0 where
  pub answer : Numbers
  pub rows : List R

module _ {A R : Type 0} (written : model.Row A → R) where
  -- "Rows past its count are unchanged."
  abbrev pub filled : model.Scan A → List R → Outcome R
  filled s rows = record {
    answer = record { refusal = 0; count = s.count; more = s.more; next = s.next };
    rows = map written s.rows ++ drop s.count rows;
  }

-- "A refusal gives its number and zeros", and every row stays.
abbrev pub unfilled : {R : Type 0} → ℕ → List R → Outcome R
unfilled n rows = record { answer = record { refusal = n; count = 0; more = false; next = 0 }; rows = rows }

-- A scan whose rows are written so: refused by a number, or where that is 0 what is found from lo to hi.
abbrev pub scan_as : {A R : Type 0} → (model.Row A → R) → ℕ → (ℕ → model.Found A) → ℕ → ℕ → List R → Outcome R
scan_as written refusal look lo hi rows =
    cond (eqb refusal 0) (filled written (model.scan look lo hi (length rows)) rows) (unfilled refusal rows)

-- Refused 1 to 4; else the scan of the state that the tables read as, each row so written.
abbrev pub scan_state : {R : Type 0} → (model.Row Tally → R) → List ℕ → List ℕ → ℕ → ℕ → List R → Outcome R
scan_state written e l lo hi rows = scan_as written (docket_refusal e l lo hi) (model.lookup (read_state e l).levels) lo hi rows

-- The hall's rows show all.
abbrev pub written : model.Row Tally → Row
written r = record { docket = r.key; count = r.tally.count; price = r.tally.price; stamp = r.stamp }

unfoldable pub scan_tables : List ℕ → List ℕ → ℕ → ℕ → List Row → Outcome Row
scan_tables = scan_state written

abbrev pub count_written : model.Row ℕ → CountRow
count_written r = record { docket = r.key; count = r.tally; stamp = r.stamp }

-- The grower's, of the counts that the tables read as: no price word of a put is named here.
unfoldable pub scan_counts_tables : List ℕ → List ℕ → ℕ → ℕ → List CountRow → Outcome CountRow
scan_counts_tables e l lo hi rows = scan_as count_written (docket_refusal e l lo hi) (model.lookup (read_counts e l).levels) lo hi rows

-- What the hall's scan leaves, its prices left out.
abbrev pub without_price : Row → CountRow
without_price r = record { docket = r.docket; count = r.count; stamp = r.stamp }

abbrev pub without_prices : Outcome Row → Outcome CountRow
without_prices o = record { answer = o.answer; rows = map without_price o.rows }
