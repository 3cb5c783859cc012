-- Document 01, "The third demand": "Lookups and scans write no word of the tables and may stand anywhere between." The grower's too.
use Rattle.std.specs.Prelude.{List, [], ◌∷◌, ℕ}
use Rattle.model.specs.declared.Tally.{Tally}
use Rattle.model.specs.Calls.{Call, Answer}
use Rattle.lookup.specs.Lookup as lookup
use Rattle.lookup.specs.Lookup.{lookup_tables}
use Rattle.lookup.specs.Counts.{lookup_counts}
use Rattle.scan.specs.declared.Row.{Row}
use Rattle.scan.specs.declared.CountRow.{CountRow}
use Rattle.scan.specs.Scan.{Outcome, scan_tables, scan_counts_tables}
use Rattle.call_tables.specs.Calls.{Tables, call_tables}

-- A timed call, a lookup of a docket, a scan of lo to hi into the caller's rows; and the grower's lookup and scan.
pub data Event : Type 0 where
  call : Call Tally → Event
  lookup_of : ℕ → Event
  scan_of : ℕ → ℕ → List Row → Event
  lookup_count_of : ℕ → Event
  scan_counts_of : ℕ → ℕ → List CountRow → Event

-- What each gives.
pub data Reply : Type 0 where
  call_gives : Answer → Reply
  lookup_gives : lookup.Answer Tally → Reply
  scan_gives : Outcome Row → Reply
  lookup_count_gives : lookup.Answer ℕ → Reply
  scan_counts_gives : Outcome CountRow → Reply

abbrev pub reply : Tables → Event → Reply
reply w (call c) = call_gives (call_tables w c).answer
reply w (lookup_of k) = lookup_gives (lookup_tables w.entries w.levels k)
reply w (scan_of lo hi rows) = scan_gives (scan_tables w.entries w.levels lo hi rows)
reply w (lookup_count_of k) = lookup_count_gives (lookup_counts w.entries w.levels k)
reply w (scan_counts_of lo hi rows) = scan_counts_gives (scan_counts_tables w.entries w.levels lo hi rows)

-- The tables that it leaves: a lookup and a scan are lent them to read.
abbrev pub leaves : Tables → Event → Tables
leaves w (call c) = (call_tables w c).tables
leaves w (lookup_of k) = w
leaves w (scan_of lo hi rows) = w
leaves w (lookup_count_of k) = w
leaves w (scan_counts_of lo hi rows) = w

-- A list of them: what it leaves, and what each gives.
unfoldable pub run_events : Tables → List Event → Tables
run_events w [] = w
run_events w (e ∷ es) = run_events (leaves w e) es

unfoldable pub replies : Tables → List Event → List Reply
replies w [] = []
replies w (e ∷ es) = reply w e ∷ replies (leaves w e) es

-- The list without lookups and scans, and the answers without theirs.
unfoldable pub calls_of : List Event → List (Call Tally)
calls_of [] = []
calls_of (call c ∷ es) = c ∷ calls_of es
calls_of (lookup_of k ∷ es) = calls_of es
calls_of (scan_of lo hi rows ∷ es) = calls_of es
calls_of (lookup_count_of k ∷ es) = calls_of es
calls_of (scan_counts_of lo hi rows ∷ es) = calls_of es

unfoldable pub answers_of : List Reply → List Answer
answers_of [] = []
answers_of (call_gives r ∷ rs) = r ∷ answers_of rs
answers_of (lookup_gives r ∷ rs) = answers_of rs
answers_of (scan_gives r ∷ rs) = answers_of rs
answers_of (lookup_count_gives r ∷ rs) = answers_of rs
answers_of (scan_counts_gives r ∷ rs) = answers_of rs
