-- Request S-2: "the grower's terminal has a lookup … that show counts and stamps only". No price word of a put is named here.
use Rattle.std.specs.Prelude.{cond, List, ℕ, eqb, Option, Result, Ok, Err}
use Rattle.std.specs.Option.{option_map}
use Rattle.model.specs.declared.Tally.{Tally}
use Rattle.model.specs.Lookup as model
use Rattle.tables.specs.Placed.{read_counts}
use Rattle.check_refusal.specs.Dockets.{docket_refusal}
use Rattle.lookup_level.specs.declared.Found as put
use Rattle.lookup.specs.Lookup.{Answer, Refused, Absent, Found, answered, Numbers}

-- Refused as the hall's lookup; else the lookup in the counts that the tables read as.
unfoldable pub lookup_counts : List ℕ → List ℕ → ℕ → Answer ℕ
lookup_counts e l k = cond (eqb (docket_refusal e l k k) 0) (answered (model.lookup (read_counts e l).levels k)) (Refused (docket_refusal e l k k))

-- The hall's answer with the price left out.
abbrev pub without_price : Answer Tally → Answer ℕ
without_price (Refused n) = Refused n
without_price Absent = Absent
without_price (Found tally stamp) = Found tally.count stamp

-- The same of a result, whatever it is refused with.
abbrev pub count_alone : put.Found Tally → put.Found ℕ
count_alone f = record { stamp = f.stamp; shown = f.shown.count }

abbrev pub counts_alone : {E : Type 0} → Result (Option (put.Found Tally)) E → Result (Option (put.Found ℕ)) E
counts_alone (Ok found) = Ok (option_map count_alone found)
counts_alone (Err refusal) = Err refusal

-- Document 01's numbers of an answer; with a price they are those of the hall's.
pub record CountNumbers : Type 0 where
  pub refusal : ℕ
  pub found : ℕ
  pub count : ℕ
  pub stamp : ℕ

abbrev pub count_numbers : Answer ℕ → CountNumbers
count_numbers (Refused n) = record { refusal = n; found = 0; count = 0; stamp = 0 }
count_numbers Absent = record { refusal = 0; found = 0; count = 0; stamp = 0 }
count_numbers (Found count stamp) = record { refusal = 0; found = 1; count = count; stamp = stamp }

abbrev pub with_price : ℕ → CountNumbers → Numbers
with_price price n = record { refusal = n.refusal; found = n.found; count = n.count; price = price; stamp = n.stamp }
