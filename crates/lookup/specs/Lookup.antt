-- Document 01: "Lookup reads levels from 0", and is refused 1, 2, 3, 4 in this order.
use Rattle.std.specs.Prelude.{cond, List, ℕ, eqb, Option, None, Some, Result, Ok, Err}
use Rattle.model.specs.declared.Tally.{Tally}
use Rattle.model.specs.Lookup as model
use Rattle.tables.specs.Placed.{read_state}
use Rattle.check_refusal.specs.Dockets.{docket_refusal}
use Rattle.lookup_level.specs.declared.Found as put

-- What a lookup answers: the number of its refusal, or else nothing, or what is shown of the put and its stamp.
pub data Answer (A : Type 0) : Type 0 where
  Refused : ℕ → Answer A
  Absent : Answer A
  Found : A → ℕ → Answer A

-- What the model finds, as the answer.
abbrev pub answered : {A : Type 0} → model.Found A → Answer A
answered model.absent = Absent
answered (model.found shown stamp) = Found shown stamp

-- A result with a number for its refusal, as the answer.
abbrev pub answer_of : {A : Type 0} → Result (Option (put.Found A)) ℕ → Answer A
answer_of (Ok None) = Absent
answer_of (Ok (Some f)) = Found f.shown f.stamp
answer_of (Err refusal) = Refused refusal

-- Refused 1 to 4, as a call of the dockets from k to k; else the lookup in the state that the tables read as.
unfoldable pub lookup_tables : List ℕ → List ℕ → ℕ → Answer Tally
lookup_tables e l k = cond (eqb (docket_refusal e l k k) 0) (answered (model.lookup (read_state e l).levels k)) (Refused (docket_refusal e l k k))

-- Document 01's numbers of an answer: "A refusal gives its number and zeros", "found (1 or 0)", "Absent gives tally and stamp 0"; a tally is count and price.
pub record Numbers : Type 0 where
  pub refusal : ℕ
  pub found : ℕ
  pub count : ℕ
  pub price : ℕ
  pub stamp : ℕ

abbrev pub numbers : Answer Tally → Numbers
numbers (Refused n) = record { refusal = n; found = 0; count = 0; price = 0; stamp = 0 }
numbers Absent = record { refusal = 0; found = 0; count = 0; price = 0; stamp = 0 }
numbers (Found tally stamp) = record { refusal = 0; found = 1; count = tally.count; price = tally.price; stamp = stamp }
