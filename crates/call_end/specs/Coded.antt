-- The code's answer as the definitions', and the tables with it.
use Rattle.std.specs.Prelude.{List, ℕ, Result, Ok, Err}
use Rattle.refusals.specs.declared.Refusal.{Refusal}
use Rattle.refusals.specs.Numbers.{number_of}
use Rattle.model.specs.Calls as model
use Rattle.call_tables.specs.Calls.{Called, lent}
use Rattle.call_end.specs.declared.Answer.{Answer}

-- "A refusal gives its number and zeros."
abbrev pub answer_of : Result Answer Refusal → model.Answer
answer_of (Ok r) = record { refusal = 0; merges = r.merges; purged = r.purged }
answer_of (Err e) = model.refusing (number_of e)

abbrev pub called : List ℕ → List ℕ → Result Answer Refusal → Called
called e l r = record { tables = lent e l; answer = answer_of r }
