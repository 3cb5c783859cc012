-- Document 01, "Refused calls": the table's numbers.
use Rattle.std.specs.Prelude.{ℕ, Result, Ok, Err}
use Rattle.refusals.specs.declared.Refusal.{Refusal}
use Rattle.refusals.specs.declared.Refusal.TheVariants.{EntryLength, LevelTable, Chains, Docket, Clock, Settings, Full, Line, Date}

-- "Entry table's length", "Level table", "Chains", "Docket", "Clock", "Settings", "Full", "Line", "Date".
abbrev pub number_of : Refusal → ℕ
number_of EntryLength = 1
number_of LevelTable = 2
number_of Chains = 3
number_of Docket = 4
number_of Clock = 5
number_of Settings = 6
number_of Full = 7
number_of Line = 9
number_of Date = 10

-- The number with which a call answers: 0 where it is not refused.
abbrev pub refusal_of : {T : Type 0} → Result T Refusal → ℕ
refusal_of (Ok _) = 0
refusal_of (Err r) = number_of r

-- The same answer with the number in the refusal's place.
abbrev pub numbered : {T : Type 0} → Result T Refusal → Result T ℕ
numbered (Ok x) = Ok x
numbered (Err r) = Err (number_of r)
