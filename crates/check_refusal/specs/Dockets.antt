-- Document 01, "Refused calls": the tables' numbers, then the docket's.
use Rattle.std.specs.Prelude.{Bool, cond, ◌||◌, List, ℕ, eqb, ltb}
use Rattle.tables.specs.Sound.{table_refusal}

-- "above 65,535, or lo above hi"
abbrev pub bad_dockets : ℕ → ℕ → Bool
bad_dockets lo hi = ltb 65535 hi || ltb hi lo

-- 1 to 3 are the tables', 4 is the dockets'; 0 for none of them.
abbrev pub docket_refusal : List ℕ → List ℕ → ℕ → ℕ → ℕ
docket_refusal e l lo hi = cond (eqb (table_refusal e l) 0) (cond (bad_dockets lo hi) 4 0) (table_refusal e l)
