-- The refusals that a timed call can meet at once, and a call that meets none of them.
use Rattle.std.specs.Prelude.{◌≡◌, false, cond, List, ℕ, eqb}
use Rattle.model.specs.declared.Tally.{Tally}
use Rattle.model.specs.Calls.{Op, Call, bad_docket, bad_clock, bad_date, early_refusal}
use Rattle.tables.specs.Slots.{slots_of, clock_of}
use Rattle.tables.specs.Words.{Fits32}
use Rattle.tables.specs.Sound.{table_refusal}
use Rattle.tables.specs.Placed.{read_state}
use Rattle.merge_levels.specs.Laid.{Store}

-- "The order is the table's": 1 to 3 of the tables, then the docket, the clock and the date; 0 for none of them.
abbrev pub call_refusal : List ℕ → List ℕ → Call Tally → ℕ
call_refusal e l c = cond (eqb (table_refusal e l) 0) (early_refusal (clock_of e) c) (table_refusal e l)

-- A call that meets none of them.
pub record Began (e l : List ℕ) (t : ℕ) (op : Op Tally) : Type 0 where
  pub sound : table_refusal e l ≡ 0
  pub fits : Fits32 e
  pub dockets : bad_docket op ≡ false
  pub time : bad_clock t (clock_of e) ≡ false
  pub dated : bad_date t op ≡ false

-- The store in the tables, at the time of the call.
abbrev pub store : List ℕ → List ℕ → ℕ → Store
store e l t = record { slots = slots_of e; time = t; state = read_state e l }
