-- Worked cases of request S-5: the script of document 01, the sleep of a shift, and what its claims do not say.
use Rattle.std.specs.Prelude.{◌≡◌, List, [], ◌∷◌, ◌++◌, map, ℕ, Option, Some, None}
use Rattle.lists.specs.Lists.{sum}
use Rattle.model.specs.declared.Tally.{Tally}
use Rattle.model.specs.Records.{State, empty}
use Rattle.model.specs.Calls.{Call, Answer, run, answers, step}
use Rattle.model.specs.Cases.{settings, store, accepts, P, D, R, F, T, hall, noon, kept}
use Rattle.model_wake.specs.Wake.{wake}

-- The clock of the next due merge once a store has taken some calls.
abbrev pub wake_after : State (Unit {0}) Tally → List (Call Tally) → Option ℕ
wake_after s cs = wake (run s cs)

-- The merges that calls count in all.
abbrev pub merges_of : State (Unit {0}) Tally → List (Call Tally) → ℕ
merges_of s cs = sum (λ (r : Answer). r.merges) (answers s cs)

-- The hall of the README: a day's term in minutes, and a lot that leaves at minute 600.
abbrev pub shift : State (Unit {0}) Tally
shift = store 2000 (settings 3 4 16 1430)

abbrev pub lot : List (Call Tally)
lot = P 7 124 10440 1880 ∷ R 600 120 139 ∷ []

-- L=2 T=2 B=4 D=9, with limits 3 and 9: a delete of 1 on level 1, and one of 8 in the buffer.
abbrev pub two : State (Unit {0}) Tally
two = run (store 4 (settings 2 2 4 9)) (D 1 5 ∷ F 2 ∷ D 8 6 ∷ [])

-- No accepted call has left this: a buffer of B records.
abbrev pub unsettled : State (Unit {0}) Tally
unsettled = record { settings = settings 2 2 1 9; clock = 1; free = []; levels = record { points = kept 5 50 1 ∷ []; ranges = []; owed = 0 } ∷ empty ∷ empty ∷ [] }

pub record WakeTable : Type 0 where
  -- Nothing is owed in a fresh store, nor by puts: "or 'none'".
  pub fresh : wake hall ≡ None
  pub puts_owe_nothing : wake_after hall (P 1 7 70 0 ∷ P 1 8 80 0 ∷ []) ≡ None
  -- "T 5 in the script merges (5 − 2 = 3); a tick at 4 would not." Then level 2, at 2 + 9, and then nothing.
  pub script : map (wake_after hall) (noon ∷ (noon ++ T 4 ∷ []) ∷ (noon ++ T 5 ∷ []) ∷ (noon ++ T 5 ∷ T 11 ∷ []) ∷ []) ≡ Some 5 ∷ Some 5 ∷ Some 11 ∷ None ∷ []
  -- The sleep of a shift: the buffer's 68, level 1's 340 and level 2's 1,430 minutes after the delete, a merge at each and none a minute before.
  pub shift_sleeps :
      map (wake_after shift) (lot ∷ (lot ++ T 668 ∷ []) ∷ (lot ++ T 668 ∷ T 940 ∷ []) ∷ (lot ++ T 668 ∷ T 940 ∷ T 2030 ∷ []) ∷ []) ≡ Some 668 ∷ Some 940 ∷ Some 2030 ∷ None ∷ []
  pub shift_merges :
      answers (run shift lot) (T 667 ∷ T 668 ∷ T 939 ∷ T 940 ∷ T 2029 ∷ T 2030 ∷ [])
      ≡ accepts 0 0 ∷ accepts 1 0 ∷ accepts 0 0 ∷ accepts 1 0 ∷ accepts 0 0 ∷ accepts 1 1 ∷ []
  -- "the smallest": here the deeper level's, 1 + 9, before the buffer's, 8 + 3.
  pub deeper_first : wake two ≡ Some 10
  -- "as a 64-bit number": a delete at the last clock of 32 bits, and a limit of 1,431,655,765.
  pub past_32_bits : wake_after (store 4 (settings 2 2 4 4294967295)) (D 4294967295 5 ∷ []) ≡ Some 5726623060
  -- "at most L × (L + 1) / 2 merges", 3 for L=2, is met by ticks alone; with writes there are more.
  pub ticks_meet_the_bound : merges_of two (T 10 ∷ T 11 ∷ T 17 ∷ T 99 ∷ []) ≡ 3
  pub writes_pass_it : merges_of two (T 10 ∷ T 11 ∷ T 17 ∷ D 18 5 ∷ T 21 ∷ []) ≡ 4
  -- Before any accepted call a tick may merge though the clock is none.
  pub unsettled_wakes : wake unsettled ≡ None
  pub unsettled_merges : (step unsettled (T 1)).answer ≡ accepts 1 0
