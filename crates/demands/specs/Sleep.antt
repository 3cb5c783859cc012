-- Request S-5 on the words of both tables: what a controller may rely on while it sleeps.
use Rattle.std.specs.Prelude.{◌≡◌, List, [], ◌∷◌, ℕ, ◌<◌, ◌≤◌, replicate, Option, None, Some, Result, Ok, Err}
use Rattle.lists.specs.Lists.{sum}
use Rattle.model.specs.declared.Tally.{Tally}
use Rattle.model.specs.Calls.{Call, Answer}
use Rattle.model_wake.specs.Wake.{tick_at}
use Rattle.tables.specs.Slots.{clock_of, set_clock}
use Rattle.tables.specs.Sound.{table_refusal}
use Rattle.wake.specs.Wake.{wake_tables}
use Rattle.call_tables.specs.Calls.{Tables, lent, call_tables, answers_tables}

-- "the clock of the next due merge"
abbrev pub wake_of : Tables → Result (Option ℕ) ℕ
wake_of w = wake_tables w.entries w.levels

-- Clock t lies "before that clock"; every clock does where there is none.
abbrev pub Before : ℕ → Result (Option ℕ) ℕ → Type 0
Before t (Err n) = ⊥
Before t (Ok None) = Unit {0}
Before t (Ok (Some m)) = t < m

-- "nothing but the last clock": the same tables with t for it.
abbrev pub clocked : ℕ → Tables → Tables
clocked t w = lent (set_clock w.entries t) w.levels

-- "a tick at it merges at least one level": clock m lies after the last one, and a tick at it is accepted and counts a merge.
pub record Wakes (m : ℕ) (w : Tables) : Type 0 where
  pub after : clock_of w.entries < m
  pub accepted : (call_tables w (tick_at m)).answer.refusal ≡ 0
  pub merges : 1 ≤ (call_tables w (tick_at m)).answer.merges

-- The merges that a list of calls counts in all.
abbrev pub merges_in_all : Tables → List (Call Tally) → ℕ
merges_in_all w cs = sum (λ (r : Answer). r.merges) (answers_tables w cs)

-- Why an accepted call has to come first: a store of one slot whose buffer has B records, sound, though no accepted call leaves it.
abbrev pub unsettled : Tables
unsettled = lent (0 ∷ 1 ∷ 0 ∷ 0 ∷ 0 ∷ 65536 ∷ 327685 ∷ 50 ∷ 1 ∷ 0 ∷ []) (2 ∷ 2 ∷ 1 ∷ 9 ∷ 1 ∷ 0 ∷ 1 ∷ 0 ∷ replicate 8 0)

-- No merge is due by what the levels owe, and yet a tick merges.
pub record Unsettled : Type 0 where
  pub sound : table_refusal unsettled.entries unsettled.levels ≡ 0
  pub wakes_never : wake_of unsettled ≡ Ok None
  pub merges : (call_tables unsettled (tick_at 1)).answer ≡ record { refusal = 0; merges = 1; purged = 0 }
