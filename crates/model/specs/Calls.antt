-- Document 01, "Refused calls": timed calls, their answers, and lists of them.
use Rattle.std.specs.Prelude.{Bool, false, cond, ◌||◌, List, [], ◌∷◌, map, ℕ, ◌+◌, ◌-◌, ltb, eqb}
use Rattle.model.specs.Records.{State, held_all}
use Rattle.model.specs.Steps.{Work, Write, put, delete, delete_range, begin, merge_level, merge_all, write, no_slot, pass, still_due}

-- What a timed call does: a write, a flush or a tick.
pub data Op (A : Type 0) : Type 0 where
  written : Write A → Op A
  flush : Op A
  tick : Op A

-- "Timed calls are those with a clock".
pub record Call (A : Type 0) : Type 0 where
  pub clock : ℕ
  pub op : Op A

-- "A refusal gives its number and zeros."
pub record Answer : Type 0 where
  pub refusal : ℕ
  pub merges : ℕ
  pub purged : ℕ

-- What a call leaves, and its answer.
pub record Outcome (S A : Type 0) : Type 0 where
  pub state : State S A
  pub answer : Answer

-- The answer of a refusal.
abbrev pub refusing : ℕ → Answer
refusing n = record { refusal = n; merges = 0; purged = 0 }

module _ {A : Type 0} where
  -- Refusal 4: "above 65,535, or lo above hi".
  abbrev pub bad_docket : Op A → Bool
  bad_docket (written (put k a)) = ltb 65535 k
  bad_docket (written (delete k)) = ltb 65535 k
  bad_docket (written (delete_range lo hi date)) = ltb 65535 hi || ltb hi lo
  bad_docket flush = false
  bad_docket tick = false

  -- "written is 1 for a write, 0 otherwise"
  abbrev pub count_written : Op A → ℕ
  count_written (written w) = 1
  count_written flush = 0
  count_written tick = 0

-- Refusal 5: "0, or before the last accepted clock".
abbrev pub bad_clock : ℕ → ℕ → Bool
bad_clock t last = eqb t 0 || ltb t last

module _ {A : Type 0} where
  -- Refusal 10: "s is 0 or after the call's clock".
  abbrev pub bad_date : ℕ → Op A → Bool
  bad_date t (written (put k a)) = false
  bad_date t (written (delete k)) = false
  bad_date t (written (delete_range lo hi date)) = eqb date 0 || ltb t date
  bad_date t flush = false
  bad_date t tick = false

  -- What turns a call away at once, by the last accepted clock: the docket, the clock, then "10, … directly after 5"; 0 where nothing does.
  abbrev pub early_refusal : ℕ → Call A → ℕ
  early_refusal last c = cond (bad_docket c.op) 4 (cond (bad_clock c.clock last) 5 (cond (bad_date c.clock c.op) 10 0))

module _ {S A : Type 0} where
  -- The call's clock becomes the last accepted one.
  abbrev pub timed : ℕ → State S A → State S A
  timed t s = record { settings = s.settings; clock = t; free = s.free; levels = s.levels }

  -- What a call has done when its pass begins. "Flush merges the buffer first, full or not. Tick does the pass alone."
  unfoldable pub prepared : ℕ → Op A → State S A → Work S A
  prepared t (written w) s = write t w s
  prepared t flush s = merge_level 0 (begin s)
  prepared t tick s = begin s

  -- Refusal 7, which only a put meets.
  abbrev pub out_of_slots : ℕ → Op A → State S A → Bool
  out_of_slots t (written w) s = no_slot t w s
  out_of_slots t flush s = false
  out_of_slots t tick s = false

  -- A refusal that leaves this state.
  abbrev pub refused : ℕ → State S A → Outcome S A
  refused n s = record { state = s; answer = refusing n }

  -- The pass ends every accepted call; "purged = held before + written − held after".
  unfoldable pub finish : ℕ → Op A → State S A → Work S A → Outcome S A
  finish t op s w =
      let p = pass t w in
      let purged = held_all s.levels + count_written op - held_all p.state.levels in
      cond (still_due t p.state) (refused 8 (timed t p.state))
      (record { state = timed t p.state; answer = record { refusal = 0; merges = p.merges; purged = purged } })

  -- The refusal's number, "by where they are found": the docket, the clock, the date, the free chain. Refusal 8 never comes.
  abbrev pub refusal_number : State S A → Call A → ℕ
  refusal_number s c =
      let early = early_refusal s.clock c in
      cond (eqb early 0) (cond (out_of_slots c.clock c.op s) 7 0) early

  -- "The order is the table's". Under 7 "tables stay merged, clock as before".
  unfoldable pub step : State S A → Call A → Outcome S A
  step s c =
      let early = early_refusal s.clock c in
      cond (eqb early 0)
      (cond (out_of_slots c.clock c.op s) (refused 7 (merge_all s).state)
      (finish c.clock c.op s (prepared c.clock c.op s)))
      (refused early s)

  -- A list of timed calls, one after the other, refused ones too: the state that it leaves.
  unfoldable pub run : State S A → List (Call A) → State S A
  run s [] = s
  run s (c ∷ cs) = run (step s c).state cs

  -- What they answer.
  unfoldable pub answers : State S A → List (Call A) → List Answer
  answers s [] = []
  answers s (c ∷ cs) = let r = step s c in r.answer ∷ answers r.state cs

  abbrev pub refusals : State S A → List (Call A) → List ℕ
  refusals s cs = map (λ (r : Answer). r.refusal) (answers s cs)
