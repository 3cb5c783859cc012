-- Document 01: "Owed is the earliest clock of any delete that came into the level, itself or through merges, since the level was last emptied; 0 if none." Here what
-- came is worked out from what happened in the calls, one thing after the other, and not from owed.
use Rattle.std.specs.Prelude.{Bool, cond, List, [], ◌∷◌, ◌++◌, ℕ, zero, suc, eqb}
use Rattle.model.specs.Records.{State, level}
use Rattle.model.specs.Merge.{earlier}
use Rattle.model.specs.Steps.{Work, Write, put, delete, delete_range, crowded, full, due, pass_level}
use Rattle.model.specs.Calls.{Op, written, flush, tick, Call, early_refusal, out_of_slots, prepared, step}

-- A write enters the buffer at a clock, or a level is merged into the next.
pub data Event (A : Type 0) : Type 0 where
  enters : ℕ → Write A → Event A
  merges : ℕ → Event A

module _ {A : Type 0} where
  -- The clock of a delete.
  abbrev pub delete_clock : ℕ → Write A → List ℕ
  delete_clock t (put k a) = []
  delete_clock t (delete k) = t ∷ []
  delete_clock t (delete_range lo hi date) = t ∷ []

  -- The clocks of the deletes that came into each level since it was last emptied: a merge of level j empties it, and what came into it has come into the next.
  abbrev pub comes : (ℕ → List ℕ) → Event A → ℕ → List ℕ
  comes came (enters t w) i = cond (eqb i 0) (delete_clock t w ++ came 0) (came i)
  comes came (merges j) i = cond (eqb i j) [] (cond (eqb i (suc j)) (came j ++ came (suc j)) (came i))

  -- After some events; nothing came into a fresh store.
  unfoldable pub came_after : (ℕ → List ℕ) → List (Event A) → ℕ → List ℕ
  came_after came [] = came
  came_after came (e ∷ es) = came_after (comes came e) es

  abbrev pub came : List (Event A) → ℕ → List ℕ
  came es = came_after (λ _. []) es

  -- Levels i to before i + n are merged in order.
  unfoldable pub merges_from : ℕ → ℕ → List (Event A)
  merges_from zero i = []
  merges_from (suc n) i = merges i ∷ merges_from n (suc i)

  -- Level i is merged, or not.
  abbrev pub merges_if : Bool → ℕ → List (Event A)
  merges_if b i = cond b (merges i ∷ []) []

-- The earliest of some clocks, none of which is 0; 0 if there is none.
unfoldable pub earliest : List ℕ → ℕ
earliest [] = 0
earliest (t ∷ ts) = earlier t (earliest ts)

module _ {S A : Type 0} where
  -- What a call does before its pass: levels 0 to L−1 are merged to make room, and the write enters the buffer if it does not act on level L; a flush merges the buffer.
  abbrev pub prepared_events : ℕ → Op A → State S A → List (Event A)
  prepared_events t (written w) s = cond (crowded t w s) (merges_from s.settings.deepest 0) [] ++ cond (full t w s) [] (enters t w ∷ [])
  prepared_events t flush s = merges 0 ∷ []
  prepared_events t tick s = []

  -- The pass from level i on, n levels of it.
  unfoldable pub passing : ℕ → ℕ → ℕ → Work S A → List (Event A)
  passing t zero i w = []
  passing t (suc n) i w = merges_if (due w.state.settings t i (level i w.state)) i ++ passing t n (suc i) (pass_level t i w)

  abbrev pub pass_events : ℕ → Work S A → List (Event A)
  pass_events t w = passing t w.state.settings.deepest 0 w

  -- What happens in a call: nothing where it is turned away at once, the merging alone where it is refused 7.
  unfoldable pub events : State S A → Call A → List (Event A)
  events s c =
      cond (eqb (early_refusal s.clock c) 0)
      (cond (out_of_slots c.clock c.op s) (merges_from s.settings.deepest 0)
      (prepared_events c.clock c.op s ++ pass_events c.clock (prepared c.clock c.op s)))
      []

  -- In a list of calls.
  unfoldable pub history : State S A → List (Call A) → List (Event A)
  history s [] = []
  history s (c ∷ cs) = events s c ++ history (step s c).state cs
