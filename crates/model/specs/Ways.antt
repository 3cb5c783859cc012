-- Demand 3's premises, worked: lists that meet them, and lists that lack one of them, where the tally, count and price, still stands.
use Rattle.std.specs.Prelude.{◌≢◌, List, [], ◌∷◌, ℕ}
use Rattle.model.specs.declared.Tally.{Tally}
use Rattle.model.specs.Records.{State}
use Rattle.model.specs.Calls.{Call, run}
use Rattle.model.specs.Erasure.{Erased}
use Rattle.model.specs.Cases.{settings, store, tally, P, D, R, Y, F, T}

-- Lists that differ in one tally, of count v and price p.
abbrev pub Twins : Type 0
Twins = ℕ → ℕ → List (Call Tally)

-- The put of docket 5 at place i is covered by the delete at place j, and every premise holds, whatever its tally.
abbrev pub Meets : State (Unit {0}) Tally → Twins → ℕ → ℕ → Type 0
Meets s twins i j = (v p : ℕ) → Erased s (twins v p) i j 5 (tally v p)

-- The count still stands, and so does the price.
abbrev pub Differ : State (Unit {0}) Tally → Twins → Type 0
Differ s twins = (run s (twins 50 3) ≢ run s (twins 51 3)) × (run s (twins 50 3) ≢ run s (twins 50 4))

-- L = 2, T = 2 and D = 4: n slots, and a buffer that is merged at b records.
abbrev pub small : ℕ → ℕ → State (Unit {0}) Tally
small n b = store n (settings 2 2 b 4)

pub record WayTable : Type 0 where
  -- The delete leaves the buffer in its own call, waits there until the limit of level 0 has passed, or goes when a write has to make room.
  pub own_pass : Meets (small 6 1) (λ v p. P 1 5 v p ∷ D 2 5 ∷ T 6 ∷ []) 0 1
  pub waiting : Meets (small 6 3) (λ v p. P 1 5 v p ∷ F 1 ∷ D 2 5 ∷ T 6 ∷ []) 0 2
  pub making_room : Meets (small 2 3) (λ v p. P 1 5 v p ∷ F 1 ∷ D 2 5 ∷ P 3 6 60 7 ∷ T 6 ∷ []) 0 2
  -- It acts on level L.
  pub acted : Meets (small 1 3) (λ v p. P 1 5 v p ∷ F 1 ∷ D 2 5 ∷ T 6 ∷ []) 0 2
  pub range : Meets (small 6 1) (λ v p. P 1 5 v p ∷ R 2 4 6 ∷ T 6 ∷ []) 0 1
  -- Up to a date, which is the put's own clock: on level L under a newer put that hides it, and where the delete acts on level L.
  pub hidden : Meets (small 6 1) (λ v p. P 1 5 v p ∷ P 1 6 60 7 ∷ P 1 7 70 7 ∷ P 2 5 51 7 ∷ Y 3 4 6 1 ∷ T 7 ∷ []) 0 4
  pub dated_acted : Meets (small 1 3) (λ v p. P 1 5 v p ∷ F 1 ∷ Y 3 4 6 1 ∷ T 7 ∷ []) 0 2
  -- The put itself is refused, for its clock or for lack of a slot.
  pub refused_put : Meets (small 6 1) (λ v p. P 0 5 v p ∷ D 2 5 ∷ T 6 ∷ []) 0 1
  pub full_put : Meets (small 1 1) (λ v p. P 1 6 60 7 ∷ P 1 5 v p ∷ D 2 5 ∷ T 6 ∷ []) 1 2
  -- So its clock can lie after that of a delete, or of a range delete "without a date".
  pub later_put : Meets (small 1 1) (λ v p. P 1 6 60 7 ∷ P 9 5 v p ∷ D 2 5 ∷ T 6 ∷ []) 1 2
  pub later_put_range : Meets (small 1 1) (λ v p. P 1 6 60 7 ∷ P 9 5 v p ∷ R 2 4 6 ∷ T 6 ∷ []) 1 2
  -- One tick short of the term.
  pub too_early : Differ (small 6 1) (λ v p. P 1 5 v p ∷ P 1 6 60 7 ∷ P 1 7 70 7 ∷ D 2 5 ∷ T 5 ∷ [])
  -- The delete is refused, covers another docket, or came before the put.
  pub refused_delete : Differ (small 6 1) (λ v p. P 1 5 v p ∷ D 0 5 ∷ T 6 ∷ [])
  pub other_docket : Differ (small 6 1) (λ v p. P 1 5 v p ∷ D 2 6 ∷ T 6 ∷ [])
  pub delete_first : Differ (small 6 1) (λ v p. D 1 5 ∷ P 2 5 v p ∷ T 6 ∷ [])
  -- The put came after the date; the term has passed since the date, but not since the delete's clock; a newer put alone hides, and erases nothing.
  pub after_the_date : Differ (small 6 1) (λ v p. P 2 5 v p ∷ Y 3 4 6 1 ∷ T 7 ∷ [])
  pub term_from_the_date : Differ (small 6 1) (λ v p. P 1 5 v p ∷ P 1 6 60 7 ∷ P 1 7 70 7 ∷ Y 4 5 5 1 ∷ T 5 ∷ [])
  pub hidden_alone : Differ (small 6 1) (λ v p. P 1 5 v p ∷ P 1 6 60 7 ∷ P 1 7 70 7 ∷ P 2 5 51 7 ∷ T 7 ∷ [])
