-- What came into level 1 in worked lists: the near misses of document 01 that concern owed, and its script.
use Rattle.std.specs.Prelude.{◌≡◌, [], ◌∷◌, ◌++◌}
use Rattle.model.specs.Cases.{P, D, T, hall, noon, deep, sunk}
use Rattle.model_history.specs.History.{came, earliest, history}

pub record OwedTable : Type 0 where
  -- "A put over a delete hides it": the delete has come all the same.
  pub hidden_delete : came (history deep (sunk ++ D 2 5 ∷ P 3 5 51 7 ∷ [])) 1 ≡ 2 ∷ []
  -- "A second delete of a docket that restarts the term": both have come, and the first is the earliest.
  pub second_delete : came (history deep (sunk ++ D 2 5 ∷ D 4 5 ∷ [])) 1 ≡ 4 ∷ 2 ∷ []
  pub first_counts : earliest (4 ∷ 2 ∷ []) ≡ 2
  -- At 6 the level is emptied.
  pub emptied : came (history deep (sunk ++ D 2 5 ∷ D 4 5 ∷ T 6 ∷ [])) 1 ≡ []
  -- "T 5 in the script merges (5 − 2 = 3)": the delete of 2 is what level 1 owes.
  pub script : came (history hall noon) 1 ≡ 2 ∷ []
