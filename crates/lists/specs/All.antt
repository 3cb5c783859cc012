-- Statements about every element of a list.
use Rattle.std.specs.Prelude.{◌≡◌, Bool, true, List, [], ◌∷◌}

module _ {X : Type 0} where
  -- Every element has the property.
  abbrev pub All : (X → Type 0) → List X → Type 0
  All P [] = Unit {0}
  All P (x ∷ xs) = P x × All P xs

  -- Each element comes before all that follow it.
  abbrev pub Ascending : (X → X → Bool) → List X → Type 0
  Ascending before [] = Unit {0}
  Ascending before (x ∷ xs) = All (λ y. before x y ≡ true) xs × Ascending before xs

-- Some value has the property.
pub record Exists {X : Type 0} (P : X → Type 0) : Type 0 where
  pub value : X
  pub has : P value
