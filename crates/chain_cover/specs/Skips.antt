-- A chain without the records at its front that begin, or end, before a docket.
use Rattle.std.specs.Prelude.{◌≡◌, ◌≢◌, Bool, cond, List, [], ◌∷◌, ℕ, ◌≤◌, ltb}
use Rattle.std.specs.Borrow.{Bor}
use Rattle.chain_cover.specs.Walks.{Ordered}
use Rattle.tables.specs.Slots.{InTable, lo_of, hi_of}

-- The list from the first element on that fails the test.
unfoldable pub drop_while : {X : Type 0} → (X → Bool) → List X → List X
drop_while test [] = []
drop_while test (x ∷ xs) = cond (test x) (drop_while test xs) (x ∷ xs)

-- The first of some slots, or 0.
abbrev pub first_slot : List ℕ → ℕ
first_slot [] = 0
first_slot (s ∷ ss) = s

-- The code reads a number of a slot of a table: it may ask each, and is told what `bound` says of it.
pub record Computes (bound : List ℕ → ℕ → ℕ) (asks : Bor (List ℕ) → ℕ → Type 0) (tells : Bor (List ℕ) → ℕ → ℕ → Type 0) : Type 0 where
  pub may : (e : Bor (List ℕ)) (s : ℕ) → InTable e.now s → asks e s
  pub says : (e : Bor (List ℕ)) (s r : ℕ) → InTable e.now s → tells e s r → r ≡ bound e.now s

-- The slots from the first on whose bound is no earlier than the docket.
abbrev pub from_bound : (ℕ → ℕ) → ℕ → List ℕ → List ℕ
from_bound bound k ss = drop_while (λ s. ltb (bound s) k) ss

-- The slots from the first on that begins at the docket or later, and from the first on that reaches it.
abbrev pub beginning : List ℕ → ℕ → List ℕ → List ℕ
beginning e k ss = from_bound (lo_of e) k ss

abbrev pub reaching : List ℕ → ℕ → List ℕ → List ℕ
reaching e k ss = from_bound (hi_of e) k ss

-- An ordered chain whose front is passed: its first record, where it has one, has a bound no earlier than the docket.
pub record Ahead (e : List ℕ) (bound : ℕ → ℕ) (at k : ℕ) : Type 0 where
  pub ordered : Ordered e at
  pub first : at ≢ 0 → k ≤ bound at
