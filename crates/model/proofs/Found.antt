-- What holds of what every point says of its docket, and of absence, holds of what a lookup finds.
use mathlib.Core.Path.{◌≡◌}
use mathlib.Core.List.{List, [], ◌∷◌}
use Prim.Native.Nat.{ℕ, max}
use lib.Dec.{leb, eqb}
use borrow.Author.Tests.{eqb-true}
use Rattle.lists.specs.All.{All}
use Rattle.lists.proofs.Bools.{cond_elim}
use Rattle.lists.proofs.Tests.{all_weaken}
use Rattle.model.specs.Records.{Point, Level}
use Rattle.model.specs.Lookup.{Found, absent, reads, latest, judged, find, lookup_from, lookup}

module _ {S A : Type 0} where
  abbrev pub Each : (Found A → Type 0) → List (Point S A) → Type 0
  Each P ps = All (λ p. P (reads p.entry p.stamp)) ps

  -- The same of the points of one docket.
  abbrev pub EachOf : ℕ → (Found A → Type 0) → List (Point S A) → Type 0
  EachOf k P ps = All (λ p. p.key ≡ k → P (reads p.entry p.stamp)) ps

  module _ (P : Found A → Type 0) where
    find_holds : P absent → (date : ℕ) (ps : List (Point S A)) (k : ℕ) (deeper : Found A) → EachOf k P ps → P deeper → P (find date ps k deeper)
    unfolding find
    find_holds none date [] k deeper a d = d
    find_holds none date (p ∷ ps) k deeper a d =
        cond_elim P (eqb p.key k) (judged date p.entry p.stamp) (find date ps k deeper)
        (λ q. cond_elim P (leb p.stamp date) absent (reads p.entry p.stamp) (λ r. none) (λ r. a.0 (eqb-true p.key k q)))
        (λ q. find_holds none date ps k deeper a.1 d)

    pub lookup_of_holds : P absent → (date : ℕ) (ls : List (Level S A)) (k : ℕ) → All (λ l. EachOf k P l.points) ls → P (lookup_from date ls k)
    unfolding lookup_from
    lookup_of_holds none date [] k a = none
    lookup_of_holds none date (l ∷ ls) k a =
        find_holds none date l.points k _ a.0 (lookup_of_holds none (max date (latest l.ranges k)) ls k a.1)

    pub lookup_from_holds : P absent → (date : ℕ) (ls : List (Level S A)) (k : ℕ) → All (λ l. Each P l.points) ls → P (lookup_from date ls k)
    lookup_from_holds none date ls k a = lookup_of_holds none date ls k (all_weaken _ _ (λ l b. all_weaken _ _ (λ p h q. h) l.points b) ls a)

    pub lookup_holds : P absent → (ls : List (Level S A)) (k : ℕ) → All (λ l. Each P l.points) ls → P (lookup ls k)
    lookup_holds none ls k a = lookup_from_holds none 0 ls k a
