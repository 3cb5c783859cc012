-- What a lookup answers by document 01's numbers: on tables of any content, exactly when it is refused and what that gives.
use mathlib.Core.Path.{◌≡◌, refl, ap, ◌∙◌}
use mathlib.Core.Logic.{◌≢◌}
use mathlib.Core.Bool.{Bool, true, false, cond}
use mathlib.Core.List.{List}
use Prim.Native.Nat.{ℕ}
use borrow.Author.Tests.{eqb-true, ne_eqb}
use lib.Dec.{eqb}
use Rattle.model.specs.declared.Tally.{Tally}
use Rattle.model.specs.Lookup as model
use Rattle.tables.specs.Placed.{read_state}
use Rattle.check_refusal.specs.Dockets.{docket_refusal}
use Rattle.lookup.specs.Lookup.{Answer, Refused, answered, lookup_tables, numbers}

-- What is found or absent is not refused.
found_unrefused : (f : model.Found Tally) → (numbers (answered f)).refusal ≡ 0
found_unrefused model.absent = refl
found_unrefused (model.found a t) = refl

module _ (e l : List ℕ) (k : ℕ) where
  -- A lookup is refused by these numbers, in this order, and by no other.
  pub refused_exactly : (numbers (lookup_tables e l k)).refusal ≡ docket_refusal e l k k
  unfolding lookup_tables
  refused_exactly = go (docket_refusal e l k k) (eqb (docket_refusal e l k k) 0) refl
    where
      go : (n : ℕ) (none : Bool) → eqb n 0 ≡ none
          → (numbers (cond none (answered (model.lookup (read_state e l).levels k)) (Refused n))).refusal ≡ n
      go n true is = rw (eqb-true n 0 is) (found_unrefused (model.lookup (read_state e l).levels k))
      go n false is = refl

  -- "A refusal gives its number and zeros."
  pub refused_zeros : docket_refusal e l k k ≢ 0
      → numbers (lookup_tables e l k) ≡ record { refusal = docket_refusal e l k k; found = 0; count = 0; price = 0; stamp = 0 }
  unfolding lookup_tables
  refused_zeros some = rw (ne_eqb (docket_refusal e l k k) 0 some)

  -- What a lookup promises of its answer.
  pub promised : {r : Answer Tally} → r ≡ lookup_tables e l k → (r ≡ lookup_tables e l k) × ((numbers r).refusal ≡ docket_refusal e l k k)
  promised is = (is, ap (λ a. (numbers a).refusal) is ∙ refused_exactly)
