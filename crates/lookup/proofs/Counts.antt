-- The grower's lookup answers as the hall's with the price left out: on tables of any content, and so in every refusal.
use mathlib.Core.Path.{◌≡◌, refl, sym, ap, ◌∙◌}
use mathlib.Core.Bool.{Bool, true, false, cond}
use mathlib.Core.List.{List}
use Prim.Native.Nat.{ℕ}
use lib.Dec.{eqb}
use Rattle.std.proofs.Common.{Option, None, Some, Result, Ok, Err}
use Rattle.refusals.specs.declared.Refusal.{Refusal}
use Rattle.refusals.specs.Numbers.{refusal_of, numbered}
use Rattle.model.specs.declared.Tally.{Tally}
use Rattle.model.specs.Records.{State}
use Rattle.model.specs.Lookup as model
use Rattle.model.specs.Renaming.{map_found}
use Rattle.model.proofs.NaturalCalls.{lookup-map}
use Rattle.tables.specs.Slots.{tally_of}
use Rattle.tables.specs.Placed.{read_state, read_counts}
use Rattle.tables.proofs.Shown.{state_less}
use Rattle.check_refusal.specs.Dockets.{docket_refusal}
use Rattle.lookup_level.specs.declared.Found as put
use Rattle.lookup.specs.Lookup.{Answer, answer_of, Refused, Absent, Found, answered, lookup_tables, numbers}
use Rattle.lookup.specs.Counts.{counts_alone, lookup_counts, without_price, count_numbers, with_price}
use Rattle.lookup.proofs.Numbers.{refused_exactly}

-- What is found, its price left out.
found_counted : (f : model.Found Tally) → answered (map_found (λ a. a.count) f) ≡ without_price (answered f)
found_counted model.absent = refl
found_counted (model.found a t) = refl

refusal_kept : (a : Answer Tally) → (count_numbers (without_price a)).refusal ≡ (numbers a).refusal
refusal_kept (Refused n) = refl
refusal_kept Absent = refl
refusal_kept (Found a t) = refl

pub numbers_back : (a : Answer Tally) → with_price (numbers a).price (count_numbers (without_price a)) ≡ numbers a
numbers_back (Refused n) = refl
numbers_back Absent = refl
numbers_back (Found a t) = refl

-- A result without its price is the answer without it.
pub alone_without_price : (r : Result (Option (put.Found Tally)) ℕ) → answer_of (counts_alone r) ≡ without_price (answer_of r)
alone_without_price (Ok None) = refl
alone_without_price (Ok (Some f)) = refl
alone_without_price (Err n) = refl

numbered_alone : (r : Result (Option (put.Found Tally)) Refusal) → numbered (counts_alone r) ≡ counts_alone (numbered r)
numbered_alone (Ok found) = refl
numbered_alone (Err r) = refl

refused_alone : (r : Result (Option (put.Found Tally)) Refusal) → refusal_of (counts_alone r) ≡ refusal_of r
refused_alone (Ok found) = refl
refused_alone (Err r) = refl

module _ (e l : List ℕ) where
  -- The counts that the tables read as find what the tables do, its price left out.
  pub counts_found : (k : ℕ) → model.lookup (read_counts e l).levels k ≡ map_found (λ a. a.count) (model.lookup (read_state e l).levels k)
  counts_found k =
      ap (λ (p : State ℕ ℕ). model.lookup p.levels k) (state_less tally_of (λ a. a.count) e l)
      ∙ lookup-map (λ s. s) (λ (a : Tally). a.count) (read_state e l).levels k

  module _ (k : ℕ) where
    pub counts_without_prices : lookup_counts e l k ≡ without_price (lookup_tables e l k)
    unfolding lookup_counts lookup_tables
    counts_without_prices = go (docket_refusal e l k k) (eqb (docket_refusal e l k k) 0)
      where
        go : (n : ℕ) (none : Bool)
            → cond none (answered (model.lookup (read_counts e l).levels k)) (Refused n)
            ≡ without_price (cond none (answered (model.lookup (read_state e l).levels k)) (Refused n))
        go n true = ap answered (counts_found k) ∙ found_counted (model.lookup (read_state e l).levels k)
        go n false = refl

    -- What the grower's lookup promises of its answer.
    pub counted_promised : {a : Answer Tally} {r : Answer ℕ} → a ≡ lookup_tables e l k → r ≡ without_price a
        → (r ≡ lookup_counts e l k) × ((count_numbers r).refusal ≡ docket_refusal e l k k)
    counted_promised {a} is left = (
      left ∙ ap without_price is ∙ sym counts_without_prices,
      ap (λ r. (count_numbers r).refusal) left ∙ refusal_kept a ∙ ap (λ a. (numbers a).refusal) is ∙ refused_exactly e l k,
    )

    -- Of a result of the hall's, and of the same without the price.
    module _ (a : Result (Option (put.Found Tally)) Refusal) (r : Result (Option (put.Found ℕ)) Refusal) (left : r ≡ counts_alone a) where
      counted_less : answer_of (numbered r) ≡ without_price (answer_of (numbered a))
      counted_less = rw left (ap answer_of (numbered_alone a) ∙ alone_without_price (numbered a))

      pub counted_answer : answer_of (numbered a) ≡ lookup_tables e l k → answer_of (numbered r) ≡ lookup_counts e l k
      counted_answer is = (counted_promised is counted_less).0

      pub counted_numbers : answer_of (numbered a) ≡ lookup_tables e l k → (count_numbers (answer_of (numbered r))).refusal ≡ docket_refusal e l k k
      counted_numbers is = (counted_promised is counted_less).1

      pub counted_refusal : {n : ℕ} → refusal_of a ≡ n → refusal_of r ≡ n
      counted_refusal is = rw left (refused_alone a ∙ is)
