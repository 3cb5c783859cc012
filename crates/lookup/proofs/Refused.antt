-- What a lookup on the tables answers, case by case.
use mathlib.Core.Path.{◌≡◌, refl}
use mathlib.Core.List.{List}
use Prim.Native.Nat.{ℕ, ◌≤◌}
use native.Mathlib.Omega.{arith}
use borrow.Author.Tests.{ne_eqb, le-ltb}
use Rattle.std.proofs.Common.{Option, None, Some, Ok}
use Rattle.refusals.specs.declared.Refusal.{Refusal}
use Rattle.refusals.specs.Numbers.{number_of}
use Rattle.refusals.proofs.Numbers.{number_nonzero}
use Rattle.model.specs.declared.Tally.{Tally}
use Rattle.model.specs.Lookup as model
use Rattle.model.specs.Records.{State}
use Rattle.tables.specs.Placed.{entry_words, level_words, read_state}
use Rattle.tables.specs.Formed.{Formed}
use Rattle.tables.proofs.Back.{written_reads}
use Rattle.tables.proofs.FormedSound.{words_sound}
use Rattle.check_refusal.specs.Dockets.{docket_refusal}
use Rattle.lookup_level.specs.declared.Found.{Found}
use Rattle.lookup.specs.Found.{found_of}
use Rattle.lookup.specs.Lookup.{Refused, answered, answer_of, lookup_tables}

-- What is found answers as the model's does.
pub found_answered : {A : Type 0} (found : Option (Found A)) → answer_of (Ok found) ≡ answered (found_of found)
found_answered None = refl
found_answered (Some f) = refl

-- A refusal's number is the one that the check has found.
module _ (e l : List ℕ) (k : ℕ) where
  pub refused : (r : Refusal) → number_of r ≡ docket_refusal e l k k → Refused (number_of r) ≡ lookup_tables e l k
  unfolding lookup_tables
  refused r checked = rw (← checked, ne_eqb (number_of r) 0 (number_nonzero r))

  pub looked_up : 0 ≡ docket_refusal e l k k → (f : model.Found Tally) → f ≡ model.lookup (read_state e l).levels k → answered f ≡ lookup_tables e l k
  unfolding lookup_tables
  looked_up checked f says = rw (← checked, says)

-- On the words of a formed state, a docket is looked up in that state.
pub looked_up_words : (n : ℕ) (p : State ℕ Tally) (k : ℕ) → Formed n p → k ≤ 65535
    → lookup_tables (entry_words n p) (level_words p) k ≡ answered (model.lookup p.levels k)
unfolding lookup_tables
looked_up_words n p k f h = rw (words_sound n p f, le-ltb 65535 k h, le-ltb k k (omega arith), written_reads n p f)
