-- No refusal has the number 0, so an answer's number tells whether it is refused.
use Rattle.std.proofs.Common.{◌≡◌, ◌≢◌, ◌∙◌, sym, ap, cond, false, ℕ, Result, Ok, Err, arith}
use lib.Dec.{eqb}
use borrow.Author.Tests.{eq-eqb, ne_eqb}
use Rattle.refusals.specs.declared.Refusal.{Refusal}
use Rattle.refusals.specs.declared.Refusal.TheVariants.{EntryLength, LevelTable, Chains, Docket, Clock, Settings, Full, Line, Date}
use Rattle.refusals.specs.Numbers.{number_of, refusal_of}

pub number_nonzero : (r : Refusal) → number_of r ≢ 0
number_nonzero EntryLength z = omega arith
number_nonzero LevelTable z = omega arith
number_nonzero Chains z = omega arith
number_nonzero Docket z = omega arith
number_nonzero Clock z = omega arith
number_nonzero Settings z = omega arith
number_nonzero Full z = omega arith
number_nonzero Line z = omega arith
number_nonzero Date z = omega arith

-- A test that is refused or not, with its number as a definition has it.
module _ {U : Type 0} {n : ℕ} {r : Result U Refusal} (is : refusal_of r ≡ n) where
  pub refused_number : {e : Refusal} → r ≡ Err e → number_of e ≡ n
  refused_number q = sym (ap refusal_of q) ∙ is

  pub allowed_number : {u : U} → r ≡ Ok u → n ≡ 0
  allowed_number q = sym is ∙ ap refusal_of q

  -- What a definition answers by that number.
  pub refused_answer : {T : Type 0} {e : Refusal} (y : Result T ℕ) → r ≡ Err e → Err (number_of e) ≡ cond (eqb n 0) y (Err n)
  refused_answer {e = e} y q =
      let z : eqb (number_of e) 0 ≡ false = ne_eqb (number_of e) 0 (number_nonzero e) in
      rw (← refused_number q, z)

  pub allowed_answer : {T : Type 0} {u : U} (y : Result T ℕ) → r ≡ Ok u → y ≡ cond (eqb n 0) y (Err n)
  allowed_answer y q = rw (eq-eqb n 0 (allowed_number q))
