-- The digits of a number as they are printed: those of its tenth part, if it has more than one, then the last.
use Rattle.std.proofs.Common.{◌≡◌, sym, ap, ◌∙◌, ℕ, suc, ◌+◌, ◌/◌, ◌%◌, ◌≤◌, ◌<◌, List, [], ◌++◌, length, set, cond, arith}
use borrow.Author.Tests.{lt-ltb, le-ltb}
use lib.Dec.{ltb}
use Rattle.script_prints.specs.Texts.{decimal_text, overwrite}
use Rattle.script_prints.proofs.Digits.{last_digit, by_ten, length_snoc, decimal_one, decimal_more}
use Rattle.script_prints.proofs.Overwrites.{Printed, overwrite_none, printed_byte, printed_append}

-- The digits before the last.
abbrev pub front : ℕ → List ℕ
front n = cond (ltb n 10) [] (decimal_text (n / 10))

front_last : (n : ℕ) → n < 10000000000 → decimal_text n ≡ front n ++ last_digit n
front_last n small = by_ten n (λ s. rw (lt-ltb n 10 s) (decimal_one n s)) (λ l. rw (le-ltb n 10 l) (decimal_more n small l))

pub length_front : (n : ℕ) → n < 10000000000 → length (decimal_text n) ≡ suc (length (front n))
length_front n small = ap (λ (ds : List ℕ). length ds) (front_last n small) ∙ length_snoc (front n) (48 + n % 10)

pub length_tenth : (n : ℕ) → n < 10000000000 → 10 ≤ n → length (decimal_text n) ≡ suc (length (decimal_text (n / 10)))
length_tenth n small large = ap (λ (ds : List ℕ). length ds) (decimal_more n small large) ∙ length_snoc (decimal_text (n / 10)) (48 + n % 10)

module _ (entry : List ℕ) (at n last : ℕ) (out : List ℕ) where
  pub front_printed : 10 ≤ n → last ≡ at + length (decimal_text (n / 10)) → out ≡ overwrite entry at (decimal_text (n / 10)) → Printed entry at (front n) last out
  front_printed large place whole = rw (le-ltb n 10 large) (place, whole)

  pub front_none : n < 10 → last ≡ at → out ≡ entry → Printed entry at (front n) last out
  front_none small place whole = rw (lt-ltb n 10 small) (omega (arith, place), whole ∙ sym (overwrite_none entry at))

  pub last_printed : n < 10000000000 → at + length (decimal_text n) ≤ length entry → length out ≡ length entry → Printed entry at (front n) last out
      → Printed entry at (decimal_text n) (last + 1) (set out last (48 + n % 10))
  last_printed small room kept p =
      rw (front_last n small)
      (printed_append entry out _ at last (last + 1) (front n) (last_digit n) (omega (arith, room, length_front n small)) p
      (printed_byte out last (48 + n % 10) (omega (arith, room, kept, p.0, length_front n small))))
