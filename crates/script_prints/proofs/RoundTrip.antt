-- What is printed: reading the digits of a number gives the number back; they are digits, and no zero leads them.
use mathlib.Core.Path.{◌≡◌, refl}
use mathlib.Core.List.{List, [], ◌∷◌, ◌++◌}
use Prim.Native.Char.{code}
use Prim.Native.String as string
use Prim.Native.Nat.{ℕ, ◌+◌, ◌-◌, ◌*◌, ◌≤◌, ◌<◌}
use native.Mathlib.Omega.{arith}
use lib.ListN.{get_or}
use Rattle.lists.specs.All.{All}
use Rattle.lists.proofs.Tests.{all_append}
use Rattle.script_prints.specs.Texts.{digits_within, decimal_text, numbers_text}
use Rattle.script_prints.proofs.Digits.{last_digit, by_decimal}

-- The number that digits make, written after the number n.
unfoldable pub decimal : ℕ → List ℕ → ℕ
decimal n [] = n
decimal n (digit ∷ rest) = decimal (10 * n + (digit - code "0")) rest

decimal_append : (n : ℕ) (ds es : List ℕ) → decimal n (ds ++ es) ≡ decimal (decimal n ds) es
unfolding decimal
decimal_append n [] es = refl
decimal_append n (d ∷ ds) es = decimal_append (10 * n + (d - 48)) ds es

pub reads_back : (n : ℕ) → n < 10000000000 → decimal 0 (decimal_text n) ≡ n
unfolding decimal
reads_back =
    by_decimal (λ n ds. decimal 0 ds ≡ n)
    (λ n small. omega arith)
    (λ n ds large back. rw (decimal_append 0 ds (last_digit n), back) (omega arith))

abbrev pub Digit : ℕ → Type 0
Digit byte = (code "0" ≤ byte) × (byte ≤ code "9")

pub all_digits : (n : ℕ) → n < 10000000000 → All Digit (decimal_text n)
all_digits =
    by_decimal (λ n. All Digit)
    (λ n small. ((omega arith, omega arith), tt))
    (λ n ds large digits. all_append Digit ds (last_digit n) digits ((omega arith, omega arith), tt))

-- A first byte above "0" stays first.
first_of_append : (ds es : List ℕ) → 48 < get_or ds 0 48 → 48 < get_or (ds ++ es) 0 48
first_of_append [] es h = absurd (omega arith)
first_of_append (d ∷ ds) es h = h

-- "0" stands first in no text but that of 0.
pub no_leading_zero : (n : ℕ) → n < 10000000000 → 0 < n → code "0" < get_or (decimal_text n) 0 (code "0")
no_leading_zero =
    by_decimal (λ n ds. 0 < n → 48 < get_or ds 0 48)
    (λ n small some. omega arith)
    (λ n ds large first some. first_of_append ds (last_digit n) (first (omega arith)))

pub zero_text : decimal_text 0 ≡ code "0" ∷ []
unfolding decimal_text digits_within
zero_text = refl

-- The bytes of a text in ASCII.
unfoldable pub bytes : string.String → List ℕ
bytes string.[] = []
bytes (string.◌∷◌ c rest) = code c ∷ bytes rest

-- Two lines of document 01's output, and the longest.
pub line_example : numbers_text (0 ∷ 1 ∷ 1 ∷ []) ≡ bytes "0 1 1\n"
unfolding decimal_text digits_within numbers_text bytes
line_example = refl

pub lookup_example : numbers_text (0 ∷ 1 ∷ 71 ∷ 0 ∷ []) ≡ bytes "0 1 71 0\n"
unfolding decimal_text digits_within numbers_text bytes
lookup_example = refl

pub longest_line : numbers_text (4294967295 ∷ 4294967295 ∷ 4294967295 ∷ 4294967295 ∷ []) ≡ bytes "4294967295 4294967295 4294967295 4294967295\n"
unfolding decimal_text digits_within numbers_text bytes
longest_line = refl
