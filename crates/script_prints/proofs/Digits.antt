-- Laws of the digits of a number.
use mathlib.Core.Path.{◌≡◌, refl, sym, ap, ◌∙◌}
use mathlib.Core.List.{List, [], ◌∷◌, ◌++◌}
use Prim.Native.Nat.{ℕ, zero, suc, ◌+◌, ◌*◌, ◌/◌, ◌%◌, ◌≤◌, ◌<◌}
use native.Mathlib.Omega.{arith}
use borrow.Author.Tests.{lt-ltb, le-ltb, ltb-true, ltb-false}
use lib.Dec.{ltb}
use lib.ListN.{length, length-append}
use Rattle.lists.proofs.Bools.{by_cases}
use Rattle.script_prints.specs.declared.Printed.{Printed}
use Rattle.script_prints.specs.declared.Printed.TheVariants.{Three, Four}
use Rattle.script_prints.specs.Texts.{digits_within, decimal_text, field_text, numbers_of, numbers_text}

abbrev pub last_digit : ℕ → List ℕ
last_digit n = (48 + n % 10) ∷ []

-- A number has one digit or more.
pub by_ten : {P : Type 0} (n : ℕ) → (n < 10 → P) → (10 ≤ n → P) → P
by_ten n one more = by_cases (ltb n 10) (λ s. one (ltb-true n 10 s)) (λ l. more (ltb-false n 10 l))

pub length_snoc : (xs : List ℕ) (x : ℕ) → length (xs ++ (x ∷ [])) ≡ suc (length xs)
length_snoc [] x = refl
length_snoc (y ∷ ys) x = ap suc (length_snoc ys x)

pub one_digit : (most n : ℕ) → n < 10 → digits_within (suc most) n ≡ last_digit n
unfolding digits_within
one_digit most n small = rw (lt-ltb n 10 small)

pub more_digits : (most n : ℕ) → 10 ≤ n → digits_within (suc most) n ≡ digits_within most (n / 10) ++ last_digit n
unfolding digits_within
more_digits most n large = rw (le-ltb n 10 large)

pub length_one : (most n : ℕ) → n < 10 → length (digits_within (suc most) n) ≡ 1
length_one most n small = rw (one_digit most n small)

pub length_more : (most n : ℕ) → 10 ≤ n → length (digits_within (suc most) n) ≡ suc (length (digits_within most (n / 10)))
length_more most n large = rw (more_digits most n large) (length_snoc (digits_within most (n / 10)) (48 + n % 10))

pub length_digits : (most n : ℕ) → length (digits_within most n) ≤ most
unfolding digits_within
length_digits zero n = omega arith
length_digits (suc most) n = by_ten n (λ s. omega (arith, length_one most n s)) (λ l. omega (arith, length_more most n l, length_digits most (n / 10)))

pub length_decimal : (n : ℕ) → length (decimal_text n) ≤ 10
unfolding decimal_text
length_decimal n = length_digits 10 n

pub length_field : (n ending : ℕ) → length (field_text n ending) ≤ 11
length_field n ending = omega (arith, length_snoc (decimal_text n) ending, length_decimal n)

-- The room that so many numbers take at most.
pub length-numbers : (numbers : List ℕ) → length (numbers_text numbers) ≤ 11 * length numbers
unfolding numbers_text
length-numbers [] = omega arith
length-numbers (last ∷ []) = length_field last 10
length-numbers (first ∷ second ∷ rest) =
    omega (arith, length-append (field_text first 32) (numbers_text (second ∷ rest)), length_field first 32, length-numbers (second ∷ rest))

-- The room that a line takes at most.
pub length-printed : (printed : Printed) → length (numbers_text (numbers_of printed)) ≤ 44
length-printed (Three first second third) = omega (arith, length-numbers (numbers_of (Three first second third)))
length-printed (Four first second third fourth) = length-numbers (numbers_of (Four first second third fourth))

-- As many digits as there are make the number whole.
pub digits_exact : (most n : ℕ) → digits_within (length (digits_within most n)) n ≡ digits_within most n
unfolding digits_within
digits_exact zero n = refl
digits_exact (suc most) n =
    by_ten n
    (λ s. rw (length_one most n s, one_digit most n s) (one_digit 0 n s))
    (λ l.
    let before = digits_within most (n / 10) in
    rw (length_more most n l, more_digits most n l, more_digits (length before) n l) (ap (λ ds. ds ++ last_digit n) (digits_exact most (n / 10))))

-- Of as many digits as a number has, the last stands after those of the tenth part.
pub last_of_exact : (left n : ℕ) → length (digits_within (suc left) n) ≡ suc left → digits_within (suc left) n ≡ digits_within left (n / 10) ++ last_digit n
unfolding digits_within
last_of_exact zero n exact = by_ten n (λ s. one_digit 0 n s) (λ l. more_digits 0 n l)
last_of_exact (suc left) n exact = by_ten n (λ s. absurd (omega (arith, length_one (suc left) n s))) (λ l. more_digits (suc left) n l)

-- A number has at most so many digits: so many divisions by ten leave nothing.
abbrev pub Within : ℕ → ℕ → Type 0
Within zero n = n ≡ 0
Within (suc most) n = Within most (n / 10)

-- A statement of a number and its digits, of every number of one digit, and handed on from the tenth part of every other.
abbrev pub OfOne : (ℕ → List ℕ → Type 0) → Type 0
OfOne P = (n : ℕ) → n < 10 → P n (last_digit n)

abbrev pub OfMore : (ℕ → List ℕ → Type 0) → Type 0
OfMore P = (n : ℕ) (ds : List ℕ) → 10 ≤ n → P (n / 10) ds → P n (ds ++ last_digit n)

-- What holds of a digit, and is handed on from the tenth part of a number, holds of the digits of every number that they are enough for.
pub by_digits : (P : ℕ → List ℕ → Type 0) → OfOne P → OfMore P → (most n : ℕ) → Within (suc most) n → P n (digits_within (suc most) n)
by_digits P one more zero n w = rw (one_digit 0 n (omega arith)) (one n (omega arith))
by_digits P one more (suc most) n w =
    by_ten n
    (λ s. rw (one_digit (suc most) n s) (one n s))
    (λ l. rw (more_digits (suc most) n l) (more n (digits_within (suc most) (n / 10)) l (by_digits P one more most (n / 10) w)))

pub by_decimal : (P : ℕ → List ℕ → Type 0) → OfOne P → OfMore P → (n : ℕ) → n < 10000000000 → P n (decimal_text n)
unfolding decimal_text
by_decimal P one more n small = by_digits P one more 9 n (omega arith)

-- More places than a number has digits give the same digits.
pub enough_places : (most n : ℕ) → Within (suc most) n → digits_within (suc (suc most)) n ≡ digits_within (suc most) n
enough_places zero n within = rw (one_digit 1 n (omega arith), one_digit 0 n (omega arith)) refl
enough_places (suc most) n within =
    by_ten n
    (λ s. rw (one_digit (suc (suc most)) n s, one_digit (suc most) n s) refl)
    (λ l. rw (more_digits (suc (suc most)) n l, more_digits (suc most) n l) (ap (λ ds. ds ++ last_digit n) (enough_places most (n / 10) within)))

pub decimal_one : (n : ℕ) → n < 10 → decimal_text n ≡ last_digit n
unfolding decimal_text
decimal_one n small = one_digit 9 n small

pub decimal_more : (n : ℕ) → n < 10000000000 → 10 ≤ n → decimal_text n ≡ decimal_text (n / 10) ++ last_digit n
unfolding decimal_text
decimal_more n small large = more_digits 9 n large ∙ ap (λ ds. ds ++ last_digit n) (sym (enough_places 8 (n / 10) (omega arith)))
