-- Laws of digits and of the numbers that they make.
use Rattle.std.proofs.Common.{◌≡◌, refl, ap, ℕ, zero, suc, ◌+◌, ◌-◌, ◌*◌, ◌^◌, ◌≤◌}
use Rattle.std.proofs.Common.{◌<◌, List, [], ◌∷◌, true, false, length, get_or, drop, take, arith}
use lib.Dec.{leb}
use native.Mathlib.Numerals.{add-one}
use Rattle.std.proofs.lemmas.Nat.{pow-add}
use lib.ListN.{drop_of_length-le}
use lib.Seq.{drop-cons}
use Rattle.lists.proofs.Bools.{by_cases, and_left, and_right}
use borrow.Author.Tests.{leb-true}
use Rattle.script_fields.specs.Numbers.{is_digit, digits, decimal}

pub counted : (bytes : List ℕ) (n : ℕ) → n ≤ length bytes → ((k : ℕ) → k < n → is_digit (get_or bytes k 0) ≡ true)
    → (n < length bytes → is_digit (get_or bytes n 0) ≡ false) → n ≡ length (digits bytes)
unfolding digits
counted [] n within before after = omega arith
counted (byte ∷ rest) zero within before after = rw (after (omega arith)) refl
counted (byte ∷ rest) (suc n) within before after =
    rw (before 0 (omega arith))
    (ap (λ m. suc m) (counted rest n (omega arith) (λ k h. before (suc k) (omega arith)) (λ h. after (omega arith))))

-- Digits are all digits.
pub all_digits : (bytes : List ℕ) → digits (digits bytes) ≡ digits bytes
unfolding digits
all_digits [] = refl
all_digits (byte ∷ rest) =
    by_cases (is_digit byte) (λ is. rw (is, is, all_digits rest) refl) (λ is. rw is refl)

pub digits_first : (bytes : List ℕ) → take (length (digits bytes)) bytes ≡ digits bytes
unfolding digits
digits_first [] = refl
digits_first (byte ∷ rest) =
    by_cases (is_digit byte) (λ is. rw is (ap (λ ds. byte ∷ ds) (digits_first rest))) (λ is. rw is refl)

-- Fewer digits than the bytes that are looked at are all that there are.
pub digits_near : (k : ℕ) (bytes : List ℕ) → length (digits (take k bytes)) < k → digits (take k bytes) ≡ digits bytes
unfolding digits
digits_near zero bytes few = absurd (omega arith)
digits_near (suc k) [] few = refl
digits_near (suc k) (byte ∷ rest) few =
    by_cases (is_digit byte) (λ is. rw is (ap (λ ds. byte ∷ ds) (digits_near k rest (omega (arith, rw is at few))))) (λ is. rw is refl)

-- Among the first bytes stand no more digits than among all.
pub digits_within : (k : ℕ) (bytes : List ℕ) → length (digits (take k bytes)) ≤ length (digits bytes)
unfolding digits
digits_within zero bytes = omega arith
digits_within (suc k) [] = omega arith
digits_within (suc k) (byte ∷ rest) =
    by_cases (is_digit byte) (λ is. rw is (omega (arith, digits_within k rest))) (λ is. rw is (omega arith))

head_digit : (byte : ℕ) (rest : List ℕ) → digits (byte ∷ rest) ≡ byte ∷ rest → (is_digit byte ≡ true) × (digits rest ≡ rest)
unfolding digits
head_digit byte rest all =
    by_cases (is_digit byte) (λ is. (is, ap (λ (ds : List ℕ). drop 1 ds) (rw is at all)))
    (λ is. absurd (let none = ap (λ (ds : List ℕ). length ds) (rw is at all) in omega (arith, none)))

pub digit_at : (bytes : List ℕ) → digits bytes ≡ bytes → (k : ℕ) → k < length bytes → (48 ≤ get_or bytes k 0) × (get_or bytes k 0 ≤ 57)
digit_at [] all k h = absurd (omega arith)
digit_at (byte ∷ rest) all zero h =
    let is = (head_digit byte rest all).0 in
    (leb-true 48 byte (and_left (leb 48 byte) (leb byte 57) is), leb-true byte 57 (and_right (leb 48 byte) (leb byte 57) is))
digit_at (byte ∷ rest) all (suc k) h = digit_at rest (head_digit byte rest all).1 k (omega arith)

-- The digit at a position is taken, and the others are left.
pub one_more : (n : ℕ) (bytes : List ℕ) (k : ℕ) {d : ℕ} → d ≡ get_or bytes k 0 - 48 → k < length bytes → decimal (10 * n + d) (drop (k + 1) bytes) ≡ decimal n (drop k bytes)
unfolding decimal
one_more n bytes k is h = rw (is, add-one k, drop-cons bytes k 0 h) refl

pub none_left : (n : ℕ) (bytes : List ℕ) (k : ℕ) → length bytes ≤ k → decimal n (drop k bytes) ≡ n
unfolding decimal
none_left n bytes k h = rw (drop_of_length-le bytes h) refl

pub one_place : {n d : ℕ} (k : ℕ) → n < 10 ^ k → d ≤ 9 → 10 * n + d < 10 ^ (k + 1)
one_place {n} {d} k few digit = omega (arith, pow-add 10 k 1)
