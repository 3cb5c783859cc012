-- The numbers that digits make, and those that are none.
use mathlib.Core.Path.{◌≡◌, refl}
use mathlib.Core.Bool.{◌&&◌, false}
use mathlib.Core.List.{List, [], ◌∷◌}
use Prim.Native.Nat.{ℕ, ◌+◌, ◌-◌, ◌*◌, ◌≤◌, ◌<◌}
use native.Mathlib.Omega.{arith}
use borrow.Author.Tests.{le-leb, lt-leb}
use lib.Dec.{leb}
use lib.ListN.{length}
use Rattle.lists.proofs.Bools.{and_false_left, and_false_right}
use Rattle.std.specs.Prelude.{Some, None}
use Rattle.script_fields.specs.Numbers.{digits, decimal, is_number}
use Rattle.script_fields.specs.Fields.{starts_digit, number_of}

-- More digits make no number less.
pub decimal_grows : (n : ℕ) (ds : List ℕ) → n ≤ decimal n ds
unfolding decimal
decimal_grows n [] = omega arith
decimal_grows n (d ∷ ds) = omega (arith, decimal_grows (10 * n + (d - 48)) ds)

-- Where no digit stands, no digits are read.
pub no_more : (bytes : List ℕ) → starts_digit bytes ≡ false → digits bytes ≡ []
unfolding digits
no_more [] h = refl
no_more (byte ∷ rest) h = rw h

module _ (start : ℕ) (ds : List ℕ) where
  pub no_digits : length ds < 1 → number_of start ds ≡ None
  no_digits h = rw (lt-leb 1 (length ds) h)

  pub too_many : 10 < length ds → number_of start ds ≡ None
  too_many h =
      let small = leb (decimal 0 ds) 4294967295 in
      let no : is_number ds ≡ false =
      and_false_right (leb 1 (length ds)) (leb (length ds) 10 && small) (and_false_left (leb (length ds) 10) small (lt-leb (length ds) 10 h)) in
      rw no

  pub too_large : 4294967295 < decimal 0 ds → number_of start ds ≡ None
  too_large h =
      let few = leb (length ds) 10 in
      let small = leb (decimal 0 ds) 4294967295 in
      let no : is_number ds ≡ false =
      and_false_right (leb 1 (length ds)) (few && small) (and_false_right few small (lt-leb (decimal 0 ds) 4294967295 h)) in
      rw no

  pub number : 1 ≤ length ds → length ds ≤ 10 → decimal 0 ds ≤ 4294967295 → number_of start ds ≡ Some (record { number = decimal 0 ds; end = start + length ds })
  number some few small = rw (le-leb 1 (length ds) some, le-leb (length ds) 10 few, le-leb (decimal 0 ds) 4294967295 small)
