-- What stands at a position of a line, for the functions that read it from position to position.
use Rattle.std.specs.Prelude.{Bool, false, cond, Option, Some, None, List, [], ◌∷◌, ◌++◌, ℕ, zero, suc, ◌+◌, ◌&&◌, eqb, length, drop}
use Prim.Native.Char.{code}
use Rattle.script_fields.specs.declared.Field.{Field}
use Rattle.script_fields.specs.Numbers.{is_digit, digits, decimal, is_number}

abbrev pub starts_digit : List ℕ → Bool
starts_digit [] = false
starts_digit (byte ∷ rest) = is_digit byte

-- The number that digits from a position on make, and the position after them.
abbrev pub number_of : ℕ → List ℕ → Option Field
number_of start ds = cond (is_number ds) (Some (record { number = decimal 0 ds; end = start + length ds })) None

-- One blank, then a number.
unfoldable pub field_of : ℕ → List ℕ → Option Field
field_of at [] = None
field_of at (byte ∷ rest) = cond (eqb byte (code " ")) (number_of (at + 1) (digits rest)) None

-- Some numbers before those that are left.
abbrev pub before : List ℕ → Option (List ℕ) → Option (List ℕ)
before first None = None
before first (Some rest) = Some (first ++ rest)

-- So many numbers, each after one blank, and nothing after the last.
unfoldable pub numbers_of : ℕ → List ℕ → Option (List ℕ)
numbers_of zero [] = Some []
numbers_of zero (byte ∷ rest) = None
numbers_of (suc n) [] = None
numbers_of (suc n) (byte ∷ rest) =
    let ds = digits rest in
    cond (eqb byte (code " ") && is_number ds) (before (decimal 0 ds ∷ []) (numbers_of n (drop (length ds) rest))) None
