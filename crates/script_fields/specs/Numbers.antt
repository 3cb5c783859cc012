-- Document 01, "The script program": the numbers of a line.
use Rattle.std.specs.Prelude.{Bool, ◌&&◌, cond, List, [], ◌∷◌, ℕ, ◌+◌, ◌-◌, ◌*◌, leb, length}
use Prim.Native.Char.{code}

abbrev pub is_digit : ℕ → Bool
is_digit byte = leb (code "0") byte && leb byte (code "9")

-- The digits that the bytes begin with, as many as there are.
unfoldable pub digits : List ℕ → List ℕ
digits [] = []
digits (byte ∷ rest) = cond (is_digit byte) (byte ∷ digits rest) []

-- "Numbers are decimal": the digits, written after the number n.
unfoldable pub decimal : ℕ → List ℕ → ℕ
decimal n [] = n
decimal n (digit ∷ rest) = decimal (10 * n + (digit - code "0")) rest

-- "numbers from 0 to 4,294,967,295 in one to ten digits without signs"
abbrev pub is_number : List ℕ → Bool
is_number ds = leb 1 (length ds) && (leb (length ds) 10 && leb (decimal 0 ds) 4294967295)
