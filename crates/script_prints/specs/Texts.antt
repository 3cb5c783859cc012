-- Document 01, "The script program": what a line prints. A text is the list of its bytes.
use Rattle.std.specs.Prelude.{cond, List, [], ◌∷◌, ◌++◌, ℕ, zero, suc, ◌+◌, ◌/◌, ◌%◌, ltb, length, take, drop}
use Prim.Native.Char.{code}
use Rattle.script_prints.specs.declared.Printed.{Printed}
use Rattle.script_prints.specs.declared.Printed.TheVariants.{Three, Four}

-- The digits of n in decimal, the most significant first, where they are at most so many: the digits of n / 10, if n has more than one, then the last.
unfoldable pub digits_within : ℕ → ℕ → List ℕ
digits_within zero n = []
digits_within (suc most) n = cond (ltb n 10) [] (digits_within most (n / 10)) ++ ((code "0" + n % 10) ∷ [])

-- A number of 32 bits has at most ten digits.
unfoldable pub decimal_text : ℕ → List ℕ
decimal_text n = digits_within 10 n

-- A number and the byte that ends it.
abbrev pub field_text : ℕ → ℕ → List ℕ
field_text n ending = decimal_text n ++ (ending ∷ [])

-- "Each line prints three numbers"; request S-2: "`G` lines print it as a fourth number".
abbrev pub numbers_of : Printed → List ℕ
numbers_of (Three first second third) = first ∷ second ∷ third ∷ []
numbers_of (Four first second third fourth) = first ∷ second ∷ third ∷ fourth ∷ []

-- One blank between the numbers, and a line feed at the end.
unfoldable pub numbers_text : List ℕ → List ℕ
numbers_text [] = []
numbers_text (last ∷ []) = field_text last (code "\n")
numbers_text (first ∷ second ∷ rest) = field_text first (code " ") ++ numbers_text (second ∷ rest)

-- The bytes with a text in place of those from a position on.
unfoldable pub overwrite : List ℕ → ℕ → List ℕ → List ℕ
overwrite bytes at text = take at bytes ++ (text ++ drop (at + length text) bytes)
