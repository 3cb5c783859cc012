-- The mark of slot s is bit s % 8 of byte s / 8; a mark that is not there is set by adding its power of two.
use Rattle.std.specs.Prelude.{Bool, not, List, ℕ, ◌+◌, ◌/◌, ◌%◌, ◌^◌, eqb, get_or, set}

-- Bit k of b.
unfoldable pub bit : ℕ → ℕ → ℕ
bit k b = b / 2 ^ k % 2

unfoldable pub mark_of : List ℕ → ℕ → ℕ
mark_of m s = bit (s % 8) (get_or m (s / 8) 0)

abbrev pub is_marked : List ℕ → ℕ → Bool
is_marked m s = not (eqb (mark_of m s) 0)

unfoldable pub with_mark : List ℕ → ℕ → List ℕ
with_mark m s = set m (s / 8) (get_or m (s / 8) 0 + 2 ^ (s % 8))
