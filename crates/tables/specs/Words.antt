-- Document 01, "The two tables": "Both are lent as 32-bit words."
use Rattle.std.specs.Prelude.{ℕ, ◌<◌, List, get_or}

-- Every word of a table fits 32 bits, as those of a lent slice do.
abbrev pub Fits32 : List ℕ → Type 0
Fits32 e = (i : ℕ) → get_or e i 0 < 4294967296
