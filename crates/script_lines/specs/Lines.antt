-- Document 01, "The script program": what a line says. A line is the list of its bytes, without the line feed that ends it.
use Rattle.std.specs.Prelude.{◌&&◌, cond, Option, Some, None, List, [], ◌∷◌, ℕ, zero, suc, eqb, length, drop}
use Prim.Native.Char.{code}
use Rattle.script_fields.specs.Numbers.{digits, decimal, is_number}
use Rattle.script_lines.specs.declared.Command.{Command}
use Rattle.script_lines.specs.declared.Command.TheVariants.{Make, Put, Delete, DeleteRange, DeleteRangeDated, Flush, Tick, Lookup}

-- A command that n numbers make whole.
abbrev pub Taking : ℕ → Type 0
Taking zero = Command
Taking (suc n) = ℕ → Taking n

-- "one blank between fields": n numbers, each after one blank, and nothing after the last.
unfoldable pub fields : (n : ℕ) → Taking n → List ℕ → Option Command
fields zero command [] = Some command
fields zero command (byte ∷ rest) = None
fields (suc n) command [] = None
fields (suc n) command (byte ∷ rest) =
    let ds = digits rest in
    cond (eqb byte (code " ") && is_number ds) (fields n (command (decimal 0 ds)) (drop (length ds) rest)) None

-- "`M N L T B D` makes, `P t k v` puts, `D t k` deletes, `R t lo hi`, `F t` flushes, `T t` ticks, `G k` looks up";
-- request S-1: "The script line is `Y t lo hi s`"; request S-2: "`P` lines take the price last"; and else "not a line of the forms below".
unfoldable pub line_of : List ℕ → Option Command
line_of [] = None
line_of (letter ∷ rest) =
    cond (eqb letter (code "M")) (fields 5 Make rest)
    (cond (eqb letter (code "P")) (fields 4 Put rest)
    (cond (eqb letter (code "D")) (fields 2 Delete rest)
    (cond (eqb letter (code "R")) (fields 3 DeleteRange rest)
    (cond (eqb letter (code "Y")) (fields 4 DeleteRangeDated rest)
    (cond (eqb letter (code "F")) (fields 1 Flush rest)
    (cond (eqb letter (code "T")) (fields 1 Tick rest)
    (cond (eqb letter (code "G")) (fields 1 Lookup rest)
    None)))))))
