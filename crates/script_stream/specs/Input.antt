-- Document 01, "The script program": the lines of an input, and the bytes that they print.
use Rattle.std.specs.Prelude.{cond, List, [], ◌∷◌, ◌++◌, ℕ, eqb}
use Prim.Native.Char.{code}
use Rattle.script_lines.specs.Lines.{line_of}
use Rattle.script_prints.specs.Texts.{numbers_text}
use Rattle.script_store.specs.Memory.{Memory}
use Rattle.script_command.specs.Script.{line_step}

-- A byte before the first of the lines, which is a line of its own if there is none.
unfoldable pub before_lines : ℕ → List (List ℕ) → List (List ℕ)
before_lines byte [] = (byte ∷ []) ∷ []
before_lines byte (line ∷ lines) = (byte ∷ line) ∷ lines

-- "A line ends with a line feed, which the last line may lack."
unfoldable pub lines_in : List ℕ → List (List ℕ)
lines_in [] = []
lines_in (byte ∷ rest) = cond (eqb byte (code "\n")) ([] ∷ lines_in rest) (before_lines byte (lines_in rest))

-- "There is no header": what the lines print, one after the other.
unfoldable pub output_of : Memory → List (List ℕ) → List ℕ
output_of m [] = []
output_of m (line ∷ lines) =
    let r = line_step (line_of line) m in
    numbers_text r.printed ++ output_of r.memory lines
