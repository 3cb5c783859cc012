-- The input block by block: what is printed waits until its block has been taken in.
use Rattle.std.specs.Prelude.{cond, List, [], ◌∷◌, ◌++◌, ℕ, eqb, length}
use Rattle.script_buffer.specs.Bytes.{Standing, ended, taken}

-- A block came.
unfoldable pub fed : List ℕ → Standing → Standing
fed [] s = s
fed (byte ∷ rest) s = fed rest (taken byte s)

-- The input has ended: bytes after the last line feed are a line.
unfoldable pub finished : Standing → Standing
finished s = cond (eqb (length s.line) 0) s (ended s)

-- What waited was written out: none waits, and all of the output's room is the rest.
abbrev pub written : Standing → Standing
written s = record { memory = s.memory; line = s.line; line_rest = s.line_rest; waiting = []; output_rest = s.waiting ++ s.output_rest }

-- What the program writes out: what waits after each block, and what waits at the end.
unfoldable pub writes : List (List ℕ) → Standing → List ℕ
writes [] s = (finished s).waiting
writes (block ∷ blocks) s = (fed block s).waiting ++ writes blocks (written (fed block s))
