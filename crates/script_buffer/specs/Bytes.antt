-- A line byte by byte: only its first 64 bytes are kept, and what is printed waits to be written out.
use Rattle.std.specs.Prelude.{cond, List, [], ◌∷◌, ◌++◌, ℕ, eqb, length, take, drop}
use Prim.Native.Char.{code}
use Rattle.script_lines.specs.Lines.{line_of}
use Rattle.script_prints.specs.Texts.{numbers_text}
use Rattle.script_store.specs.Memory.{Memory}
use Rattle.script_command.specs.Script.{line_step}

-- Where a script stands: the bytes of a line that are kept, those that wait, and after each the rest of its room, so that every byte is told.
pub record Standing : Type 0 where
  pub memory : Memory
  pub line : List ℕ
  pub line_rest : List ℕ
  pub waiting : List ℕ
  pub output_rest : List ℕ

-- A line's bytes and one more, as far as they are kept.
abbrev pub kept : List ℕ → ℕ → List ℕ
kept line byte = take 64 (line ++ (byte ∷ []))

-- The line has ended: its bytes are kept no more, and what it prints takes the first bytes of the rest.
unfoldable pub ended : Standing → Standing
ended s =
    let r = line_step (line_of s.line) s.memory in
    let text = numbers_text r.printed in
    record { memory = r.memory; line = []; line_rest = s.line ++ s.line_rest; waiting = s.waiting ++ text; output_rest = drop (length text) s.output_rest }

-- One byte came.
unfoldable pub taken : ℕ → Standing → Standing
taken byte s =
    cond (eqb byte (code "\n"))
    (ended s)
    (record { memory = s.memory; line = kept s.line byte; line_rest = drop 1 s.line_rest; waiting = s.waiting; output_rest = s.output_rest })
