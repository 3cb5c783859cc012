-- What the program writes out is what the lines of the whole input print, whatever blocks the input comes in.
use mathlib.Core.Path.{◌≡◌, refl, sym, ap, ◌∙◌}
use mathlib.Core.Bool.{true, false}
use mathlib.Core.List.{List, [], ◌∷◌, ◌++◌, append_assoc, append-nil, flatten}
use Prim.Native.Nat.{ℕ, suc}
use native.Mathlib.Omega.{arith}
use borrow.Author.Tests.{leb-true, leb-false, ne_eqb}
use lib.Dec.{eqb, leb}
use lib.ListN.{length, take}
use lib.Seq.{take_all, take-append-le, take_at, length-take-le}
use Rattle.lists.proofs.Bools.{by_cases}
use Rattle.script_lines.specs.Lines.{line_of}
use Rattle.script_lines.proofs.Long.{long_unreadable}
use Rattle.script_prints.specs.Texts.{numbers_text}
use Rattle.script_store.specs.Memory.{Memory}
use Rattle.script_command.specs.Script.{line_step}
use Rattle.script_buffer.specs.Bytes.{Standing, kept, ended, taken}
use Rattle.script_stream.specs.Input.{before_lines, lines_in, output_of}
use Rattle.script_stream.specs.Blocks.{fed, finished, written, writes}

-- The first 64 bytes of a line say what the line says.
pub kept_says : (line : List ℕ) → line_of (take 64 line) ≡ line_of line
kept_says line =
    by_cases (leb (length line) 64)
    (λ short. ap line_of (take_all 64 line (leb-true (length line) 64 short)))
    (λ long.
    let more = leb-false (length line) 64 long in
    let room : length (take 64 line) ≡ 64 = length-take-le 64 line (omega (arith, more)) in
    long_unreadable (take 64 line) (omega (arith, room)) ∙ sym (long_unreadable line (omega (arith, more))))

-- Of the first 64 bytes and one more the first 64 are kept, as of the whole.
pub kept_on : (line : List ℕ) (byte : ℕ) → kept (take 64 line) byte ≡ take 64 (line ++ (byte ∷ []))
kept_on line byte =
    by_cases (leb (length line) 64)
    (λ short. ap (λ x. kept x byte) (take_all 64 line (leb-true (length line) 64 short)))
    (λ long.
    let more = leb-false (length line) 64 long in
    take_at (take 64 line) (byte ∷ []) 64 (length-take-le 64 line (omega (arith, more))) ∙ sym (take-append-le 64 line (byte ∷ []) (omega (arith, more))))

-- The bytes of a line that has begun, before the lines that follow.
unfoldable begun_line : List ℕ → List (List ℕ) → List (List ℕ)
begun_line [] lines = lines
begun_line (byte ∷ line) lines = before_lines byte (begun_line line lines)

begun_ends : (line : List ℕ) (lines : List (List ℕ)) → begun_line line ([] ∷ lines) ≡ line ∷ lines
unfolding begun_line before_lines
begun_ends [] lines = refl
begun_ends (byte ∷ line) lines = ap (before_lines byte) (begun_ends line lines)

begun_last : (byte : ℕ) (line : List ℕ) → begun_line (byte ∷ line) [] ≡ (byte ∷ line) ∷ []
unfolding begun_line before_lines
begun_last byte [] = refl
begun_last byte (next ∷ line) = ap (before_lines byte) (begun_last next line)

begun_on : (line : List ℕ) (byte : ℕ) (lines : List (List ℕ)) → begun_line (line ++ (byte ∷ [])) lines ≡ begun_line line (before_lines byte lines)
unfolding begun_line
begun_on [] byte lines = refl
begun_on (first ∷ line) byte lines = ap (before_lines first) (begun_on line byte lines)

-- What is written where a script stands, if these lines are to come.
abbrev with_lines : Standing → List (List ℕ) → List ℕ
with_lines s lines = s.waiting ++ output_of s.memory lines

-- A line ended, of which the first 64 bytes were kept.
end_writes : (s : Standing) (line : List ℕ) (lines : List (List ℕ)) → s.line ≡ take 64 line → with_lines (ended s) lines ≡ with_lines s (line ∷ lines)
unfolding ended output_of
end_writes s line lines is =
    rw (is, kept_says line)
    (append_assoc s.waiting (numbers_text (line_step (line_of line) s.memory).printed) (output_of (line_step (line_of line) s.memory).memory lines))

-- The input ended within a line, or after one.
finish_writes : (s : Standing) (line : List ℕ) → s.line ≡ take 64 line → (finished s).waiting ≡ with_lines s (begun_line line [])
unfolding finished begun_line output_of
finish_writes s [] is = rw (is) (sym (append-nil s.waiting))
finish_writes s (byte ∷ line) is =
    let some : length s.line ≡ suc (length (take 63 line)) = ap length is in
    rw (begun_last byte line, ne_eqb (length s.line) 0 (λ none. omega (arith, none, some)))
    (sym (append-nil (ended s).waiting) ∙ end_writes s (byte ∷ line) [] is)

-- One byte came: the line that has begun has ended, or it goes on.
module _ (byte : ℕ) (s : Standing) (line rest : List ℕ) (is : s.line ≡ take 64 line) where
  ended-line : eqb byte 10 ≡ true → (taken byte s).line ≡ []
  unfolding taken ended
  ended-line feed = rw (feed)

  ended_writes : eqb byte 10 ≡ true → with_lines (taken byte s) (lines_in rest) ≡ with_lines s (begun_line line (lines_in (byte ∷ rest)))
  unfolding taken lines_in
  ended_writes feed = rw (feed, begun_ends line (lines_in rest)) (end_writes s line (lines_in rest) is)

  longer_line : eqb byte 10 ≡ false → (taken byte s).line ≡ take 64 (line ++ (byte ∷ []))
  unfolding taken
  longer_line other = rw (other, is) (kept_on line byte)

  longer_writes : eqb byte 10 ≡ false
      → with_lines (taken byte s) (begun_line (line ++ (byte ∷ [])) (lines_in rest)) ≡ with_lines s (begun_line line (lines_in (byte ∷ rest)))
  unfolding taken lines_in
  longer_writes other = rw (other, begun_on line byte (lines_in rest)) refl

-- Of which line the first 64 bytes are kept does not matter: the blocks write what the line that has begun and the others print.
abbrev Write : List (List ℕ) → Type 0
Write blocks = (s : Standing) (line : List ℕ) → s.line ≡ take 64 line → writes blocks s ≡ with_lines s (begun_line line (lines_in (flatten blocks)))

module _ (blocks : List (List ℕ)) (later : Write blocks) where
  block_writes : (block : List ℕ) (s : Standing) (line : List ℕ) → s.line ≡ take 64 line
      → (fed block s).waiting ++ writes blocks (written (fed block s)) ≡ with_lines s (begun_line line (lines_in (block ++ flatten blocks)))
  unfolding fed begun_line
  block_writes [] s line is = ap (λ x. s.waiting ++ x) (later (written s) line is)
  block_writes (byte ∷ block) s line is =
      let rest = block ++ flatten blocks in
      by_cases (eqb byte 10)
      (λ feed. block_writes block (taken byte s) [] (ended-line byte s line rest is feed) ∙ ended_writes byte s line rest is feed)
      (λ other.
      block_writes block (taken byte s) (line ++ (byte ∷ [])) (longer_line byte s line rest is other) ∙ longer_writes byte s line rest is other)

blocks_write : (blocks : List (List ℕ)) → Write blocks
unfolding writes flatten lines_in
blocks_write [] s line is = finish_writes s line is
blocks_write (block ∷ blocks) s line is = block_writes blocks (blocks_write blocks) block s line is

-- Nothing was read yet, whatever the room for a line and the room for the output hold.
abbrev pub begun : Memory → List ℕ → List ℕ → Standing
begun m line output = record { memory = m; line = []; line_rest = line; waiting = []; output_rest = output }

-- For every input in whatever blocks: what the program writes out is what the input's lines print.
pub writes_as_lines : (m : Memory) (line output : List ℕ) (blocks : List (List ℕ))
    → writes blocks (begun m line output) ≡ output_of m (lines_in (flatten blocks))
unfolding begun_line
writes_as_lines m line output blocks = blocks_write blocks (begun m line output) [] refl
