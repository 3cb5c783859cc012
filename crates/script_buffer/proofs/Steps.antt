-- What the code does with one byte and with the end of a line, as the definitions have it.
use mathlib.Core.Path.{◌≡◌, refl, sym, ap, ◌∙◌}
use mathlib.Core.List.{List, ◌++◌, append_assoc}
use Prim.Native.Nat.{ℕ, ◌+◌, ◌≤◌}
use native.Mathlib.Omega.{arith}
use borrow.Author.Tests.{eq-eqb, ne_eqb}
use lib.ListN.{length, take, drop, set, length-append, take-append-drop}
use lib.Seq.{take_at, drop_at, drop-drop, drop-set-lt, length-take-le}
use Rattle.script_lines.specs.Lines.{line_of}
use Rattle.script_prints.specs.Texts.{numbers_of, numbers_text, overwrite}
use Rattle.script_prints.proofs.Digits.{length-printed}
use Rattle.script_prints.proofs.Overwrites.{Printed}
use Rattle.script_prints.specs.declared.Printed.{Printed as Answer}
use Rattle.script_command.specs.Script.{line_step}
use Rattle.script_store.specs.Coded.{memory}
use Rattle.script_buffer.specs.Bytes.{Standing, kept, ended, taken}
use Rattle.script_buffer.specs.Room.{Progress, standing}

-- A byte was kept after so many: of the rest of the room one fewer is left.
pub one_fewer : (line : List ℕ) (count byte : ℕ) → drop (count + 1) (set line count byte) ≡ drop 1 (drop count line)
one_fewer line count byte = drop-set-lt (count + 1) line count byte (omega arith) ∙ sym (drop-drop 1 count line)

-- A text waits after what waited before, and took the first bytes of the rest.
abbrev pub Waits : List ℕ → ℕ → List ℕ → ℕ → List ℕ → Type 0
Waits output at text end output' = (take end output' ≡ take at output ++ text) × (drop end output' ≡ drop (length text) (drop at output))

pub waits : (output output' text : List ℕ) (at end : ℕ) → at + length text ≤ length output → Printed output at text end output'
    → Waits output at text end output'
unfolding overwrite
waits output output' text at end room printed =
    let before = take at output in
    let past = at + length text in
    let after = drop past output in
    let whole : length (before ++ text) ≡ past = length-append before text ∙ ap (λ n. n + length text) (length-take-le at output (omega arith)) in
    let kept = take_at (before ++ text) after past whole in
    let left = drop_at (before ++ text) after past whole in
    rw (printed.0, printed.1, sym (append_assoc before text after), kept, left)
    (refl, sym (drop-drop (length text) at output))

-- A line feed ends the line.
pub takes_end : (byte : ℕ) (s s' : Standing) → byte ≡ 10 → s' ≡ ended s → s' ≡ taken byte s
unfolding taken
takes_end byte s s' is ends = rw (eq-eqb byte 10 is) ends

module _ (e l line output : List ℕ) (m : Progress) where
  -- A line carried out and its answer printed, after what waited.
  pub ends : (e' l' output' : List ℕ) (slots deepest : ℕ) (printed : Answer) (waiting : ℕ) {at : ℕ} → at ≡ m.waiting → m.waiting + 44 ≤ length output
      → record { memory = memory e' l' slots deepest; printed = numbers_of printed } ≡ line_step (line_of (take m.length line)) (memory e l m.slots m.deepest)
      → Printed output at (numbers_text (numbers_of printed)) waiting output'
      → standing e' l' line output' (record { slots = slots; deepest = deepest; length = 0; waiting = waiting }) ≡ ended (standing e l line output m)
  unfolding ended
  ends e' l' output' slots deepest answer waiting after room told printed =
      let few = length-printed answer in
      let shown = waits output output' (numbers_text (numbers_of answer)) m.waiting waiting (omega (arith, few)) (rw after at printed) in
      rw (shown.0, shown.1, ← told, take-append-drop m.length line)

  -- Room of the same bytes, of which none is kept.
  pub emptied : {line' : List ℕ} {count : ℕ} → line' ≡ line → count ≡ 0
      → standing e l line' output (record { slots = m.slots; deepest = m.deepest; length = count; waiting = m.waiting })
      ≡ standing e l line output (record { slots = m.slots; deepest = m.deepest; length = 0; waiting = m.waiting })
  emptied same none = rw (same, none) refl

  -- Another byte is kept.
  pub takes_byte : (byte count : ℕ) (line' : List ℕ) {it : ℕ} → it ≡ byte → (byte ≡ 10 → ⊥) → take count line' ≡ kept (take m.length line) it → drop count line' ≡ drop 1 (drop m.length line)
      → standing e l line' output (record { slots = m.slots; deepest = m.deepest; length = count; waiting = m.waiting }) ≡ taken byte (standing e l line output m)
  unfolding taken
  takes_byte byte count line' is other keeps left = rw (ne_eqb byte 10 other, keeps, left, is)
