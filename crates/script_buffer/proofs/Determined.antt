-- Where a script stands determines every word and byte that is lent, and its progress: a contract that says where it stands leaves none of them open.
use mathlib.Core.Path.{◌≡◌, sym, ap, ◌∙◌}
use mathlib.Core.List.{List, ◌++◌}
use Prim.Native.Nat.{ℕ, ◌≤◌}
use lib.ListN.{length, take-append-drop}
use lib.Seq.{length-take-le}
use Rattle.script_buffer.specs.Bytes.{Standing}
use Rattle.script_buffer.specs.Room.{Progress, standing}

abbrev told : Standing → Progress
told s = record { slots = s.memory.slots; deepest = s.memory.deepest; length = length s.line; waiting = length s.waiting }

-- What is kept and what waits lie within their room.
progress_told : (e l line output : List ℕ) (m : Progress) → m.length ≤ length line → m.waiting ≤ length output → told (standing e l line output m) ≡ m
progress_told e l line output m kept waits = rw (length-take-le m.length line kept, length-take-le m.waiting output waits)

module _ (e l line output e' l' line' output' : List ℕ) (m m' : Progress) (same : standing e l line output m ≡ standing e' l' line' output' m') where
  pub same_words : (e ≡ e') × (l ≡ l')
  same_words = (ap (λ s. s.memory.entries) same, ap (λ s. s.memory.levels) same)

  pub same_line : line ≡ line'
  same_line = sym (take-append-drop m.length line) ∙ ap (λ s. s.line ++ s.line_rest) same ∙ take-append-drop m'.length line'

  pub same_output : output ≡ output'
  same_output = sym (take-append-drop m.waiting output) ∙ ap (λ s. s.waiting ++ s.output_rest) same ∙ take-append-drop m'.waiting output'

  pub same_progress : m.length ≤ length line → m'.length ≤ length line' → m.waiting ≤ length output → m'.waiting ≤ length output' → m ≡ m'
  same_progress kept kept' waits waits' =
      sym (progress_told e l line output m kept waits) ∙ ap told same ∙ progress_told e' l' line' output' m' kept' waits'
