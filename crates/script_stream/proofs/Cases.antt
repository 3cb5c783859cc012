-- The cases of the script as text: what the lines print, by the numbers that they print.
use mathlib.Core.Path.{◌≡◌, refl, ap, ◌∙◌}
use mathlib.Core.List.{List, [], ◌∷◌, ◌++◌, map}
use Prim.Native.Nat.{ℕ}
use Prim.Native.String.{String}
use Rattle.script_fields.specs.Numbers.{digits, decimal}
use Rattle.script_lines.specs.Lines.{fields, line_of}
use Rattle.script_lines.specs.Cases.{bytes}
use Rattle.script_prints.specs.Texts.{digits_within, decimal_text, numbers_text}
use Rattle.script_store.specs.Memory.{Memory}
use Rattle.script_command.specs.Script.{command_step, line_step}
use Rattle.script_command.specs.Cases.{prints, no_store}
use Rattle.script_command.proofs.Cases as script
use Rattle.script_stream.specs.Input.{before_lines, lines_in, output_of}
use Rattle.script_stream.specs.Cases.{CaseTable, script_input, script_output}

unfoldable texts : List (List ℕ) → List ℕ
texts [] = []
texts (numbers ∷ rest) = numbers_text numbers ++ texts rest

output_as_numbers : (m : Memory) (lines : List String) → output_of m (map bytes lines) ≡ texts (prints m lines)
unfolding output_of prints texts
output_as_numbers m [] = refl
output_as_numbers m (line ∷ lines) =
    let r = line_step (line_of (bytes line)) m in
    ap (λ x. numbers_text r.printed ++ x) (output_as_numbers r.memory lines)

-- An input of these lines, which print these numbers, prints their texts.
printing : (input output : List ℕ) (lines : List String) (numbers : List (List ℕ)) → lines_in input ≡ map bytes lines
    → prints no_store lines ≡ numbers → texts numbers ≡ output
    → output_of no_store (lines_in input) ≡ output
printing input output lines numbers split run text = ap (output_of no_store) split ∙ output_as_numbers no_store lines ∙ ap texts run ∙ text

-- The lines of document 01's script.
abbrev script_lines : List String
script_lines = "M 6 3 2 2 9" ∷ "P 1 7 70 0" ∷ "P 1 8 80 0" ∷ "D 2 7" ∷ "P 3 9 90 0" ∷ "G 7" ∷ "P 4 7 71 0" ∷ "T 5" ∷ "G 7" ∷ "T 11" ∷ "F 10" ∷ []

document_script : output_of no_store (lines_in (bytes script_input)) ≡ bytes script_output
unfolding bytes lines_in before_lines texts numbers_text decimal_text digits_within
document_script = printing (bytes script_input) (bytes script_output) script_lines _ refl (script.cases).script refl

pub cases : CaseTable
unfolding bytes lines_in before_lines output_of numbers_text decimal_text digits_within digits decimal fields line_of command_step line_step
cases = record {
  script = document_script;
  no_line_feed = refl;
  empty = refl;
  empty_lines = refl;
}
