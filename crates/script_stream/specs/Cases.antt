-- Document 01, "The script program": its input with its output, byte for byte.
use Rattle.std.specs.Prelude.{◌≡◌}
use Prim.Native.String.{String}
use Rattle.script_lines.specs.Cases.{bytes}
use Rattle.script_command.specs.Cases.{no_store}
use Rattle.script_stream.specs.Input.{lines_in, output_of}

-- "This input, then its output"; request S-2: "each `P` line now ends with price 0 and both `G` lines print a fourth 0".
abbrev pub script_input : String
script_input = "M 6 3 2 2 9\nP 1 7 70 0\nP 1 8 80 0\nD 2 7\nP 3 9 90 0\nG 7\nP 4 7 71 0\nT 5\nG 7\nT 11\nF 10\n"

abbrev pub script_output : String
script_output = "0 0 0\n0 0 0\n0 1 0\n0 0 0\n0 1 1\n0 0 0 0\n0 0 0\n0 1 0\n0 1 71 0\n0 1 1\n5 0 0\n"

-- The input prints the output, in the program's memory.
abbrev pub prints : String → String → Type 0
prints input output = output_of no_store (lines_in (bytes input)) ≡ bytes output

pub record CaseTable : Type 0 where
  pub script : prints script_input script_output
  -- "which the last line may lack"
  pub no_line_feed : prints "G 1\nG 1" "9 0 0\n9 0 0\n"
  pub empty : prints "" ""
  pub empty_lines : prints "\n\n" "9 0 0\n9 0 0\n"
