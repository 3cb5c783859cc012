-- Document 01, "The script program": its input with its output, and the cases that it names.
use Rattle.std.specs.Prelude.{◌≡◌, List, [], ◌∷◌, ℕ, replicate}
use Prim.Native.String.{String}
use Rattle.script_lines.specs.Lines.{line_of}
use Rattle.script_lines.specs.Cases.{bytes}
use Rattle.script_store.specs.Memory.{Memory}
use Rattle.script_command.specs.Script.{line_step}

-- What the lines print, one after the other.
unfoldable pub prints : Memory → List String → List (List ℕ)
prints m [] = []
prints m (text ∷ rest) =
    let r = line_step (line_of (bytes text)) m in
    r.printed ∷ prints r.memory rest

-- The program's memory, and no store.
abbrev pub no_store : Memory
no_store = record { entries = replicate 16380 0; levels = replicate 32 0; slots = 0; deepest = 0 }

abbrev pub three : ℕ → ℕ → ℕ → List ℕ
three a b c = a ∷ b ∷ c ∷ []

abbrev pub four : ℕ → ℕ → ℕ → ℕ → List ℕ
four a b c d = a ∷ b ∷ c ∷ d ∷ []

pub record CaseTable : Type 0 where
  -- "This input, then its output"; request S-2: "each `P` line now ends with price 0 and both `G` lines print a fourth 0".
  pub script : prints no_store ("M 6 3 2 2 9" ∷ "P 1 7 70 0" ∷ "P 1 8 80 0" ∷ "D 2 7" ∷ "P 3 9 90 0" ∷ "G 7" ∷ "P 4 7 71 0" ∷ "T 5" ∷ "G 7" ∷ "T 11" ∷ "F 10" ∷ [])
      ≡ three 0 0 0 ∷ three 0 0 0 ∷ three 0 1 0 ∷ three 0 0 0 ∷ three 0 1 1 ∷ four 0 0 0 0 ∷ three 0 0 0 ∷ three 0 1 0 ∷ four 0 1 71 0 ∷ three 0 1 1 ∷ three 5 0 0 ∷ []
  -- "any line but M before an accepted M, is 9"; request S-2: "a line answered 9 always prints three numbers".
  pub before_a_make : prints no_store ("T 1" ∷ "G 7" ∷ "Y 1 0 9 1" ∷ "M 6 1 2 2 9" ∷ "P 1 7 70 0" ∷ "" ∷ []) ≡ three 9 0 0 ∷ three 9 0 0 ∷ three 9 0 0 ∷ three 6 0 0 ∷ three 9 0 0 ∷ three 9 0 0 ∷ []
  -- Request S-2: "the script program takes N up to 3,275"; "a refused one leaves the store there was".
  pub refused_makes : prints no_store ("M 6 3 2 2 9" ∷ "P 1 7 70 0" ∷ "M 3276 3 2 2 9" ∷ "M 4 7 2 2 9" ∷ "M 0 3 2 2 9" ∷ "G 7" ∷ [])
      ≡ three 0 0 0 ∷ three 0 0 0 ∷ three 9 0 0 ∷ three 6 0 0 ∷ three 1 0 0 ∷ four 0 1 70 0 ∷ []
  -- "A later M makes the store anew"
  pub made_anew : prints no_store ("M 6 3 2 2 9" ∷ "P 5 7 70 0" ∷ "M 4 2 2 2 4" ∷ "G 7" ∷ "P 1 7 71 0" ∷ "G 7" ∷ [])
      ≡ three 0 0 0 ∷ three 0 0 0 ∷ three 0 0 0 ∷ four 0 0 0 0 ∷ three 0 0 0 ∷ four 0 1 71 0 ∷ []
  -- Request S-1: "covers a record only if its stamp is at most s", "10, s is 0 or after the call's clock"; without a date, "its own clock as s".
  pub by_lay_date : prints no_store ("M 6 3 2 2 9" ∷ "P 3 5 50 0" ∷ "P 4 6 60 0" ∷ "Y 9 0 9 0" ∷ "Y 9 0 9 10" ∷ "Y 9 0 9 3" ∷
      "G 5" ∷ "G 6" ∷ "F 9" ∷ "G 6" ∷ "P 9 7 70 0" ∷ "R 9 0 9" ∷ "G 6" ∷ "G 7" ∷ [])
      ≡ three 0 0 0 ∷ three 0 0 0 ∷ three 0 1 0 ∷ three 10 0 0 ∷ three 10 0 0 ∷ three 0 0 0 ∷ four 0 0 0 0 ∷ four 0 1 60 0 ∷ three 0 1 1 ∷ four 0 1 60 0
      ∷ three 0 0 0 ∷ three 0 0 1 ∷ four 0 0 0 0 ∷ four 0 0 0 0 ∷ []
  -- Request S-2: "`P` lines take the price last; `G` lines print it as a fourth number", a refused one too.
  pub priced : prints no_store ("M 6 3 2 2 9" ∷ "P 1 7 70 5" ∷ "P 1 8 80" ∷ "G 7" ∷ "P 2 7 71 4294967295" ∷ "F 3" ∷ "G 7" ∷ "G 65536" ∷ "D 4 7" ∷ "G 7" ∷ [])
      ≡ three 0 0 0 ∷ three 0 0 0 ∷ three 9 0 0 ∷ four 0 1 70 5 ∷ three 0 0 1 ∷ three 0 1 0 ∷ four 0 1 71 4294967295 ∷ four 4 0 0 0 ∷ three 0 0 0 ∷ four 0 0 0 0 ∷ []
