-- What a turn of the program's loop, and the whole loop, make of where the script stands. Of standard input no contract says which bytes it gives.
use Rattle.std.specs.Prelude.{◌≡◌, Bool, true, false, cond, List, [], ◌∷◌, ℕ, ◌≤◌, eqb, length, take}
use Rattle.script_buffer.specs.Bytes.{Standing}
use Rattle.script_stream.specs.Blocks.{fed, finished, written}

-- So many bytes were read to the start of the input's room: a block, or none, which is the end of the input; and what was printed was written out.
-- The script goes on only after a block.
pub record Turn (input : List ℕ) (s s' : Standing) (more : Bool) : Type 0 where
  pub count : ℕ
  pub within : count ≤ length input
  pub leads : s' ≡ written (cond (eqb count 0) (finished s) (fed (take count input) s))
  pub goes_on : more ≡ true → eqb count 0 ≡ false

-- Blocks came one after the other.
unfoldable pub fed_all : List (List ℕ) → Standing → Standing
fed_all [] s = s
fed_all (block ∷ blocks) s = fed_all blocks (written (fed block s))

-- The whole loop: some blocks came, and then the input ended, or the output took no more.
pub record Run (s s' : Standing) : Type 0 where
  pub blocks : List (List ℕ)
  pub ended : Bool
  pub leads : s' ≡ cond ended (written (finished (fed_all blocks s))) (fed_all blocks s)
