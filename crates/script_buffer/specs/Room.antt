-- The code's memory and progress as the definitions'.
use Rattle.std.specs.Prelude.{List, ℕ, take, drop}
use Rattle.script_store.specs.Coded.{memory}
use Rattle.script_store.specs.declared.Store.{Store}
use Rattle.script_buffer.specs.declared.buffer.Buffer.{Buffer}
use Rattle.script_buffer.specs.declared.Script.{Script}
use Rattle.script_buffer.specs.Bytes.{Standing}

-- How large a store is, how many bytes of a line are kept, and how many printed bytes wait to be written out.
pub record Progress : Type 0 where
  pub slots : ℕ
  pub deepest : ℕ
  pub length : ℕ
  pub waiting : ℕ

abbrev pub standing : List ℕ → List ℕ → List ℕ → List ℕ → Progress → Standing
standing e l line output m = record {
  memory = memory e l m.slots m.deepest;
  line = take m.length line;
  line_rest = drop m.length line;
  waiting = take m.waiting output;
  output_rest = drop m.waiting output;
}

-- A store and a line, with an output of any length in which so many bytes wait.
abbrev pub progress_in : {kept : ℕ} → Store → Buffer kept → ℕ → Progress
progress_in store line waiting = record { slots = store.size.slots; deepest = store.size.deepest; length = line.count; waiting = waiting }

abbrev pub standing_in : {kept : ℕ} → Store → Buffer kept → List ℕ → ℕ → Standing
standing_in store line output waiting = standing store.entries store.levels line.bytes output (progress_in store line waiting)

-- A script's own.
abbrev pub progress_of : {room : ℕ} → Script room → Progress
progress_of s = progress_in s.store s.line s.output.count

abbrev pub standing_of : {room : ℕ} → Script room → Standing
standing_of s = standing_in s.store s.line s.output.bytes s.output.count
