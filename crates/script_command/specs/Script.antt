-- Document 01, "The script program": what one line does to the store in memory.
use Rattle.std.specs.Prelude.{Bool, true, false, cond, ◌&&◌, not, Option, Some, None, ℕ, eqb}
use Rattle.model.specs.Steps.{put, delete, delete_range}
use Rattle.model.specs.Calls.{written, flush, tick}
use Rattle.script_lines.specs.declared.Command.{Command}
use Rattle.script_lines.specs.declared.Command.TheVariants.{Make, Put, Delete, DeleteRange, DeleteRangeDated, Flush, Tick, Lookup}
use Rattle.script_store.specs.Memory.{Memory, Stepped, answers_alone, makes, does, finds}

abbrev pub is_make : Command → Bool
is_make (Make n l t b d) = true
is_make (Put t k v p) = false
is_make (Delete t k) = false
is_make (DeleteRange t lo hi) = false
is_make (DeleteRangeDated t lo hi s) = false
is_make (Flush t) = false
is_make (Tick t) = false
is_make (Lookup k) = false

-- Request S-1: "a range delete without a date has its own clock as s"; request S-2: "`P` lines take the price last".
abbrev pub carried_out : Command → Memory → Stepped
carried_out (Make n l t b d) m = makes n (record { deepest = l; ratio = t; buffer = b; term = d }) m
carried_out (Put t k v p) m = does (record { clock = t; op = written (put k (record { count = v; price = p })) }) m
carried_out (Delete t k) m = does (record { clock = t; op = written (delete k) }) m
carried_out (DeleteRange t lo hi) m = does (record { clock = t; op = written (delete_range lo hi t) }) m
carried_out (DeleteRangeDated t lo hi s) m = does (record { clock = t; op = written (delete_range lo hi s) }) m
carried_out (Flush t) m = does (record { clock = t; op = flush }) m
carried_out (Tick t) m = does (record { clock = t; op = tick }) m
carried_out (Lookup k) m = finds k m

-- "any line but M before an accepted M"
abbrev pub is_early : Command → ℕ → Bool
is_early c slots = eqb slots 0 && not (is_make c)

-- "is 9"
unfoldable pub command_step : Command → Memory → Stepped
command_step c m = cond (is_early c m.slots) (answers_alone 9 m) (carried_out c m)

unfoldable pub line_step : Option Command → Memory → Stepped
line_step (Some c) m = command_step c m
line_step None m = answers_alone 9 m
