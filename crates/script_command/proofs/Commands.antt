-- What the code answers for a command and for a line.
use mathlib.Core.Path.{◌≡◌, sym, ap, ◌∙◌}
use mathlib.Core.Bool.{true, false}
use Rattle.script_lines.specs.declared.Command.{Command}
use Rattle.std.specs.Prelude.{Option, Some, None}
use Rattle.script_store.specs.Memory.{Memory, Stepped, answers_alone}
use Rattle.script_command.specs.Script.{is_early, carried_out, command_step, line_step}

-- What a command answers is what it carries out where it is not too early.
pub carried : (c d : Command) (m : Memory) (x : Stepped) → is_early c m.slots ≡ false → c ≡ d → x ≡ carried_out d m → x ≡ command_step c m
unfolding command_step
carried c d m x on_time is tells = tells ∙ ap (λ (k : Command). carried_out k m) (sym is) ∙ rw on_time

pub early : (c : Command) (m : Memory) → is_early c m.slots ≡ true → answers_alone 9 m ≡ command_step c m
unfolding command_step
early c m is-so = rw is-so

pub unreadable : (line : Option Command) (m : Memory) → line ≡ None → answers_alone 9 m ≡ line_step line m
unfolding line_step
unreadable line m is = rw is

pub commanded : (line : Option Command) (c : Command) (m : Memory) (x : Stepped) → line ≡ Some c → x ≡ command_step c m → x ≡ line_step line m
unfolding line_step
commanded line c m x is tells = tells ∙ rw is
