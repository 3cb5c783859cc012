-- `script_lines::read_line`: a line is its first byte and the rest, and each letter has the form of so many numbers.
use Rattle.std.proofs.Common.{◌∙◌, refl, rules}
use Rattle.script_lines.specs.declared.Command.TheVariants.{Make, Put, Delete, DeleteRange, DeleteRangeDated, Flush, Tick, Lookup}
use Rattle.script_lines.specs.Lines.{line_of}
use Rattle.script_lines.proofs.Forms.{all_read, none_read, empty, lettered, no_letter}
use Rattle.script_lines.proofs.read_line.Goals as goal

pub returns-in_err-first : goal.returns-in_err-first
returns-in_err-first c = c.from_residual.ensures ∙ empty c.args.text.now c.in_err-first.ensures.value

pub returns-in_err-slots-in-77 : goal.returns-in_err-slots-in-77
unfolding line_of
returns-in_err-slots-in-77 c =
    c.from_residual-in_err-slots-in-77.ensures ∙ none_read 5 Make _ c.in_err-slots-in-77.ensures
    ∙ lettered c.args.text.now c.in_ok-first.ensures.value c.in-77.is

pub returns-in_ok-slots-in-77 : goal.returns-in_ok-slots-in-77
unfolding line_of
returns-in_ok-slots-in-77 c =
    all_read 5 Make _ c.in_ok-slots-in-77.ensures ∙ lettered c.args.text.now c.in_ok-first.ensures.value c.in-77.is

pub returns-in_err-clock-in-80 : goal.returns-in_err-clock-in-80
unfolding line_of
returns-in_err-clock-in-80 c =
    c.from_residual-in_err-clock-in-80.ensures ∙ none_read 4 Put _ c.in_err-clock-in-80.ensures
    ∙ lettered c.args.text.now c.in_ok-first.ensures.value c.in-80.is

pub returns-in_ok-clock-in-80 : goal.returns-in_ok-clock-in-80
unfolding line_of
returns-in_ok-clock-in-80 c =
    all_read 4 Put _ c.in_ok-clock-in-80.ensures ∙ lettered c.args.text.now c.in_ok-first.ensures.value c.in-80.is

pub returns-in_err-clock-in-68 : goal.returns-in_err-clock-in-68
unfolding line_of
returns-in_err-clock-in-68 c =
    c.from_residual-in_err-clock-in-68.ensures ∙ none_read 2 Delete _ c.in_err-clock-in-68.ensures
    ∙ lettered c.args.text.now c.in_ok-first.ensures.value c.in-68.is

pub returns-in_ok-clock-in-68 : goal.returns-in_ok-clock-in-68
unfolding line_of
returns-in_ok-clock-in-68 c =
    all_read 2 Delete _ c.in_ok-clock-in-68.ensures ∙ lettered c.args.text.now c.in_ok-first.ensures.value c.in-68.is

pub returns-in_err-clock-in-82 : goal.returns-in_err-clock-in-82
unfolding line_of
returns-in_err-clock-in-82 c =
    c.from_residual-in_err-clock-in-82.ensures ∙ none_read 3 DeleteRange _ c.in_err-clock-in-82.ensures
    ∙ lettered c.args.text.now c.in_ok-first.ensures.value c.in-82.is

pub returns-in_ok-clock-in-82 : goal.returns-in_ok-clock-in-82
unfolding line_of
returns-in_ok-clock-in-82 c =
    all_read 3 DeleteRange _ c.in_ok-clock-in-82.ensures ∙ lettered c.args.text.now c.in_ok-first.ensures.value c.in-82.is

pub returns-in_err-clock-in-89 : goal.returns-in_err-clock-in-89
unfolding line_of
returns-in_err-clock-in-89 c =
    c.from_residual-in_err-clock-in-89.ensures ∙ none_read 4 DeleteRangeDated _ c.in_err-clock-in-89.ensures
    ∙ lettered c.args.text.now c.in_ok-first.ensures.value c.in-89.is

pub returns-in_ok-clock-in-89 : goal.returns-in_ok-clock-in-89
unfolding line_of
returns-in_ok-clock-in-89 c =
    all_read 4 DeleteRangeDated _ c.in_ok-clock-in-89.ensures ∙ lettered c.args.text.now c.in_ok-first.ensures.value c.in-89.is

pub returns-in_err-clock-in-70 : goal.returns-in_err-clock-in-70
unfolding line_of
returns-in_err-clock-in-70 c =
    c.from_residual-in_err-clock-in-70.ensures ∙ none_read 1 Flush _ c.in_err-clock-in-70.ensures
    ∙ lettered c.args.text.now c.in_ok-first.ensures.value c.in-70.is

pub returns-in_ok-clock-in-70 : goal.returns-in_ok-clock-in-70
unfolding line_of
returns-in_ok-clock-in-70 c =
    all_read 1 Flush _ c.in_ok-clock-in-70.ensures ∙ lettered c.args.text.now c.in_ok-first.ensures.value c.in-70.is

pub returns-in_err-clock-in-84 : goal.returns-in_err-clock-in-84
unfolding line_of
returns-in_err-clock-in-84 c =
    c.from_residual-in_err-clock-in-84.ensures ∙ none_read 1 Tick _ c.in_err-clock-in-84.ensures
    ∙ lettered c.args.text.now c.in_ok-first.ensures.value c.in-84.is

pub returns-in_ok-clock-in-84 : goal.returns-in_ok-clock-in-84
unfolding line_of
returns-in_ok-clock-in-84 c =
    all_read 1 Tick _ c.in_ok-clock-in-84.ensures ∙ lettered c.args.text.now c.in_ok-first.ensures.value c.in-84.is

pub returns-in_err-key-in-71 : goal.returns-in_err-key-in-71
unfolding line_of
returns-in_err-key-in-71 c =
    c.from_residual-in_err-key-in-71.ensures ∙ none_read 1 Lookup _ c.in_err-key-in-71.ensures
    ∙ lettered c.args.text.now c.in_ok-first.ensures.value c.in-71.is

pub returns-in_ok-key-in-71 : goal.returns-in_ok-key-in-71
unfolding line_of
returns-in_ok-key-in-71 c =
    all_read 1 Lookup _ c.in_ok-key-in-71.ensures ∙ lettered c.args.text.now c.in_ok-first.ensures.value c.in-71.is

pub returns-in_default : goal.returns-in_default
returns-in_default c =
    no_letter _ _ (search rules) (search rules) (search rules) (search rules) (search rules) (search rules) (search rules) (search rules)
    ∙ lettered c.args.text.now c.in_ok-first.ensures.value refl
