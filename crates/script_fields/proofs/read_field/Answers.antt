-- `script_fields::read_field`: past the text and at a byte other than a blank no field stands; after a blank it is the number there.
use Rattle.std.proofs.Common.{rules, ◌≡◌, ◌<◌, ◌≤◌, ◌∙◌, sym, length, get_or}
use Rattle.script_fields.proofs.Blanks.{no_field, no_blank, blank}
use Rattle.script_fields.proofs.read_field.Goals as goal

pub returns-in_err-get : goal.returns-in_err-get
returns-in_err-get c =
    let past : length c.args.text.now ≤ c.args.at = search rules in
    c.from_residual.ensures ∙ sym (no_field c.args.text.now c.args.at past)

pub returns-then-branch-eq32 : goal.returns-then-branch-eq32
returns-then-branch-eq32 c =
    let within : c.args.at < length c.args.text.now = search rules in
    let byte : get_or c.args.text.now c.args.at 0 ≡ 32 = search rules in
    c.read_number.ensures ∙ sym (blank c.args.text.now c.args.at within byte)

pub returns-else-branch-eq32 : goal.returns-else-branch-eq32
returns-else-branch-eq32 c =
    let within : c.args.at < length c.args.text.now = search rules in
    sym (no_blank c.args.text.now c.args.at within (search rules))
