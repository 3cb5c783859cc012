-- `script_fields::count_digits`: the bytes before the position are digits, and the one at it is none.
use Rattle.std.proofs.Common.{rules}
use Rattle.script_fields.proofs.Digits.{counted}
use Rattle.script_fields.proofs.count_digits.Goals as goal

pub returns : goal.returns
returns c = counted c.args.bytes.now c.unwrap_or.result (search rules) (search rules) (search rules)
