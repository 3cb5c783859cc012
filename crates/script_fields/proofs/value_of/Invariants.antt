use Rattle.std.proofs.Common.{◌≡◌, ◌<◌, ◌^◌, drop}
use Rattle.script_fields.specs.Numbers.{decimal}
use Rattle.script_fields.proofs.value_of.Given as goal

abbrev pub invariant-loop-digit : goal.invariant-loop-digit
invariant-loop-digit l = (l.value < 10 ^ l.digit-index) × (decimal l.value (drop l.digit-index l.written) ≡ decimal 0 l.written)
