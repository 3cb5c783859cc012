-- The numbers that are read and those that are left make the whole.
use Rattle.script_fields.proofs.Several.{Read}
use Rattle.script_fields.proofs.read_fields.Given as goal

abbrev pub invariant-loop-number : goal.invariant-loop-number
invariant-loop-number g l = Read g.row.N l.text l.start l.number-items l.number-index l.at
