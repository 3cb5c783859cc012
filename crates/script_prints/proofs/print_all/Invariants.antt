-- With the numbers that are left printed too, the text is whole.
use Rattle.script_prints.proofs.Several.{Printing}
use Rattle.script_prints.proofs.print_all.Given as goal

abbrev pub invariant-loop-i : goal.invariant-loop-i
invariant-loop-i l = Printing l.initial.out l.at l.numbers l.out l.end l.i
