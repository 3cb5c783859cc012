-- The tenth part of a number of two digits or more is smaller.
use Rattle.script_prints.proofs.+print_digits.Given as goal

abbrev pub decreases-print_digits : goal.decreases-print_digits
decreases-print_digits l = l.number
