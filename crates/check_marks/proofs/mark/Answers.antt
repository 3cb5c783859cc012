-- `check_marks::mark` adds the bit's power, which fits the byte because the bit was 0.
use Prim.Native.Nat.{◌/◌, ◌%◌, ◌<◌}
use native.Mathlib.Omega.{arith}
use lib.ListN.{get_or}
use Rattle.check_marks.specs.Marks.{mark_of, with_mark}
use Rattle.check_marks.proofs.Bits.{add_fits, shifted_one}
use Rattle.check_marks.proofs.mark.Goals as goal

pub overflow_add-marks : goal.overflow_add-marks
unfolding mark_of
overflow_add-marks c =
    let s = c.args.s in
    let b = get_or c.args.marks.now (s / 8) 0 in
    let f : b < 256 = omega arith in
    rw (shifted_one (s % 8) (omega arith)) (omega (arith, add_fits 8 (s % 8) b (omega arith) f c.requires.s_value))

pub returns : goal.returns
unfolding with_mark
returns c =
    rw (shifted_one (c.args.s % 8) (omega arith))
