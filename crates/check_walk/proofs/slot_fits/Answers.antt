-- `check_walk::slot_fits`: a slot past the table fails, and what is left is its row and its mark.
use Rattle.check_walk.specs.Slots.{slot_fits}
use mathlib.Core.Path.{◌≡◌, sym, ◌∙◌}
use mathlib.Core.Bool.{true, false, and_comm, not-not}
use Prim.Native.Nat.{◌≤◌}
use native.Mathlib.Omega.{arith}
use lib.Dec.{leb, eqb}
use borrow.Author.Tests.{leb-true}
use Rattle.tables.specs.Slots.{slots_of}
use Rattle.check_marks.specs.Marks.{mark_of}
use Rattle.check_walk.proofs.slot_fits.Given as given
use Rattle.check_walk.proofs.slot_fits.Goals as goal
use Rattle.check_walk.proofs.slot_fits.Goals.{Then-has_slot}

in_table : (g : given.Over) (c : Then-has_slot g) → c.args.s ≤ slots_of c.args.e.now
in_table g c = leb-true _ _ (sym c.has_slot.ensures ∙ c.if-has_slot.true)

pub returns-else-has_slot : goal.returns-else-has_slot
unfolding slot_fits
returns-else-has_slot g c =
    let outside : leb c.args.s (slots_of c.args.e.now) ≡ false = sym c.has_slot.ensures ∙ c.if-has_slot.false in
    rw (outside, c.if-has_slot.false)

pub fits-requires : goal.fits-requires
fits-requires g c =
    omega (arith, in_table g (goal.at.fits-requires g c).Then-has_slot, c.requires.entries.number)

pub is_marked-requires : goal.is_marked-requires
is_marked-requires g c =
    omega (arith, in_table g (goal.at.is_marked-requires g c).Then-has_slot, c.requires.e_bound)

pub returns-then-has_slot : goal.returns-then-has_slot
unfolding slot_fits
returns-then-has_slot g c =
    let a = c.args in
    let inside : leb a.s (slots_of a.e.now) ≡ true = sym c.has_slot.ensures ∙ c.if-has_slot.true in
    let blank = eqb (mark_of a.marks.now a.s) 0 in
    rw (inside, c.fits.ensures, c.is_marked.ensures, not-not blank)
    (and_comm (g.F.Form.asked a.e.now a.owed a.least a.s) blank)
