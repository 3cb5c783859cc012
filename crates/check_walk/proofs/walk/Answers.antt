-- `walk`: the loop keeps that the walk from here on gives what the whole walk gives; each turn leaves one unmarked slot fewer.
use mathlib.Core.Path.{◌≡◌, sym, ◌∙◌}
use mathlib.Core.Bool.{true}
use native.Mathlib.Omega.{arith}
use Rattle.tables.specs.Slots.{slots_of}
use Rattle.check_walk.specs.Slots.{slot_fits}
use Rattle.check_walk.proofs.Unmarked.{unmarked_le}
use Rattle.check_walk.proofs.Walks.{slot_facts, walk_starts, walk_fails, walk_less, walk_goes, walk_ends}
use Rattle.check_walk.proofs.walk.Given as given
use Rattle.check_walk.proofs.walk.Goals as goal
use Rattle.check_walk.proofs.walk.Goals.{Else-not-slot_fits}

-- The slot was accepted.
fits : (g : given.Over) (c : Else-not-slot_fits g)
    → slot_fits g.F.Form.asked c.args.e.now c.args.owed c.loop-at.least c.loop-at.at c.loop-at.marks ≡ true
fits g c = sym c.slot_fits.ensures ∙ c.if-not-slot_fits.false

pub loop-at-init : goal.loop-at-init
loop-at-init g c =
    walk_starts _ c.requires.entries

pub returns-then-not-slot_fits : goal.returns-then-not-slot_fits
returns-then-not-slot_fits g c =
    walk_fails c.loop-at.invariant c.loop-at-test.true (sym c.slot_fits.ensures ∙ c.if-not-slot_fits.true)

pub mark-requires : goal.mark-requires
mark-requires g c =
    let f = slot_facts (fits g (goal.at.mark-requires g c).Else-not-slot_fits) in
    record { s_bound = omega (arith, c.loop-at.invariant.len); s_value = f.blank }

pub order_key-least-requires : goal.order_key-least-requires
order_key-least-requires g c =
    let f = slot_facts (fits g (goal.at.order_key-least-requires g c).Else-not-slot_fits) in
    omega arith

pub overflow_add-count : goal.overflow_add-count
overflow_add-count g c =
    let a = c.args in
    omega (arith, c.loop-at.invariant.sum, unmarked_le (slots_of a.e.now) a.marks.now)

pub next_of-at-requires : goal.next_of-at-requires
next_of-at-requires g c =
    let f = slot_facts (fits g (goal.at.next_of-at-requires g c).Else-not-slot_fits) in
    omega arith

pub loop-at-smaller : goal.loop-at-smaller
loop-at-smaller g c =
    let accepted = fits g (goal.at.loop-at-smaller g c).Else-not-slot_fits in
    rw c.mark.ensures
    (omega (arith, walk_less c.loop-at.invariant c.loop-at-test.true c.requires.e_bound accepted))

pub loop-at-preserved : goal.loop-at-preserved
loop-at-preserved g c =
    let accepted = fits g (goal.at.loop-at-preserved g c).Else-not-slot_fits in
    rw (c.next_of-at.ensures, c.order_key-least.ensures, c.mark.ensures)
    (walk_goes c.loop-at.invariant c.loop-at-test.true c.requires.e_bound accepted)

pub returns : goal.returns
returns g c =
    walk_ends c.loop-at.invariant c.loop-at-test.false
