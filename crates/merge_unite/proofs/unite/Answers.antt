-- `merge_unite::unite`: the loop keeps that, whatever two chains of ranges the table held, it is on the way to unite them, and each turn leaves less to see.
use mathlib.Core.Path.{refl}
use borrow.Author.Rules.{rules}
use Rattle.merge_unite.proofs.Ends.{uniting_begins, uniting_ends}
use Rattle.merge_unite.proofs.unite.Goals as goal

pub loop-m-init : goal.loop-m-init
loop-m-init c =
    (refl, λ g h. rw c.at_start.ensures (uniting_begins g _ _ _ h))

pub unite_step-m-requires : goal.unite_step-m-requires
unite_step-m-requires c =
    record { exists = record { value = _; has = c.loop-m.invariant.1 c.requires.value c.requires.has }; at_nonzero = c.loop-m-test.true }

pub loop-m-smaller : goal.loop-m-smaller
loop-m-smaller c =
    (c.unite_step-m.ensures _ (c.loop-m.invariant.1 c.requires.value c.requires.has)).1

pub loop-m-preserved : goal.loop-m-preserved
loop-m-preserved c =
    (search rules, λ g h. (c.unite_step-m.ensures _ (c.loop-m.invariant.1 g h)).0)

pub returns : goal.returns
returns c =
    λ g h. uniting_ends g _ _ c.loop-m-test.false (c.loop-m.invariant.1 g h)
