-- `chain_cells::splice`: the loop keeps that, whatever two chains the table held, it is on the way to their merge, and each turn leaves less to do.
use mathlib.Core.Path.{refl}
use borrow.Author.Rules.{rules}
use Rattle.chain_cells.proofs.Splices.{splice_of, splicing_begins, splicing_ends}
use Rattle.chain_cells.proofs.splice.Goals as goal

pub loop-m-init : goal.loop-m-init
loop-m-init c =
    (refl, λ g h. splicing_begins g _ _ _ h)

pub splice_step-m-requires : goal.splice_step-m-requires
splice_step-m-requires c =
    let h = c.requires in
    record { exists = record { value = splice_of h.value; has = c.loop-m.invariant.1 h.value h.has }; upper_nonzero = c.loop-m-test.true }

pub loop-m-smaller : goal.loop-m-smaller
loop-m-smaller c =
    (c.splice_step-m.ensures _ (c.loop-m.invariant.1 c.requires.value c.requires.has)).1

pub loop-m-preserved : goal.loop-m-preserved
loop-m-preserved c =
    (search rules, λ g h. (c.splice_step-m.ensures _ (c.loop-m.invariant.1 g h)).0)

pub returns : goal.returns
returns c =
    λ g h. splicing_ends g _ _ (c.loop-m.invariant.1 g h) c.loop-m-test.false
