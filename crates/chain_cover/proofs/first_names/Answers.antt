-- `chain_cover::first_names`: the first point's docket is no earlier than the one asked for, so that it is that one where any point's is.
use mathlib.Core.Bool.{not}
use mathlib.Core.Path.{sym, ap, ◌∙◌}
use native.Mathlib.Omega.{arith}
use borrow.Author.Tests.{eq-eqb}
use Rattle.chain_cover.proofs.Chains.{go_on}
use Rattle.chain_cover.proofs.Walks.{points_end, points_first}
use Rattle.chain_cover.proofs.first_names.Goals as goal

pub returns-then-at-ne0 : goal.returns-then-at-ne0
returns-then-at-ne0 c =
    let on = go_on _ _ c.requires.ordered c.if-at-ne0.true in
    rw c.lo_of.ensures (points_first _ _ _ on (λ i. omega (arith, c.type_inv.e i)) (c.requires.first c.if-at-ne0.true))

pub returns-else-at-ne0 : goal.returns-else-at-ne0
returns-else-at-ne0 c =
    ap not (eq-eqb _ _ c.if-at-ne0.false) ∙ sym (points_end _ _ _ c.if-at-ne0.false)
