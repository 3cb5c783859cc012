-- `chain_cover::front_covers`: where the first range begins past the docket so do all; where it covers the record that is enough; else those behind decide.
use mathlib.Core.Path.{sym, ◌∙◌}
use native.Mathlib.Omega.{arith}
use Rattle.chain_cover.proofs.Walks.{covers_read}
use Rattle.chain_cover.proofs.Fronts.{front_says_none, front_says_past, front_says_here, front_says_next}
use Rattle.chain_cover.proofs.front_covers.Goals as goal

pub returns-then-f-eq0 : goal.returns-then-f-eq0
returns-then-f-eq0 c =
    sym (front_says_none _ _ _ _ c.if-f-eq0.true)

pub returns-then-docket-lo : goal.returns-then-docket-lo
returns-then-docket-lo c =
    sym (front_says_past _ _ _ _ c.if-f-eq0.false (λ i. omega (arith, c.type_inv.e i)) c.requires
    (omega (arith, c.if-docket-lo.true, c.lo_of-lo.ensures)))

pub returns-then-covers : goal.returns-then-covers
returns-then-covers c =
    let said = covers_read _ _ _ _ _ _ _ _ _ c.lo_of-lo.ensures c.hi_of.ensures c.date_of.ensures c.covers.ensures in
    c.if-covers.true ∙ sym (front_says_here _ _ _ _ c.if-f-eq0.false (said ∙ c.if-covers.true))

pub returns-else-covers : goal.returns-else-covers
returns-else-covers c =
    let said = covers_read _ _ _ _ _ _ _ _ _ c.lo_of-lo.ensures c.hi_of.ensures c.date_of.ensures c.covers.ensures in
    rw c.is_covered.ensures (sym (front_says_next _ _ _ _ c.if-f-eq0.false (said ∙ c.if-covers.false)))
