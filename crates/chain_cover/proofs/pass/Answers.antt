-- `chain_cover::pass`: the loop keeps true that the chain from `at` is ordered, and that what is left of it by whatever bound is read is left from `from`.
use mathlib.Core.Path.{sym, ap, ◌∙◌}
use native.Mathlib.Omega.{arith}
use Rattle.chain_cover.specs.Skips.{first_slot}
use Rattle.chain_cover.proofs.Chains.{go_on}
use Rattle.chain_cover.proofs.Skips.{front_end, front_here, front_next}
use Rattle.chain_cover.proofs.pass.Goals as goal

pub returns-then-docket-bound_of : goal.returns-then-docket-bound_of
returns-then-docket-bound_of g c =
    λ bound d.
    let on = go_on _ _ c.loop-at.invariant.0 c.loop-at-test.true in
    let said = d.says _ _ _ on.within c.bound_of.ensures in
    sym (front_here c.args.e.now (bound c.args.e.now) _ c.args.docket on (omega (arith, said, c.if-docket-bound_of.true)))
    ∙ ap first_slot (c.loop-at.invariant.1 bound d)

pub loop-at-preserved : goal.loop-at-preserved
loop-at-preserved g c =
    let on = go_on _ _ c.loop-at.invariant.0 c.loop-at-test.true in
    rw c.next_of-at.ensures (
      on.rest,
      λ bound d.
          let said = d.says _ _ _ on.within c.bound_of.ensures in
          sym (front_next c.args.e.now (bound c.args.e.now) _ c.args.docket on (omega (arith, said, c.if-docket-bound_of.false)))
          ∙ c.loop-at.invariant.1 bound d,
    )

pub returns : goal.returns
returns g c =
    λ bound d. ap first_slot (sym (front_end c.args.e.now (bound c.args.e.now) _ c.args.docket c.loop-at-test.false) ∙ c.loop-at.invariant.1 bound d)
