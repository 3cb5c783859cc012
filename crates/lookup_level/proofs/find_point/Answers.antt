-- `lookup_level::find_point`: the loop keeps true that the chain from `at` is ordered and its points say of the docket what those from `head` say.
use mathlib.Core.Path.{sym, ◌∙◌}
use native.Mathlib.Omega.{arith}
use Rattle.chain_cover.proofs.Chains.{On, go_on, shorter}
use Rattle.lookup_level.proofs.Walks.{points_end, points_past, points_here, points_next}
use Rattle.lookup_level.proofs.find_point.Goals as goal

pub lo_of-key-requires : goal.lo_of-key-requires
lo_of-key-requires c =
    let on : On c.args.e.now c.loop-at.at = go_on _ _ c.loop-at.invariant.0 c.loop-at-test.true in
    on.within

pub returns-then-docket-key : goal.returns-then-docket-key
returns-then-docket-key c =
    let on : On c.args.e.now c.loop-at.at = go_on _ _ c.loop-at.invariant.0 c.loop-at-test.true in
    sym (points_past _ _ _ _ on (λ i. omega (arith, c.shared_slice_known-1.given i)) (omega (arith, c.lo_of-key.ensures)))
    ∙ c.loop-at.invariant.1

pub tell-requires : goal.tell-requires
tell-requires c =
    let on : On c.args.e.now c.loop-at.at = go_on _ _ c.loop-at.invariant.0 c.loop-at-test.true in
    on.within

pub returns-then-key-docket : goal.returns-then-key-docket
returns-then-key-docket c =
    let on : On c.args.e.now c.loop-at.at = go_on _ _ c.loop-at.invariant.0 c.loop-at-test.true in
    c.tell.ensures ∙ sym (points_here _ _ _ _ on (omega (arith, c.lo_of-key.ensures))) ∙ c.loop-at.invariant.1

pub next_of-at-requires : goal.next_of-at-requires
next_of-at-requires c =
    let on : On c.args.e.now c.loop-at.at = go_on _ _ c.loop-at.invariant.0 c.loop-at-test.true in
    on.within

pub loop-at-smaller : goal.loop-at-smaller
loop-at-smaller c =
    let on : On c.args.e.now c.loop-at.at = go_on _ _ c.loop-at.invariant.0 c.loop-at-test.true in
    rw c.next_of-at.ensures (shorter _ _ on)

pub loop-at-preserved : goal.loop-at-preserved
loop-at-preserved c =
    let on : On c.args.e.now c.loop-at.at = go_on _ _ c.loop-at.invariant.0 c.loop-at-test.true in
    rw c.next_of-at.ensures (on.rest, sym (points_next _ _ _ _ on (λ q. omega (arith, c.lo_of-key.ensures))) ∙ c.loop-at.invariant.1)

pub returns : goal.returns
returns c =
    let a = c.args in
    sym (points_end a.e.now c.loop-at.at a.date a.docket c.loop-at-test.false) ∙ c.loop-at.invariant.1
