-- `chain_sieve::first_doomed`: the loop keeps true that the first cell that would go is among those from `at` on.
use mathlib.Core.Path.{sym, ◌∙◌}
use Rattle.chain_sieve.proofs.Walks.{walking_begins, walking_in_table, walking_found, walking_next, walking_ends}
use Rattle.chain_sieve.proofs.first_doomed.Goals as goal

pub loop-at-init : goal.loop-at-init
loop-at-init g c =
    λ h test d o. walking_begins test h _ _ o

pub goes-requires : goal.goes-requires
goes-requires g c =
    let x = c.requires.held in
    let d = c.requires.decides in
    d.has.may _ _ (walking_in_table _ _ _ _ (c.loop-at.invariant x.value d.value d.has x.has))

pub returns-then-goes : goal.returns-then-goes
returns-then-goes g c =
    λ h test d o.
    let walking = c.loop-at.invariant h test d o in
    walking_found _ _ _ _ c.loop-at-test.true (sym (d.says _ _ _ (walking_in_table _ _ _ _ walking) c.goes.ensures) ∙ c.if-goes.true) walking

pub next_of-at-requires : goal.next_of-at-requires
next_of-at-requires g c =
    let x = c.requires.held in
    let d = c.requires.decides in
    walking_in_table _ _ _ _ (c.loop-at.invariant x.value d.value d.has x.has)

pub loop-at-smaller : goal.loop-at-smaller
loop-at-smaller g c =
    let x = c.requires.held in
    let d = c.requires.decides in
    let walking = c.loop-at.invariant x.value d.value d.has x.has in
    rw c.next_of-at.ensures (walking_next _ _ _ _ c.loop-at-test.true (sym (d.has.says _ _ _ (walking_in_table _ _ _ _ walking) c.goes.ensures) ∙ c.if-goes.false) walking).1

pub loop-at-preserved : goal.loop-at-preserved
loop-at-preserved g c =
    λ h test d o.
    let walking = c.loop-at.invariant h test d o in
    rw c.next_of-at.ensures (walking_next _ _ _ _ c.loop-at-test.true (sym (d.says _ _ _ (walking_in_table _ _ _ _ walking) c.goes.ensures) ∙ c.if-goes.false) walking).0

pub returns : goal.returns
returns g c =
    λ h test d o. walking_ends _ _ _ _ c.loop-at-test.false (c.loop-at.invariant h test d o)
