-- `call_end::finish`: the pass leaves the definition's state, the clock is set after it, and what has gone is what there was less what its levels hold.
use native.Mathlib.Omega.{arith}
use Rattle.merge_levels.specs.Laid.{Store, Worked}
use Rattle.model.specs.Steps.{begin, pass}
use Rattle.call_end.specs.Ending.{Ending}
use Rattle.call_end.proofs.Finishing.{merges_fit, after_rows, held_fits, ended}
use Rattle.call_end.proofs.finish.Goals as goal

pub overflow_add-result : goal.overflow_add-result
overflow_add-result c =
    let worked : (g : Store) → (Ending g c.args.e.now c.args.l.now c.args.clock c.args.before c.args.merges)
    → Worked g (pass c.args.clock (begin g.state)) c.pass-more.new.e c.pass-more.new.l c.pass-more.result = λ g d. c.pass-more.ensures g d.laid d.time_is in
    omega (arith, merges_fit c.requires.has (worked c.requires.value c.requires.has))

pub held_all-requires : goal.held_all-requires
held_all-requires c =
    let worked : (g : Store) → (Ending g c.args.e.now c.args.l.now c.args.clock c.args.before c.args.merges)
    → Worked g (pass c.args.clock (begin g.state)) c.pass-more.new.e c.pass-more.new.l c.pass-more.result = λ g d. c.pass-more.ensures g d.laid d.time_is in
    record { value = _; has = after_rows c.requires.has (worked c.requires.value c.requires.has) }

pub overflow_sub-result : goal.overflow_sub-result
overflow_sub-result c =
    let worked : (g : Store) → (Ending g c.args.e.now c.args.l.now c.args.clock c.args.before c.args.merges)
    → Worked g (pass c.args.clock (begin g.state)) c.pass-more.new.e c.pass-more.new.l c.pass-more.result = λ g d. c.pass-more.ensures g d.laid d.time_is in
    let w = worked c.requires.value c.requires.has in
    held_fits c.requires.has w (c.held_all.ensures _ (after_rows c.requires.has w))

pub returns : goal.returns
returns c =
    let worked : (g : Store) → (Ending g c.args.e.now c.args.l.now c.args.clock c.args.before c.args.merges)
    → Worked g (pass c.args.clock (begin g.state)) c.pass-more.new.e c.pass-more.new.l c.pass-more.result = λ g d. c.pass-more.ensures g d.laid d.time_is in
    λ g d.
    let w = worked g d in
    rw c.set_clock.ensures (ended d w (c.held_all.ensures _ (after_rows d w)))
