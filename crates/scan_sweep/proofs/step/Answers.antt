-- `scan_sweep::step`: past hi nothing is left, and a record before the fence is passed.
use mathlib.Core.Path.{sym}
use Rattle.scan_sweep.proofs.Crossing.{step_none, step_goes}
use Rattle.scan_sweep.proofs.step.Goals as goal

pub returns-then-m-key : goal.returns-then-m-key
returns-then-m-key c =
    let a = c.args in
    rw c.none.ensures (sym (step_none a.e.now a.m (rw c.key_of-key.ensures at c.if-m-key.true)))

pub returns-else-m-key-2 : goal.returns-else-m-key-2
returns-else-m-key-2 c =
    let a = c.args in
    rw c.go.ensures (sym (step_goes a.e.now a.m (rw c.key_of-key.ensures at c.if-m-key.false) (rw c.key_of-key.ensures at c.if-m-key-2.false)))
