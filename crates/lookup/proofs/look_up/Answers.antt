-- `look_up`: each turn reads a level, which decides or leaves the next ones to give what all levels give.
use mathlib.Core.Path.{refl, sym, ◌∙◌}
use native.Mathlib.Omega.{arith}
use Rattle.lookup.proofs.Levels.{look_all, look_turn, look_over}
use Rattle.lookup.proofs.look_up.Goals as goal

pub loop-level-init : goal.loop-level-init
loop-level-init c =
    let a = c.args in
    (omega (arith, c.deepest_of-levels.ensures), look_all a.e.now a.l.now a.docket _ _ (omega arith) refl)

pub returns-in-Value : goal.returns-in-Value
returns-in-Value c =
    let a = c.args in
    let w = c.loop-level in
    look_turn a.e.now a.l.now a.docket w.level w.date _ _ _ _ (omega arith) refl w.invariant.1 c.look_level.ensures (omega arith) c.in-Value.is

pub returns-in-Absent : goal.returns-in-Absent
returns-in-Absent c =
    let a = c.args in
    let w = c.loop-level in
    look_turn a.e.now a.l.now a.docket w.level w.date _ _ _ _ (omega arith) refl w.invariant.1 c.look_level.ensures (omega arith) c.in-Absent.is

pub loop-level-preserved : goal.loop-level-preserved
loop-level-preserved c =
    let a = c.args in
    let w = c.loop-level in
    (w.invariant.0, look_turn a.e.now a.l.now a.docket w.level w.date _ _ _ _ (omega arith) (omega arith) w.invariant.1 c.look_level.ensures (omega arith) c.in-Deeper.is)

pub returns : goal.returns
returns c =
    let a = c.args in
    let w = c.loop-level in
    sym (look_over a.e.now a.l.now a.docket w.level w.date (omega arith)) ∙ w.invariant.1
