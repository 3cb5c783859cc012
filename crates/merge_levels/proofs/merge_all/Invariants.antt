use Rattle.model.specs.Steps.{merge_level, merge_all}
use Rattle.merge_levels.specs.Laid.{Store, Laid}
use Rattle.merge_levels.proofs.Turns.{Reached}
use Rattle.merge_levels.proofs.merge_all.Given as goal

abbrev pub invariant-loop-i : goal.invariant-loop-i
invariant-loop-i l =
    (g : Store) → Laid g l.initial.e l.initial.l → Reached merge_level (merge_all g.state) g l.e l.l l.merges l.i
