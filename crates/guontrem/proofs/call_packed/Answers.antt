-- `guontrem::call_packed`: the merges of a call's answer are few enough to stand in one number with what was purged.
use Rattle.std.proofs.Common.{arith, ap, ◌∙◌}
use Rattle.call_op.specs.Ops.{op_of}
use Rattle.guontrem.proofs.Numbers.{merges_fit}
use Rattle.guontrem.proofs.call_packed.Goals as goal

pub pack-requires-clause-merges_bound : goal.pack-requires-clause-merges_bound
pack-requires-clause-merges_bound c =
    let a = c.args in
    merges_fit _ _ _ _ c.in-Ok.answer (record { clock = a.clock; op = op_of a.op }) (c.in-Ok.ensures) (λ i. omega (arith, c.slice_known-1.given i))
