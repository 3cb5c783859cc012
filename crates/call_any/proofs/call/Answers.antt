-- `call_any::call`: what turns the call away is the first refusal that it meets, and where there is none the call has begun.
use Rattle.std.proofs.Common.{rules, arith, refl}
use Rattle.refusals.proofs.Numbers.{refused_number, allowed_number}
use Rattle.call_op.specs.Ops.{op_of}
use Rattle.call_refusal.proofs.Begun.{Asked, begun}
use Rattle.call_any.proofs.Ends.{away}
use Rattle.call_any.proofs.call.Goals as goal

pub returns-in_err-check_call : goal.returns-in_err-check_call
returns-in_err-check_call c =
    let a = c.args in
    let asked : Asked a.entries.now a.levels.now a.clock (op_of a.op) _ = record { fits = λ i. omega (arith, c.slice_known-1.given i); number = refl } in
    let answered = away asked _ (refused_number c.check_call.ensures c.in_err-check_call.was) in
    search rules

pub carry_out-requires : goal.carry_out-requires
carry_out-requires c =
    let a = c.args in
    let asked : Asked a.entries.now a.levels.now a.clock (op_of a.op) _ = record { fits = λ i. omega (arith, c.slice_known-1.given i); number = refl } in
    begun asked (allowed_number c.check_call.ensures c.in_ok-check_call.was)
