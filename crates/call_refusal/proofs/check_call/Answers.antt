-- Where the dockets are let through the tables are sound, and have a slot 0.
use Rattle.refusals.proofs.Numbers.{allowed_number}
use Rattle.check_refusal.proofs.Refusals.{allowed_sound}
use Rattle.call_refusal.proofs.Begun.{sound_slot_zero}
use Rattle.call_refusal.proofs.check_call.Goals as goal

pub clock_of-requires : goal.clock_of-requires
clock_of-requires c =
    sound_slot_zero _ _ (allowed_sound _ c.args.l.now c.dockets-span.result.lo c.dockets-span.result.hi (allowed_number c.check_dockets.ensures c.in_ok-check_dockets.was))
