-- `guontrem::guontrem_wake`: the clock is the wake's, in one number.
use Rattle.std.proofs.Common.{ap, ◌∙◌}
use Rattle.c_packing.specs.Packed.{packed_wake}
use Rattle.guontrem.proofs.guontrem_wake.Goals as goal

pub returns : goal.returns
returns c = c.pack_wake.ensures ∙ ap packed_wake (c.numbered.ensures ∙ c.wake.ensures)
