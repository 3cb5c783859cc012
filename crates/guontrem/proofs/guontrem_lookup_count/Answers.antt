-- `guontrem::guontrem_lookup_count`: the number that goes out is that of the answer that the grower's lookup gives.
use mathlib.Core.Path.{ap, ◌∙◌}
use Rattle.lookup.specs.Lookup.{answer_of}
use Rattle.c_packing.specs.Packed.{packed}
use Rattle.guontrem.proofs.guontrem_lookup_count.Goals as goal

pub returns : goal.returns
returns c =
    c.pack_lookup.ensures ∙ ap (λ a. packed (answer_of a)) c.numbered.ensures ∙ ap packed c.lookup_count.ensures.value
