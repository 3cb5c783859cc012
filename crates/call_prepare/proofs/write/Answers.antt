-- `call_prepare::write`: whether the buffer has room is the definition's test, and on either side of it the tables end as the definition prepares them.
use mathlib.Core.Path.{refl, sym, ◌∙◌}
use Rattle.call_refusal.proofs.Begun.{begun_low, begun_laid}
use Rattle.call_prepare.proofs.Preparing.{enters_room}
use Rattle.call_prepare.proofs.Writing.{entering, entered}
use Rattle.call_prepare.proofs.write.Goals as goal

pub is_crowded-requires : goal.is_crowded-requires
is_crowded-requires c =
    let h = c.requires in
    record { stored = record { value = _; has = begun_laid h.has.began }; written = record { value = h.value; has = h.has.write_is } }

pub write_crowded-requires : goal.write_crowded-requires
write_crowded-requires c =
    let k = c.requires.has in
    let asked = c.is_crowded.ensures _ _ (begun_laid k.began) k.write_is in
    record { value = c.requires.value; has = record { writes = k; no_room = sym asked ∙ c.if-is_crowded.true } }

pub returns-then-is_crowded : goal.returns-then-is_crowded
returns-then-is_crowded c =
    λ v k.
    let asked = c.is_crowded.ensures _ v (begun_laid k.began) k.write_is in
    c.write_crowded.ensures v (record { writes = k; no_room = sym asked ∙ c.if-is_crowded.true })

pub enter-requires : goal.enter-requires
enter-requires c =
    let k = c.requires.has in
    let asked = c.is_crowded.ensures _ _ (begun_laid k.began) k.write_is in
    record { entering = record { value = _; has = entering k (sym asked ∙ c.if-is_crowded.false) }; le_clock = begun_low k.began }

pub returns : goal.returns
returns c =
    λ v k.
    let free = sym (c.is_crowded.ensures _ v (begun_laid k.began) k.write_is) ∙ c.if-is_crowded.false in
    entered k free (c.enter.ensures _ v (begun_laid k.began) refl k.write_is k.began.dockets k.began.dated (enters_room _ v _ free))
