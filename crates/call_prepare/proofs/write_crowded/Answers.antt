-- `call_prepare::write_crowded`: once levels 0 to L−1 are merged as the definition merges them, a free slot decides between the buffer and level L.
use mathlib.Core.Path.{refl, sym, ◌∙◌}
use Rattle.call_refusal.proofs.Begun.{begun_low, begun_laid}
use Rattle.merge_levels.proofs.Free.{slot_zero}
use Rattle.call_prepare.proofs.Writing.{after_room, entering_after, entered_after, acted, no_slot_left}
use Rattle.call_prepare.proofs.write_crowded.Goals as goal

pub merge_all-merges-requires : goal.merge_all-merges-requires
merge_all-merges-requires c =
    record { value = _; has = begun_laid c.requires.has.writes.began }

pub first_free-requires : goal.first_free-requires
first_free-requires c =
    slot_zero _ _ _ (c.merge_all-merges.ensures _ (begun_laid c.requires.has.writes.began)).laid

pub enter-requires : goal.enter-requires
enter-requires c =
    let k = c.requires.has in
    let worked = c.merge_all-merges.ensures _ (begun_laid k.writes.began) in
    record {
      entering = record { value = _; has = entering_after k worked (λ q. c.if-first_free-ne0.true (c.first_free.ensures ∙ q)) };
      le_clock = begun_low k.writes.began;
    }

pub returns-then-first_free-ne0 : goal.returns-then-first_free-ne0
returns-then-first_free-ne0 c =
    λ v k.
    let d = c.merge_all-merges.ensures _ (begun_laid k.writes.began) in
    let room = after_room k d (λ q. c.if-first_free-ne0.true (c.first_free.ensures ∙ q)) in
    entered_after k d (λ q. c.if-first_free-ne0.true (c.first_free.ensures ∙ q))
    (c.enter.ensures _ v d.laid refl k.writes.write_is k.writes.began.dockets k.writes.began.dated room)

pub act-requires : goal.act-requires
act-requires c =
    let k = c.requires.has in
    let worked = c.merge_all-merges.ensures _ (begun_laid k.writes.began) in
    record {
      stored = record { value = _; has = (worked.laid, refl) };
      le_clock = begun_low k.writes.began;
      written = record { value = c.requires.value; has = (k.writes.write_is, k.writes.began.dockets) };
    }

pub returns-then-act : goal.returns-then-act
returns-then-act c =
    λ v k.
    let d = c.merge_all-merges.ensures _ (begun_laid k.writes.began) in
    let a = c.act.ensures _ v d.laid refl k.writes.write_is k.writes.began.dockets in
    acted k d (sym c.first_free.ensures ∙ c.if-first_free-ne0.false) a c.if-act.true

pub returns-else-act : goal.returns-else-act
returns-else-act c =
    λ v k.
    let d = c.merge_all-merges.ensures _ (begun_laid k.writes.began) in
    let a = c.act.ensures _ v d.laid refl k.writes.write_is k.writes.began.dockets in
    no_slot_left k d (sym c.first_free.ensures ∙ c.if-first_free-ne0.false) a c.if-act.false
