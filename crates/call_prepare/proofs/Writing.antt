-- The ways of a write, as its code meets them: what each part is handed, and that each way ends in what the definition prepares.
use mathlib.Core.Path.{◌≡◌, refl, sym, ap, ◌∙◌}
use mathlib.Core.Logic.{◌≢◌}
use mathlib.Core.Bool.{Bool, true, false, not}
use mathlib.Core.List.{List}
use Prim.Native.Nat.{ℕ}
use Rattle.lists.specs.Lists.{none}
use Rattle.model.specs.declared.Tally.{Tally}
use Rattle.model.specs.Records.{State}
use Rattle.model.specs.Merge.{release}
use Rattle.model.specs.Steps.{Write, merge_all, displaced, enter, crowded}
use Rattle.model.specs.Calls.{written}
use Rattle.refusals.specs.declared.Refusal.TheVariants.{Full}
use Rattle.tables.specs.Slots.{slots_of, first_free}
use Rattle.tables.specs.Placed.{read_state}
use Rattle.tables.proofs.Back.{formed_words}
use Rattle.tables.proofs.FormedSteps.{merge_all_formed}
use Rattle.write_record.specs.declared.Record.{Record}
use Rattle.write_enter.specs.Entering.{Entering}
use Rattle.write_act.specs.Acting.{Acted}
use Rattle.merge_levels.specs.Laid.{Laid, Worked, at_state}
use Rattle.call_refusal.specs.Began.{store}
use Rattle.call_refusal.proofs.Begun.{begun_formed, begun_deep, begun_laid}
use Rattle.merge_levels.proofs.Free.{no_free, some_free}
use Rattle.call_prepare.specs.Writing.{Writes, Crowded, Done, OutOfSlots}
use Rattle.call_prepare.proofs.Preparing.{Leads, enters, enters_room, enters_after, enters_after_room, no_slot_is, acts, merged_settings}

-- A write that is not out of slots and leads to the state q.
prepares : {e l : List ℕ} {t : ℕ} {v : Write Tally} {q : State ℕ Tally} {m : ℕ} → Leads t v (read_state e l) q m
    → {e' l' : List ℕ} → Laid (at_state (store e l t) q) e' l' → Done e l t (written v) e' l' m
prepares r d = record { slot = r.slot; works = rw r.work (record { laid = d; counts = refl }) }

-- A write with room.
module _ {v : Write Tally} {e l : List ℕ} {t : ℕ} {w : Record} (k : Writes v e l t w) (room : crowded t v (read_state e l) ≡ false) where
  pub entering : Entering (store e l t) e l t w
  entering = record {
    write = v;
    laid = begun_laid k.began;
    time_is = refl;
    write_is = k.write_is;
    dockets = k.began.dockets;
    room = enters_room t v (read_state e l) room;
  }

  pub entered : {e' l' : List ℕ} → Laid (at_state (store e l t) (enter t v (read_state e l))) e' l'
      → Done e l t (written v) e' l' 0
  entered = prepares (enters t v (read_state e l) room)

-- A crowded write, once levels 0 to L−1 are merged.
module _ {v : Write Tally} {e l : List ℕ} {t : ℕ} {w : Record} (k : Crowded v e l t w)
    {e' l' : List ℕ} {m : ℕ} (d : Worked (store e l t) (merge_all (read_state e l)) e' l' m) where
  abbrev p : State ℕ Tally
  p = read_state e l

  abbrev merged : State ℕ Tally
  merged = (merge_all p).state

  module _ (f : first_free e' ≢ 0) where
    freed : none merged.free ≡ false
    freed = some_free (at_state (store e l t) merged) e' l' d.laid f

    pub after_room : none (release (displaced t v merged) merged.free) ≡ false
    after_room = enters_after_room t v p k.no_room freed

    pub entering_after : Entering (at_state (store e l t) merged) e' l' t w
    entering_after = record {
      write = v;
      laid = d.laid;
      time_is = refl;
      write_is = k.writes.write_is;
      dockets = k.writes.began.dockets;
      room = after_room;
    }

    pub entered_after : {e'' l'' : List ℕ} → Laid (at_state (store e l t) (enter t v merged)) e'' l''
        → Done e l t (written v) e'' l'' m
    entered_after = prepares (enters_after t v p k.no_room freed m d.counts)

  module _ (f : first_free e' ≡ 0) {e'' l'' : List ℕ} {done : Bool} (a : Acted (at_state (store e l t) merged) v e' l' e'' l'' done) where
    full : none merged.free ≡ true
    full = no_free (at_state (store e l t) merged) e' l' d.laid f

    same : merged.settings ≡ p.settings
    same = merged_settings p (begun_deep k.writes.began)

    -- It acted on level L.
    pub acted : done ≡ true → Done e l t (written v) e'' l'' m
    acted h = prepares (acts t v p k.no_room full same (sym a.done_is ∙ h) m d.counts) a.laid

    -- Or it was a put whose docket is not there: then the tables are the merged ones.
    pub no_slot_left : done ≡ false → OutOfSlots e l t (written v) e'' l'' Full
    no_slot_left h = let kept = a.kept h in record {
      full = refl;
      no_slot = no_slot_is t v p k.no_room full same ∙ ap not (sym a.done_is ∙ h);
      merged = (
        kept.0 ∙ formed_words (slots_of e) merged (merge_all_formed (slots_of e) p (begun_formed k.writes.began)) e' d.laid.entries,
        kept.1 ∙ d.laid.levels,
      );
    }
