-- `set_slot`: its two stores, and those of `set_tally`, are in their order those of `set_slot`.
use mathlib.Core.Path.{◌≡◌, sym, ◌∙◌}
use mathlib.Core.List.{List}
use Prim.Native.Nat.{ℕ, ◌+◌, ◌*◌}
use lib.ListN.{set}
use Rattle.model.specs.declared.Tally.{Tally}
use Rattle.tables.specs.Slots.{slot_size, slot_at, set_slot, with_tally}
use Rattle.tables.proofs.Slots.{tally_written}
use Rattle.table_slots.proofs.set_slot.Goals as goal

-- The first two words written, then the others.
all_written : (e : List ℕ) (s link span : ℕ) (a : Tally) (t : ℕ)
    → let f = set (set e (slot_size * s) link) (slot_size * s + 1) span in
    set_slot f s (with_tally a t (slot_at f s)) ≡ set_slot e s (record { link = link; span = span; tally = a; stamp = t })
unfolding set_slot
all_written e s link span a t = sym (tally_written (set (set e (slot_size * s) link) (slot_size * s + 1) span) s a t)

pub returns : goal.returns
returns c =
    c.set_tally.ensures ∙ all_written _ _ _ _ _ _
