-- The words of a state once the clock is set: no chain has slot 0.
use mathlib.Core.Path.{◌≡◌, refl, ap, ◌∙◌}
use mathlib.Core.List.{List, [], ◌∷◌}
use Prim.Native.Nat.{ℕ}
use native.Mathlib.Omega.{arith}
use Rattle.model.specs.declared.Tally.{Tally}
use Rattle.model.specs.Records.{State}
use Rattle.model.specs.Calls.{timed}
use Rattle.tables.specs.Slots.{with_clock, set_clock}
use Rattle.tables.specs.Placed.{Cell, all_chains, entry_words, level_words, top_of}
use Rattle.tables.specs.Formed.{Formed}
use Rattle.tables.proofs.Slots.{length-set_slot, slot_other, slot_same}
use Rattle.tables.proofs.Cells.{Chained, AllChained, Holds}
use Rattle.tables.proofs.Back.{formed_words}

-- The clock stands in the entry table alone.
pub timed_levels : (t : ℕ) (p : State ℕ Tally) → level_words (timed t p) ≡ level_words p
unfolding level_words
timed_levels t p = refl

module _ (n t : ℕ) (e : List ℕ) where
  chained_on : (cs : List Cell) → Chained n e cs → Chained n (set_clock e t) cs
  chained_on [] c = tt
  chained_on (x ∷ cs) c = (c.0, c.1, slot_other e 0 _ x.slot (omega (arith, c.0)) ∙ c.2, chained_on cs c.3)

  all_on : (cs : List (List Cell)) → AllChained n e cs → AllChained n (set_clock e t) cs
  all_on [] c = tt
  all_on (x ∷ cs) c = (chained_on x c.0, all_on cs c.1)

  pub clocked : (p : State ℕ Tally) → Formed n (timed t p) → Holds n (top_of p) (all_chains p) e → set_clock e t ≡ entry_words n (timed t p)
  clocked p f h = formed_words n (timed t p) f (set_clock e t) (record {
    room = length-set_slot e 0 _ ∙ h.room;
    first = slot_same e 0 _ (omega (arith, h.room)) ∙ ap (with_clock t) h.first;
    each = all_on (all_chains p) h.each;
  })
