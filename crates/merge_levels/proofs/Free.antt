-- What tables that hold a state's words tell the code of its free slots and of the number of its records.
use mathlib.Core.Path.{◌≡◌, refl, sym, ap, ◌∙◌}
use mathlib.Core.Logic.{◌≢◌}
use mathlib.Core.Bool.{true, false}
use mathlib.Core.List.{List, [], ◌∷◌, map}
use Prim.Native.Nat.{ℕ}
use native.Mathlib.Omega.{arith}
use Rattle.lists.specs.Lists.{none}
use Rattle.model.specs.Calls.{timed}
use Rattle.tables.specs.Slots.{InTable, Slot, first_free}
use Rattle.tables.specs.Placed.{free_cell, head}
use Rattle.tables.proofs.Cells.{Chained}
use Rattle.table_levels.specs.Levels.{RowsAre}
use Rattle.merge_levels.specs.Laid.{Store, Laid}
use Rattle.tables.proofs.Whole.{whole}

module _ (g : Store) (e l : List ℕ) (w : Laid g e l) where
  -- The first free slot is 0 exactly where none is free.
  laid_free : first_free e ≡ head (map free_cell g.state.free)
  laid_free = ap (λ (r : Slot). r.link) w.entries.first

  pub no_free : first_free e ≡ 0 → none g.state.free ≡ true
  no_free z = go g.state.free (sym laid_free ∙ z) w.entries.each.0
    where
      go : (fs : List ℕ) → head (map free_cell fs) ≡ 0 → Chained g.slots e (map free_cell fs) → none fs ≡ true
      go [] q c = refl
      go (f ∷ fs) q c = absurd (omega (arith, c.0))

  pub some_free : first_free e ≢ 0 → none g.state.free ≡ false
  some_free nz = go g.state.free laid_free
    where
      go : (fs : List ℕ) → first_free e ≡ head (map free_cell fs) → none fs ≡ false
      go [] q = absurd (nz q)
      go (f ∷ fs) q = refl

  pub laid_rows : RowsAre g.state l
  laid_rows = record {
    levels = w.levels;
    size = w.formed.size;
    few = omega (arith, (whole g.slots (timed g.time g.state) w.formed).all, w.formed.many);
  }

  pub slot_zero : InTable e 0
  slot_zero = omega (arith, w.entries.room)
