-- A formed state is in the model's form: a level for each of 0 to L, whose points ascend, and free slots and records that are all slots.
use mathlib.Core.Path.{◌≡◌, refl}
use mathlib.Core.List.{List, [], ◌∷◌, ◌++◌}
use Prim.Native.Nat.{ℕ}
use native.Mathlib.Omega.{arith}
use lib.ListN.{length, length-append, length-map}
use Rattle.settings.proofs.Allowed.{allowed_bounds}
use Rattle.lists.specs.Lists.{sum}
use Rattle.lists.proofs.Tests.{all_weaken}
use Rattle.model.specs.declared.Tally.{Tally}
use Rattle.model.specs.Records.{Point, Range, Level, State, held_all}
use Rattle.model.specs.Merge.{point_slots, range_slots}
use Rattle.model.proofs.Form as model
use Rattle.model.proofs.Slots.{Whole}
use Rattle.tables.specs.Formed.{LevelFormed, levels_slots, Formed}
use Rattle.tables.proofs.Once.{once_facts}

slots_held : (ls : List (Level ℕ Tally)) → length (levels_slots ls) ≡ held_all ls
unfolding sum
slots_held [] = refl
slots_held (l ∷ ls) = omega (
  arith,
  length-append (point_slots l.points ++ range_slots l.ranges) (levels_slots ls),
  length-append (point_slots l.points) (range_slots l.ranges),
  length-map l.points (λ (p : Point ℕ Tally). p.slot),
  length-map l.ranges (λ (r : Range ℕ). r.slot),
  slots_held ls,
)

module _ (n : ℕ) (p : State ℕ Tally) (f : Formed n p) where
  pub in_form : model.Formed p
  in_form =
      let b = allowed_bounds p.settings f.settings_ok in
      record {
        deep = b.deepest_low;
        wide = b.ratio_low;
        size = f.size;
        ordered = all_weaken (LevelFormed p.clock) model.Ordered (λ l g. g.points_ascend) p.levels f.levels_ok;
      }

  pub whole : Whole n p
  whole = record {
    formed = in_form;
    all = omega (
      arith,
      (once_facts n (p.free ++ levels_slots p.levels) f.slots_once).number,
      length-append p.free (levels_slots p.levels),
      slots_held p.levels,
    );
  }
