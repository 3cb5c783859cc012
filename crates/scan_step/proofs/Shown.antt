-- What the latest date before the fence tells of the first record, and what the levels above it tell where they are asked.
use mathlib.Core.Path.{◌≡◌, sym, ap, ◌∙◌}
use mathlib.Core.Bool.{true, false}
use mathlib.Core.List.{List}
use Prim.Native.Nat.{ℕ, ◌<◌, ◌≤◌}
use native.Mathlib.Omega.{arith}
use borrow.Author.Tests.{le-leb, lt-leb}
use Rattle.tables.specs.Words.{Fits32}
use Rattle.tables.specs.Slots.{stamp_of}
use Rattle.scan_heads.proofs.Passing.{level_inside}
use Rattle.scan_fences.specs.Fences.{Ready, Covering, View, surveyed}
use Rattle.scan_fences.proofs.Surveys.{viewed}
use Rattle.scan_step.specs.declared.Sweep.{Sweep}
use Rattle.scan_step.specs.Sweeps.{next_key, next_level, date_above, is_hidden, Sweeping}

module _ {e : List ℕ} {m : Sweep} (s : Sweeping e m) (le : next_key m ≤ m.hi) where
  inside : next_level m < m.levels
  inside = level_inside s.points (omega (arith, s.last))

  pub above_ready : Ready e m.ranges (next_level m)
  above_ready = record {
    size = s.ranges.size;
    few = omega (arith, inside, s.ranges.few);
    room = omega (arith, inside, s.ranges.room);
    order = λ i lt. s.ranges.order i (omega (arith, inside));
  }

  pub above_is : Fits32 e → {v : View} → v ≡ surveyed e (next_key m) (next_level m) m.ranges → v.cover.date ≡ date_above e m
  above_is words is =
      ap (λ (w : View). w.cover.date) is
      ∙ sym (viewed e words (next_key m) (next_level m) (omega (arith, s.last)) m.ranges above_ready).exact

  module _ (before : next_key m < m.fence) where
    covering : Covering e m.ranges m.date m.cover (next_key m) (next_level m)
    covering = s.covers (next_key m) (next_level m) (omega arith) before (omega (arith, inside))

    pub later_shown : m.date < stamp_of e m.heads.slot → is_hidden e m ≡ false
    later_shown lt = lt-leb (stamp_of e m.heads.slot) (date_above e m) (omega (arith, covering.upto))

    pub earlier_hidden : stamp_of e m.heads.slot ≤ m.date → m.cover ≤ next_level m → is_hidden e m ≡ true
    earlier_hidden upto enough = le-leb (stamp_of e m.heads.slot) (date_above e m) (omega (arith, covering.is enough))
