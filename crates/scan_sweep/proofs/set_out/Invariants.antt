use mathlib.Core.List.{List}
use mathlib.Core.Path.{◌≡◌}
use Prim.Native.Nat.{ℕ, ◌+◌, ◌-◌}
use lib.ListN.{length}
use Rattle.lists.specs.Lists.{iterate}
use Rattle.tables.specs.Rows.{settings_of, level_row}
use Rattle.chain_cover.specs.Fronts.{front_at}
use Rattle.scan_heads.specs.declared.Heads.{Heads}
use Rattle.scan_heads.specs.Heads.{head_at, pushed}
use Rattle.scan_fences.specs.Fences.{put_front}
use Rattle.scan_sweep.specs.Sweeps.{first_from, opened_heads, opened_ranges}
use Rattle.scan_sweep.proofs.set_out.Given as goal

-- What a turn does to the heads, and what it does to the ranges.
abbrev pub push_level : List ℕ → List ℕ → ℕ → ℕ → Heads → Heads
push_level e l lo i heads = pushed heads (head_at e i (first_from e l lo i))

abbrev pub range_level : List ℕ → List ℕ → ℕ → List ℕ → List ℕ
range_level e l i ranges = put_front ranges i (front_at e (level_row l i).ranges)

abbrev pub invariant-loop-i : goal.invariant-loop-i
invariant-loop-i l =
    (l.levels ≡ (settings_of l.l).deepest + 1) × (length l.ranges ≡ 14)
    × (iterate (push_level l.e l.l l.lo) l.i (l.levels - l.i) l.heads ≡ opened_heads l.e l.l l.lo l.levels)
    × (iterate (range_level l.e l.l) l.i (l.levels - l.i) l.ranges ≡ opened_ranges l.e l.l l.levels)
