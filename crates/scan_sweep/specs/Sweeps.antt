-- How a sweep sets out, goes on and ends.
use Rattle.std.specs.Prelude.{cond, List, ℕ, zero, suc, ◌+◌, min, eqb, leb, ltb, replicate}
use Rattle.lists.specs.Lists.{iterate}
use Rattle.tables.specs.Rows.{settings_of, level_row}
use Rattle.tables.specs.Sound.{chain_from}
use Rattle.chain_cover.specs.Skips.{first_slot, beginning}
use Rattle.chain_cover.specs.Fronts.{front_at}
use Rattle.scan_heads.specs.declared.Heads.{Heads}
use Rattle.scan_heads.specs.Heads.{head_at, pushed, blank}
use Rattle.scan_fences.specs.Fences.{put_front, View, surveyed}
use Rattle.scan_step.specs.declared.Sweep.{Sweep}
use Rattle.scan_step.specs.Sweeps.{next_key, told, standing, gone, neared, steps_ahead}

-- The first point of level i that is not before lo.
abbrev pub first_from : List ℕ → List ℕ → ℕ → ℕ → ℕ
first_from e l lo i = first_slot (beginning e lo (chain_from e (level_row l i).points))

-- The heads of n levels from there on, and their ranges.
abbrev pub opened_heads : List ℕ → List ℕ → ℕ → ℕ → Heads
opened_heads e l lo n = iterate (λ i a. pushed a (head_at e i (first_from e l lo i))) 0 n blank

abbrev pub opened_ranges : List ℕ → List ℕ → ℕ → List ℕ
opened_ranges e l n = iterate (λ i rs. put_front rs i (front_at e (level_row l i).ranges)) 0 n (replicate 14 0)

-- A sweep that sets out; no fence is known.
abbrev pub opened : List ℕ → List ℕ → ℕ → ℕ → Sweep
opened e l lo hi =
    let n = (settings_of l).deepest + 1 in
    record { heads = opened_heads e l lo n; ranges = opened_ranges e l n; levels = n; cover = 0; date = 0; fence = 0; from = lo; hi = hi; going = 1; live = 0; key = 0; slot = 0 }

-- The ranges were surveyed; the fence lies no farther than past hi.
abbrev pub viewing : Sweep → View → Sweep
viewing m v = record {
  heads = m.heads;
  ranges = v.ranges;
  levels = m.levels;
  cover = v.cover.depth;
  date = v.cover.date;
  fence = min v.cover.fence (m.hi + 1);
  from = m.from;
  hi = m.hi;
  going = 1;
  live = m.live;
  key = m.key;
  slot = m.slot;
}

-- For the first record's docket.
abbrev pub view_of : List ℕ → Sweep → View
view_of e m = surveyed e (next_key m) m.levels m.ranges

abbrev pub crossed : List ℕ → Sweep → Sweep
crossed e m = viewing m (view_of e m)

-- Nothing is left up to hi, or the ranges are surveyed, or the first record is passed.
abbrev pub step_of : List ℕ → Sweep → Sweep
step_of e m =
    cond (ltb m.hi (next_key m)) (told m 0 0 m.key m.slot)
    (cond (leb m.fence (next_key m)) (crossed e m) (gone e m))

-- Step after step until the sweep has come to a live docket or to none, n at most.
unfoldable pub arrived : ℕ → List ℕ → Sweep → Sweep
arrived zero e m = m
arrived (suc n) e m = cond (eqb m.going 0) m (arrived n e (step_of e m))

-- Each step passes a record, moves the fence past its docket, or is the last.
abbrev pub searched : List ℕ → Sweep → Sweep
searched e m = arrived (suc (steps_ahead e m)) e (standing m 1)

-- Mostly one step is enough.
abbrev pub advanced : List ℕ → Sweep → Sweep
advanced e m = cond (eqb (neared e m).going 0) (neared e m) (standing (searched e (standing (neared e m) 1)) 0)
