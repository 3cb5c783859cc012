-- `scan_sweep::set_out`: the loop keeps that with the levels still to come the heads and the ranges are those of all.
use mathlib.Core.List.{List}
use mathlib.Core.Path.{◌≡◌, sym, ap, ◌∙◌}
use Prim.Native.Nat.{ℕ, ◌+◌, ◌<◌, ◌≤◌}
use native.Mathlib.Numerals.{add-one}
use native.Mathlib.Omega.{arith}
use Rattle.lists.proofs.Loops.{iterate_end, iterate_next}
use Rattle.tables.specs.Rows.{settings_of}
use Rattle.tables.specs.Sound.{chain_from}
use Rattle.table_levels.specs.declared.Level.{Level}
use Rattle.chain_cover.specs.Skips.{first_slot, beginning}
use Rattle.chain_cover.specs.Fronts.{front_at}
use Rattle.chain_cover.proofs.Fronts.{front_at_ordered}
use Rattle.scan_heads.specs.declared.Heads.{Heads}
use Rattle.scan_heads.specs.Heads.{head_at, pushed}
use Rattle.scan_fences.specs.Fences.{put_front}
use Rattle.scan_fences.proofs.Levels.{put_length, first_low, behind_low}
use Rattle.scan_sweep.specs.Sweeps.{first_from, opened_heads, opened_ranges, opened}
use Rattle.scan_sweep.proofs.Opening.{front_is_ordered, front_small}
use Rattle.scan_sweep.proofs.set_out.Invariants.{push_level, range_level}
use Rattle.scan_sweep.proofs.set_out.Goals as goal

-- The sweep that is returned.
opens : (e l : List ℕ) (lo hi levels : ℕ) (heads : Heads) (ranges : List ℕ) → levels ≡ (settings_of l).deepest + 1
    → heads ≡ opened_heads e l lo levels → ranges ≡ opened_ranges e l levels
    → record {
      heads = heads;
      ranges = ranges;
      levels = levels;
      cover = 0;
      date = 0;
      fence = 0;
      from = lo;
      hi = hi;
      going = 1;
      live = 0;
      key = 0;
      slot = 0;
    } ≡ opened e l lo hi
opens e l lo hi levels heads ranges n h r = rw (h, r, n)

pub head-requires-clause-ordered : goal.head-requires-clause-ordered
head-requires-clause-ordered c =
    let i = c.loop-i.i in
    let e = c.args.e.now in
    let lo = c.args.lo in
    let level : i ≤ (settings_of c.args.l.now).deepest = omega (arith, c.loop-i.invariant.0) in
    rw (c.seek.ensures, ap (λ (v : Level). first_slot (beginning e lo (chain_from e v.points))) c.level_at-row.ensures)
    (front_is_ordered c.requires lo i (omega arith))

pub head-requires-clause-slot_bound : goal.head-requires-clause-slot_bound
head-requires-clause-slot_bound c =
    let i = c.loop-i.i in
    let e = c.args.e.now in
    let lo = c.args.lo in
    let level : i ≤ (settings_of c.args.l.now).deepest = omega (arith, c.loop-i.invariant.0) in
    rw (c.seek.ensures, ap (λ (v : Level). first_slot (beginning e lo (chain_from e v.points))) c.level_at-row.ensures)
    (front_small c.requires lo i (omega arith))

pub overflow_cast-ranges : goal.overflow_cast-ranges
overflow_cast-ranges c =
    let o = front_at_ordered _ _ (c.requires.ranges c.loop-i.i (omega (arith, c.loop-i.invariant.0))) in
    let low : c.front_at-f.result.first ≤ 65535 = rw (c.front_at-f.ensures, ap (λ (v : Level). v.ranges) c.level_at-row.ensures) (first_low o c.requires.size) in
    omega arith

pub overflow_cast-ranges-in-loop-i : goal.overflow_cast-ranges-in-loop-i
overflow_cast-ranges-in-loop-i c =
    let o = front_at_ordered _ _ (c.requires.ranges c.loop-i.i (omega (arith, c.loop-i.invariant.0))) in
    let low : c.front_at-f.result.behind ≤ 65535 = rw (c.front_at-f.ensures, ap (λ (v : Level). v.ranges) c.level_at-row.ensures) (behind_low o c.requires.size) in
    omega arith

pub loop-i-preserved : goal.loop-i-preserved
loop-i-preserved c =
    let found : c.seek.result ≡ (first_from c.args.e.now c.args.l.now c.args.lo c.loop-i.i) = let e = c.args.e.now in
    let lo = c.args.lo in
    c.seek.ensures ∙ ap (λ (v : Level). first_slot (beginning e lo (chain_from e v.points))) c.level_at-row.ensures in
    let more : c.loop-i.i < c.deepest_of-levels.result + 1 = omega arith in
    let e = c.args.e.now in
    let l = c.args.l.now in
    let lo = c.args.lo in
    let i = c.loop-i.i in
    let heads = c.loop-i.heads in
    let ranges = c.loop-i.ranges in
    let pushed_is = c.push-heads.ensures ∙ ap (pushed heads) (c.head.ensures ∙ ap (head_at e i) found) in
    let front_is = c.front_at-f.ensures ∙ ap (λ (v : Level). front_at e v.ranges) c.level_at-row.ensures in
    let ranges_is = ap (put_front ranges i) front_is in (
      c.loop-i.invariant.0,
      put_length ranges i c.front_at-f.result ∙ c.loop-i.invariant.1,
      rw pushed_is (sym (iterate_next (push_level e l lo) _ i heads _ more (add-one _)) ∙ c.loop-i.invariant.2),
      rw ranges_is (sym (iterate_next (range_level e l) _ i ranges _ more (add-one _)) ∙ c.loop-i.invariant.3),
    )

pub returns : goal.returns
returns c =
    let e = c.args.e.now in
    let l = c.args.l.now in
    let lo = c.args.lo in
    let i = c.loop-i.i in
    let heads = c.loop-i.heads in
    let ranges = c.loop-i.ranges in
    let heads_are = sym (iterate_end (push_level e l lo) _ i heads (omega arith)) ∙ c.loop-i.invariant.2 in
    let ranges_are = sym (iterate_end (range_level e l) _ i ranges (omega arith)) ∙ c.loop-i.invariant.3 in
    opens e l lo c.args.hi _ heads ranges c.loop-i.invariant.0 heads_are ranges_are
