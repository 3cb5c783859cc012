-- `scan::scan`: each turn fills a row and comes to the next live docket; where there is none, or no row is left, the rows are the scan's.
use mathlib.Core.Path.{refl, sym}
use native.Mathlib.Numerals.{add-one}
use native.Mathlib.Omega.{arith}
use Rattle.std.proofs.Common.{rules}
use Rattle.std.proofs.lemmas.List.{set-get_or}
use Rattle.tables.specs.Words.{Fits32}
use Rattle.scan_sweep.proofs.Arriving.{advanced_sweeping, advanced_rows}
use Rattle.scan.proofs.Refusals.{allowed_readable, allowed_sweeping, begun, accepted}
use Rattle.scan.proofs.Reached.{turn_inside, stored, turned, ended_none, ended}
use Rattle.scan.proofs.scan.Goals as goal

pub set_out-requires : goal.set_out-requires
set_out-requires g c =
    allowed_readable _ _ c.args.lo c.args.hi c.in_ok-check_dockets.ensures

pub search-m-requires : goal.search-m-requires
search-m-requires g c =
    rw c.set_out.ensures (allowed_sweeping _ _ _ _ c.in_ok-check_dockets.ensures)

pub loop-count-init : goal.loop-count-init
loop-count-init g c = record {
  reached = begun _ _ _ _ c.in_ok-check_dockets.ensures (λ i. (c.shared_slice_known-1.given i).fits) (rw (c.search-m.ensures, c.set_out.ensures));
  inside = omega arith;
  filled = refl;
}

pub returns-in_default : goal.returns-in_default
returns-in_default g c =
    let a = c.args in
    let w = c.loop-count in
    let told = ended_none g.R.Listed.shown _ _ _ _ a.rows.now w.count w.m w.invariant.reached (sym c.in_default.ensures) w.invariant.inside (omega arith) in
    rw (accepted _ _ _ _ c.in_ok-check_dockets.ensures g.R.Listed.shown a.rows.now)
    (search (rules, set-get_or))

pub loop-count-preserved : goal.loop-count-preserved
loop-count-preserved g c =
    let a = c.args in
    let w = c.loop-count in
    let is = sym c.in-Some.ensures in
    let words : Fits32 a.entries.now = λ i. (c.shared_slice_known-1.given i).fits in
    let sweeping = w.invariant.reached.sweeping in
    record {
      reached = rw add-one
          (turned g.R.Listed.shown _ _ _ _ a.rows.now w.count w.m w.invariant.reached c.in-Some.live is c.advance-m.result
          (rw c.advance-m.ensures (advanced_sweeping a.entries.now words sweeping)) (rw c.advance-m.ensures (advanced_rows a.entries.now words sweeping)));
      inside = omega (arith, turn_inside g.R.Listed.shown _ _ _ _ a.rows.now w.count w.m w.invariant.reached c.in-Some.live is);
      filled = rw (w.invariant.filled, c.of.ensures, add-one)
          (stored g.R.Listed.shown _ _ _ _ a.rows.now w.count w.m w.invariant.reached c.in-Some.live is (omega arith));
    }

pub returns : goal.returns
returns g c =
    let a = c.args in
    let w = c.loop-count in
    rw (w.invariant.filled, accepted _ _ _ _ c.in_ok-check_dockets.ensures g.R.Listed.shown a.rows.now)
    (ended g.R.Listed.shown _ _ _ _ a.rows.now w.count w.m w.invariant.reached w.invariant.inside (omega arith) _ (search rules))
