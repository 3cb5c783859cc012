-- A step of a search: nothing is left, the first record is passed, or a survey that changes nothing of what is to come moves the fence past its docket.
use mathlib.Core.Path.{◌≡◌, refl, sym, ◌∙◌, subst}
use mathlib.Core.List.{List}
use Prim.Native.Nat.{ℕ, ◌<◌, ◌≤◌}
use native.Mathlib.Omega.{arith}
use borrow.Author.Tests.{lt-ltb, le-ltb, le-leb, lt-leb, ltb-true, ltb-false, leb-true, leb-false}
use lib.Dec.{ltb, leb}
use Rattle.tables.specs.Words.{Fits32}
use Rattle.lists.proofs.Bools.{by_cases}
use Rattle.model.specs.Lookup.{lookup}
use Rattle.scan_heads.specs.Heads.{point}
use Rattle.scan_fences.specs.Fences.{ranges_in}
use Rattle.scan_fences.proofs.Surveys.{Viewed, viewed}
use Rattle.scan_step.specs.declared.Sweep.{Sweep}
use Rattle.scan_step.specs.Sweeps.{to_come, next_key, Sweeping, told, gone, Stepped}
use Rattle.scan_step.proofs.LiveRows.{live_same}
use Rattle.scan_step.proofs.Coming.{looks_same, decides_same}
use Rattle.scan_step.proofs.Steps.{nothing_before, stepped_none, gone_stepped}
use Rattle.scan_sweep.specs.Sweeps.{view_of, crossed, step_of}

module _ (e : List ℕ) (m : Sweep) where
  pub step_none : m.hi < next_key m → step_of e m ≡ told m 0 0 m.key m.slot
  step_none lt = rw (lt-ltb m.hi (next_key m) lt)

  module _ (le : next_key m ≤ m.hi) where
    pub step_crosses : m.fence ≤ next_key m → step_of e m ≡ crossed e m
    step_crosses past = rw (le-ltb m.hi (next_key m) le, le-leb m.fence (next_key m) past)

    pub step_goes : next_key m < m.fence → step_of e m ≡ gone e m
    step_goes before = rw (le-ltb m.hi (next_key m) le, lt-leb m.fence (next_key m) before)

module _ {e : List ℕ} {m : Sweep} (words : Fits32 e) (s : Sweeping e m) where
  module _ (le : next_key m ≤ m.hi) where
    abbrev v : Sweep
    v = crossed e m

    view : Viewed e m.ranges (next_key m) m.levels (view_of e m)
    view = viewed e words (next_key m) m.levels (omega (arith, s.last)) m.ranges s.ranges

    crossed_sweeping : Sweeping e v
    crossed_sweeping = record {
      points = s.points;
      ranges = view.ready;
      covers = λ j n a b c. view.covers j n a (omega arith) c;
      bound = omega arith;
      last = s.last;
      here = s.here;
    }

    -- Before the first record's docket nothing is to come, and from it on the ranges say the same.
    crossed_looks : (j : ℕ) → lookup (to_come e v) j ≡ lookup (to_come e m) j
    crossed_looks j = by_cases (ltb j (next_key m))
        (λ t.
        let lt = ltb-true j (next_key m) t in
        nothing_before words crossed_sweeping j lt ∙ sym (nothing_before words s j lt))
        (λ t.
        looks_same e (point m.heads) (point m.heads) (ranges_in e m.ranges) (ranges_in e v.ranges) j m.levels
        (λ i lt. decides_same e (point m.heads i) (point m.heads i) (ranges_in e m.ranges i) (ranges_in e v.ranges i) j (λ date. refl)
        (view.says i j lt (ltb-false j (next_key m) t))))

    crossed_stepped : m.fence ≤ next_key m → Stepped e m v
    crossed_stepped past = record {
      sweeping = crossed_sweeping;
      leads = live_same (lookup (to_come e m)) (lookup (to_come e v)) m.from m.hi (λ j a. sym (crossed_looks j));
      fewer = λ _. rw (le-leb m.fence (next_key m) past, lt-leb v.fence (next_key m) (omega (arith, view.past))) (omega arith);
    }

  pub step_stepped : Stepped e m (step_of e m)
  step_stepped = by_cases (ltb m.hi (next_key m))
      (λ t.
      let past = ltb-true m.hi (next_key m) t in
      subst (Stepped e m) (sym (step_none e m past)) (stepped_none words s past))
      (λ t.
      let le = ltb-false m.hi (next_key m) t in
      by_cases (leb m.fence (next_key m))
      (λ u.
      let past = leb-true m.fence (next_key m) u in
      subst (Stepped e m) (sym (step_crosses e m le past)) (crossed_stepped le past))
      (λ u. subst (Stepped e m) (sym (step_goes e m le (leb-false m.fence (next_key m) u))) (gone_stepped words s le)))
