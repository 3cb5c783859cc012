-- `scan_sweep::latest_above`: a survey of the levels above, on a copy of the ranges.
use mathlib.Core.Path.{◌≡◌}
use native.Mathlib.Omega.{arith}
use Rattle.scan_fences.specs.Fences.{View, surveyed}
use Rattle.scan_step.specs.Sweeps.{next_key, next_level}
use Rattle.scan_step.proofs.Shown.{above_ready, above_is}
use Rattle.scan_sweep.proofs.latest_above.Goals as goal

-- The facts, each by its clause's name.
named : {A B : Type 0} → A × B → record { ready : A; docket_bound : B }
named p = record { ready = p.0; docket_bound = p.1 }

pub survey-above-requires : goal.survey-above-requires
survey-above-requires c =
    let s = c.requires.sweeping in
    named (rw (c.level_of.ensures, c.key_of.ensures) (above_ready s c.requires.m_bound, omega (arith, s.last, c.requires.m_bound)))

pub returns : goal.returns
returns c =
    let a = c.args in
    let view_is : ◌≡◌ {A = View} (record { ranges = c.survey-above.new.ranges; cover = c.survey-above.result })
    (surveyed a.e.now (next_key a.m) (next_level a.m) a.m.ranges) = rw (c.level_of.ensures, c.key_of.ensures) at c.survey-above.ensures in
    above_is c.requires.sweeping c.requires.m_bound (λ i. (c.shared_slice_known-1.given i).fits) view_is
