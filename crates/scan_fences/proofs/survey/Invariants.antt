use mathlib.Core.Path.{◌≡◌}
use mathlib.Core.List.{List}
use Prim.Native.Nat.{ℕ, ◌-◌}
use Rattle.lists.specs.Lists.{iterate}
use Rattle.scan_fences.specs.Fences.{unseen, Survey, survey_level}
use Rattle.scan_fences.proofs.Surveys.{Surveying}
use Rattle.scan_fences.proofs.survey.Given as goal

-- What is known of levels from i on, where v was seen of those above.
pub record Going (e start : List ℕ) (k n i : ℕ) (v : Survey) : Type 0 where
  pub above : Surveying e start k n i v
  pub all : iterate (survey_level e k) i (n - i) v ≡ iterate (survey_level e k) 0 n (record { ranges = start; seen = unseen })

abbrev pub invariant-loop-i : goal.invariant-loop-i
invariant-loop-i l =
    Going l.e l.initial.ranges l.docket l.levels l.i (record { ranges = l.ranges; seen = l.seen })
