-- `lookup_level::look_chains`: a point of the docket decides; where there is none, the latest date of the ranges over it is met, and the deeper levels decide.
use mathlib.Core.Path.{◌≡◌, refl}
use Prim.Native.Nat.{ℕ}
use native.Mathlib.Omega.{arith}
use Rattle.lookup_level.specs.declared.Decided.TheVariants.{Value, Absent, Deeper}
use Rattle.lookup_level.specs.declared.Decided.{Decided}
use Rattle.lookup_level.specs.Answers.{meets, chain_level}
use Rattle.lookup_level.proofs.Answers.{level_by_point, level_deeper}
use Rattle.lookup_level.proofs.look_chains.Goals as goal

-- A point of the docket has decided.
by_point : (d : Decided) (date : ℕ) → ((met : ℕ) → d ≡ Deeper met → ⊥) → meets date d ≡ d
by_point (Value f) date not = refl
by_point Absent date not = refl
by_point (Deeper met) date not = absurd (not met refl)

-- No callee is named, so that a wrong date is refused by what the answer then says.
pub returns-in-Deeper : goal.returns-in-Deeper
returns-in-Deeper c =
    let a = c.args in
    level_deeper (chain_level a.e.now a.points a.ranges) a.docket a.date _ c.find_point.ensures _ _ c.in-Deeper.is
    (omega arith)

pub returns-in_default : goal.returns-in_default
returns-in_default c =
    let a = c.args in
    level_by_point (chain_level a.e.now a.points a.ranges) a.docket a.date _ c.find_point.ensures (by_point _ _ c.in_default.not-Deeper)
