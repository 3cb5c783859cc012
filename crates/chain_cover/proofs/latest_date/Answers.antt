-- `chain_cover::latest_date`: the walk finds the latest date of an ordered chain.
use native.Mathlib.Omega.{arith}
use Rattle.chain_cover.proofs.Dates.{surveyed_latest}
use Rattle.chain_cover.proofs.latest_date.Goals as goal

pub returns : goal.returns
returns c =
    rw c.survey.ensures (surveyed_latest _ (λ i. omega (arith, c.type_inv.e i)) _ _ c.requires.order)
