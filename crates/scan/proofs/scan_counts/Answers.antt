-- `scan::scan_counts`: what the scan leaves in the grower's rows is the scan of the counts.
use mathlib.Core.Path.{◌∙◌}
use Rattle.scan.proofs.Counts.{counts_as}
use Rattle.scan.proofs.scan_counts.Goals as goal

pub returns : goal.returns
returns c =
    let a = c.args in
    c.scan.ensures ∙ counts_as a.entries.now a.levels.now a.lo a.hi a.rows.now
