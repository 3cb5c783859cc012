-- `guontrem::guontrem_scan_counts`: what the scan answers has room in the number.
use Rattle.scan.specs.Scan.{scan_counts_tables}
use Rattle.scan.proofs.Bounds.{counts_low}
use Rattle.guontrem.proofs.Rooms.{packable, packs}
use Rattle.guontrem.proofs.guontrem_scan_counts.Goals as goal

pub pack_scanned-requires : goal.pack_scanned-requires
pack_scanned-requires c =
    let a = c.args in
    packable (scan_counts_tables a.entries.now a.levels.now a.lo a.hi a.rows.now) (counts_low a.entries.now a.levels.now a.lo a.hi a.rows.now) _ _
    c.scan_counts.ensures

pub returns : goal.returns
returns c =
    let a = c.args in
    packs (scan_counts_tables a.entries.now a.levels.now a.lo a.hi a.rows.now) (counts_low a.entries.now a.levels.now a.lo a.hi a.rows.now) _ _
    c.scan_counts.ensures _ c.pack_scanned.ensures
