-- `scan_sweep::advance`: one step past a record is enough, or the search from where it leads arrives where the sweep was to arrive.
use Rattle.scan_step.proofs.Steps.{standing_sweeping, near_leads}
use Rattle.scan_sweep.proofs.Arriving.{advanced_later}
use Rattle.scan_sweep.proofs.advance.Goals as goal

pub search-requires : goal.search-requires
search-requires c =
    rw (c.stand.ensures, c.near-r.ensures) (standing_sweeping (near_leads ((λ i. (c.shared_slice_known-1.given i).fits)) c.requires).0)

pub returns : goal.returns
returns c =
    let a = c.args in
    rw (c.stand-2.ensures, c.search.ensures, c.stand.ensures)
    (advanced_later a.e.now ((λ i. (c.shared_slice_known-1.given i).fits)) a.m c.near-r.ensures c.if-r-eq-ARRIVED.false)
