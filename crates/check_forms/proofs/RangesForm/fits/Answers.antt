-- `check_forms::Ranges::fits`: a range is no put, so that it is owed.
use Rattle.check_forms.proofs.Asked.{range_asked}
use Rattle.check_forms.proofs.RangesForm.fits.Goals as goal

pub returns : goal.returns
returns c =
    let a = c.args in
    rw (c.is_range.ensures, c.is_next.ensures, c.is_owed.ensures)
    (range_asked a.e.now a.owed a.least a.s)
