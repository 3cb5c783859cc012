-- `check_forms::Points::fits`: the tests are the definition's, in another order.
use Rattle.std.proofs.Common.{rules}
use Rattle.check_forms.proofs.Asked.{point_asked}
use Rattle.check_forms.proofs.PointsForm.fits.Goals as goal

pub returns : goal.returns
returns c =
    let asked = point_asked c.args.e.now c.args.owed c.args.least c.args.s in
    search rules
