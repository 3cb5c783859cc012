-- `set_row`: its stores are those of `set_row`.
use mathlib.Core.Path.{refl}
use Rattle.tables.specs.Rows.{set_row}
use Rattle.table_levels.proofs.set_row.Goals as goal

pub returns : goal.returns
unfolding set_row
returns c =
    refl
