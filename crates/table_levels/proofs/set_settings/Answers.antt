-- `set_settings`: its stores are those of `set_settings`.
use mathlib.Core.Path.{refl}
use Rattle.tables.specs.Rows.{set_settings}
use Rattle.table_levels.proofs.set_settings.Goals as goal

pub returns : goal.returns
unfolding set_settings
returns c =
    refl
