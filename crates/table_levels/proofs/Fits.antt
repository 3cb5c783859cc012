-- What the ways out of the test of a level table tell.
use mathlib.Core.Path.{◌≡◌, sym}
use mathlib.Core.Bool.{false, and-true, and-false}
use mathlib.Core.List.{List}
use Prim.Native.Nat.{ℕ, ◌<◌}
use native.Mathlib.Omega.{arith}
use borrow.Author.Tests.{ne_eqb}
use lib.Dec.{eqb}
use lib.ListN.{length}
use Rattle.settings.specs.declared.Settings.{Settings}
use Rattle.std.proofs.Common.{Ok}
use Rattle.settings.specs.Checked.{checked_of}
use Rattle.settings.proofs.Answers.{unaccepted_settings, accepted_settings, accepted_same}
use Rattle.tables.specs.Rows.{row_size, level_length, settings_of}
use Rattle.tables.specs.Sound.{levels_fit}

module _ (l : List ℕ) where
  pub table_short : length l < row_size → false ≡ levels_fit l
  unfolding levels_fit
  table_short h =
      let ne : length l ≡ level_length (settings_of l).deepest → ⊥ = omega arith in
      rw (ne_eqb (length l) (level_length (settings_of l).deepest) ne)

  pub table_refused : ((s : Settings) → checked_of (settings_of l) ≡ Ok s → ⊥) → false ≡ levels_fit l
  unfolding levels_fit
  table_refused q =
      rw (unaccepted_settings (settings_of l) q, and-false (eqb (length l) (level_length (settings_of l).deepest)))

  pub table_accepted : {s : Settings} → checked_of (settings_of l) ≡ Ok s → eqb (length l) (level_length s.deepest) ≡ levels_fit l
  unfolding levels_fit
  table_accepted {s} q =
      rw (accepted_settings (settings_of l) s q, accepted_same (settings_of l) s q)
      (sym (and-true (eqb (length l) (level_length (settings_of l).deepest))))
