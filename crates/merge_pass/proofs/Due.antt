-- Whether a level is due, as the code finds it out.
use mathlib.Core.Path.{◌≡◌, refl, sym, ap, ◌∙◌}
use mathlib.Core.List.{List}
use Prim.Native.Nat.{ℕ, ◌≤◌, ◌<◌}
use native.Mathlib.Omega.{arith}
use Rattle.settings.specs.declared.Settings.{Settings}
use Rattle.settings.specs.declared.LevelSettings.{LevelSettings}
use Rattle.settings.specs.Carried.{Carried}
use Rattle.model.specs.declared.Tally.{Tally}
use Rattle.model.specs.Records.{Level, level}
use Rattle.model.specs.Steps.{due}
use Rattle.tables.specs.Rows.{Row, level_row}
use Rattle.tables.specs.Placed.{row_of_level}
use Rattle.merge_levels.specs.Laid.{Store, Laid}
use Rattle.merge_pass.specs.Due.{due_row}
use Rattle.merge_levels.proofs.Store.{laid_row, laid_formed}

-- A level's row tells whether the level is due.
row_due : (settings : Settings) (t i : ℕ) (v : Level ℕ Tally) → due_row settings t i (row_of_level v) ≡ due settings t i v
unfolding due
row_due settings t i v = refl

module _ (g : Store) (e l : List ℕ) (laid : Laid g e l) where
  -- What is carried to a level, in the store's settings, tells whether that level is due.
  module _ (at : LevelSettings) (carried : Carried at) (same : g.state.settings ≡ at.settings) where
    pub laid_above : at.level < g.state.settings.deepest
    laid_above = omega (arith, carried.above, ap (λ (s : Settings). s.deepest) same)

    pub laid_due : (t : ℕ) → due_row at.settings t at.level (level_row l at.level) ≡ due g.state.settings t at.level (level at.level g.state)
    laid_due t =
        ap (λ (s : Settings). due_row s t at.level (level_row l at.level)) (sym same)
        ∙ ap (due_row g.state.settings t at.level) (laid_row g e l laid at.level (omega (arith, laid_above)))
        ∙ row_due g.state.settings t at.level (level at.level g.state)

  -- Owed is no later than the clock.
  pub laid_owed : (i : ℕ) → i ≤ g.state.settings.deepest → (level_row l i).owed ≤ g.time
  laid_owed i h = omega (arith, ap (λ (r : Row). r.owed) (laid_row g e l laid i h), (laid_formed g e l laid i).owed_clock)
