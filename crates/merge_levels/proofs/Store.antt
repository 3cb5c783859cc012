-- What the two tables of a store tell.
use mathlib.Core.Path.{◌≡◌, ap, ◌∙◌}
use mathlib.Core.List.{List}
use Prim.Native.Nat.{ℕ, ◌<◌, ◌≤◌}
use native.Mathlib.Omega.{arith}
use lib.ListN.{length}
use Rattle.settings.specs.declared.Settings.{Settings}
use Rattle.settings.proofs.Allowed.{Allowed, allowed_bounds}
use Rattle.lists.proofs.Tests.{all_get}
use Rattle.model.specs.Records.{empty, level}
use Rattle.tables.proofs.Rows.{length-level_words, settings_back, level_row_at}
use Rattle.tables.specs.Rows.{level_length, settings_of, level_row}
use Rattle.tables.specs.Placed.{row_of_level}
use Rattle.tables.specs.Formed.{LevelFormed}
use Rattle.tables.proofs.FormedLevels.{empty_formed}
use Rattle.table_levels.specs.declared.Level.{Level}
use Rattle.merge_levels.specs.Laid.{Store, Laid}
use Rattle.table_levels.specs.Levels.{level_at}

module _ (g : Store) (e l : List ℕ) (laid : Laid g e l) where
  -- The level table: its length, its first row, and the rows of the levels.
  pub laid_length : length l ≡ level_length g.state.settings.deepest
  laid_length = ap length laid.levels ∙ omega (arith, length-level_words g.state, laid.formed.size)

  pub laid_settings : settings_of l ≡ g.state.settings
  laid_settings = ap settings_of laid.levels ∙ settings_back g.state

  pub laid_deepest : (settings_of l).deepest ≡ g.state.settings.deepest
  laid_deepest = ap (λ (s : Settings). s.deepest) laid_settings

  -- A level below the deepest that the code has read.
  pub laid_below : (d : ℕ) → d ≡ (settings_of l).deepest → (i : ℕ) → i < d → i < g.state.settings.deepest
  laid_below d is i lt = omega (arith, laid_deepest)

  pub laid_allowed : Allowed g.state.settings
  laid_allowed = allowed_bounds g.state.settings laid.formed.settings_ok

  pub laid_row : (i : ℕ) → i ≤ g.state.settings.deepest → level_row l i ≡ row_of_level (level i g.state)
  laid_row i h = ap (λ ws. level_row ws i) laid.levels ∙ level_row_at g.state i (omega (arith, laid.formed.size))

  -- A level's records are as the clock of the call allows.
  pub laid_formed : (i : ℕ) → LevelFormed g.time (level i g.state)
  laid_formed i = all_get (LevelFormed g.time) g.state.levels i empty laid.formed.levels_ok (empty_formed g.time)

-- What the code has read of a level's row.
module _ (v : Level) (l : List ℕ) (i : ℕ) (read : v ≡ level_at l i) where
  pub held_read : v.held ≡ (level_row l i).held
  held_read = ap (λ (x : Level). x.held) read
