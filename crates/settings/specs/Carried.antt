-- Request S-3, "One power carried down the levels": what the pass has with it at each level.
use Rattle.std.specs.Prelude.{◌≡◌, true, ℕ, ◌+◌, ◌-◌, ◌<◌}
use Rattle.settings.specs.declared.Settings.{Settings}
use Rattle.settings.specs.declared.LevelSettings.{LevelSettings}
use Rattle.settings.specs.Limits.{allowed, power}

-- "the power carried is T^i"; "multiply once" gives T^(i+1), which the limit takes and the level below carries. With them, worked out once, what every limit is divided by.
abbrev pub at_level : Settings → ℕ → LevelSettings
at_level s i = record { settings = s; level = i; power = power s i; below = power s (i + 1); divisor = power s s.deepest - 1 }

-- What is carried is that of its own level, one above L, in settings that are allowed.
pub record Carried (c : LevelSettings) : Type 0 where
  pub settings_ok : allowed c.settings ≡ true
  pub above : c.level < c.settings.deepest
  pub here : c ≡ at_level c.settings c.level
