-- Tables that are not refused have a level table that fits.
use Rattle.std.proofs.Common.{◌≡◌, true, List, ℕ}
use lib.ListN.{length}
use borrow.Author.Tests.{eq-eqb}
use Rattle.tables.specs.Rows.{level_length, settings_of}
use Rattle.tables.specs.Sound.{levels_fit, table_refusal}
use Rattle.tables.proofs.SoundWords.{sound_facts}

pub sound_fits : (e l : List ℕ) → table_refusal e l ≡ 0 → levels_fit l ≡ true
unfolding levels_fit
sound_fits e l h =
    let f = sound_facts e l h in
    rw (eq-eqb (length l) (level_length (settings_of l).deepest) f.length_levels, f.settings_ok)
