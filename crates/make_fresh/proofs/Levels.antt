-- The level table of a made store: its length, its settings and its rows.
use mathlib.Core.Path.{◌≡◌, refl, sym, ◌∙◌}
use mathlib.Core.List.{List}
use Prim.Native.Nat.{ℕ, zero, suc, ◌+◌, ◌<◌}
use native.Mathlib.Omega.{arith}
use lib.ListN.{length, get_or, replicate, length-replicate}
use Rattle.settings.specs.declared.Settings.{Settings}
use Rattle.tables.specs.Rows.{level_length, InRows, settings_of, Row, level_row, set_row, no_row}
use Rattle.tables.proofs.Rows.{length-set_row, row_other, row_same, rows_equal, length-level_table, settings_level_table, level_table_at}
use Rattle.make_fresh.specs.Fresh.{made_levels}
use Rattle.make_fresh.proofs.Parts.{Parts, Agree}

abbrev pub row_parts : Parts Row
row_parts = record { at = level_row; put = set_row; has = InRows; put_length = length-set_row; put_same = row_same; put_other = row_other }

get_d_replicate : (n i : ℕ) (r : Row) → get_or (replicate n r) i r ≡ r
get_d_replicate zero i r = refl
get_d_replicate (suc n) zero r = refl
get_d_replicate (suc n) (suc i) r = get_d_replicate n i r

module _ (s : Settings) where
  zeros : length (replicate (s.deepest + 1) no_row) ≡ s.deepest + 1
  zeros = length-replicate (s.deepest + 1) no_row

  pub length-made_levels : length (made_levels s) ≡ level_length s.deepest
  unfolding made_levels
  length-made_levels = length-level_table s (replicate (s.deepest + 1) no_row) ∙ omega (arith, zeros)

  -- "The first row holds L, T, B, D."
  made_levels_settings : settings_of (made_levels s) ≡ s
  unfolding made_levels
  made_levels_settings = settings_level_table s (replicate (s.deepest + 1) no_row)

  -- Every other row is zero.
  pub made_levels_row : (i : ℕ) → i < s.deepest + 1 → level_row (made_levels s) i ≡ no_row
  unfolding made_levels
  made_levels_row i h =
      level_table_at s (replicate (s.deepest + 1) no_row) i no_row (omega (arith, zeros)) ∙ get_d_replicate (s.deepest + 1) i no_row

  pub levels_made : (l : List ℕ) → settings_of l ≡ s → Agree row_parts (made_levels s) (s.deepest + 1) l → l ≡ made_levels s
  levels_made l is a =
      rows_equal (s.deepest + 1) l (made_levels s) (a.size ∙ length-made_levels ∙ omega arith) (length-made_levels ∙ omega arith)
      (is ∙ sym made_levels_settings) a.parts
