-- Document 01, "The two tables": the words of the level table.
use Rattle.std.specs.Prelude.{List, [], ◌∷◌, ℕ, ◌+◌, ◌*◌, ◌≤◌, length, get_or, set}
use Rattle.settings.specs.declared.Settings.{Settings}

-- Words a row.
abbrev pub row_size : ℕ
row_size = 4

-- "Level table, 4 × (L + 2) words."
abbrev pub level_length : ℕ → ℕ
level_length deepest = row_size * (deepest + 2)

-- The table has all words of level i's row.
abbrev pub InRows : List ℕ → ℕ → Type 0
InRows l i = row_size * (i + 2) ≤ length l

-- "The first row holds L, T, B, D."
abbrev pub settings_of : List ℕ → Settings
settings_of l = record { deepest = get_or l 0 0; ratio = get_or l 1 0; buffer = get_or l 2 0; term = get_or l 3 0 }

unfoldable pub set_settings : List ℕ → Settings → List ℕ
set_settings l s = set (set (set (set l 0 s.deepest) 1 s.ratio) 2 s.buffer) 3 s.term

-- "Then a row for each level from 0: first point record (kinds 1, 2), first range record (kind 3), number of records, owed."
pub record Row : Type 0 where
  pub points : ℕ
  pub ranges : ℕ
  pub held : ℕ
  pub owed : ℕ

abbrev pub level_row : List ℕ → ℕ → Row
level_row l i = record {
  points = get_or l (row_size * (i + 1)) 0;
  ranges = get_or l (row_size * (i + 1) + 1) 0;
  held = get_or l (row_size * (i + 1) + 2) 0;
  owed = get_or l (row_size * (i + 1) + 3) 0;
}

unfoldable pub set_row : List ℕ → ℕ → Row → List ℕ
set_row l i r =
    set (set (set (set l (row_size * (i + 1)) r.points) (row_size * (i + 1) + 1) r.ranges) (row_size * (i + 1) + 2) r.held) (row_size * (i + 1) + 3) r.owed

-- "All of row i becomes zero."
abbrev pub no_row : Row
no_row = record { points = 0; ranges = 0; held = 0; owed = 0 }

-- Rows one after the other, and the level table of some settings and rows.
unfoldable pub row_words : List Row → List ℕ
row_words [] = []
row_words (r ∷ rs) = r.points ∷ r.ranges ∷ r.held ∷ r.owed ∷ row_words rs

unfoldable pub level_table : Settings → List Row → List ℕ
level_table s rs = s.deepest ∷ s.ratio ∷ s.buffer ∷ s.term ∷ row_words rs
