-- A level's row written is read back, other rows and the settings stay, and level tables with the same settings and rows are equal.
use mathlib.Core.Path.{◌≡◌, refl, sym, ap, ◌∙◌}
use mathlib.Core.Logic.{◌≢◌}
use mathlib.Core.List.{List, [], ◌∷◌, map}
use Prim.Native.Nat.{ℕ, zero, suc, ◌+◌, ◌-◌, ◌*◌, ◌/◌, ◌%◌, ◌<◌, ◌≤◌}
use native.Mathlib.Omega.{arith}
use native.Mathlib.Decide.{ℕ_discrete, dec_lt}
use lib.ListN.{length, get_or, set, length-set, length-map, get_or-map}
use lib.Seq.{lt-length-set, get_or-set_same, get_or-set_other, ext_get_or}
use Rattle.settings.specs.declared.Settings.{Settings}
use Rattle.model.specs.declared.Tally.{Tally}
use Rattle.model.specs.Records.{State, empty}
use Rattle.tables.specs.Rows.{row_size, InRows, settings_of, set_settings, Row, level_row, set_row, no_row, row_words, level_table}
use Rattle.tables.specs.Placed.{row_of_level, level_words}

pub length-set_row : (l : List ℕ) (i : ℕ) (r : Row) → length (set_row l i r) ≡ length l
unfolding set_row
length-set_row l i r = simp length-set

set_row_outside : (l : List ℕ) (i : ℕ) (r : Row) (k : ℕ) → (row_size * (i + 1) ≤ k → k ≤ row_size * (i + 1) + 3 → ⊥) → get_or (set_row l i r) k 0 ≡ get_or l k 0
unfolding set_row
set_row_outside l i r k h =
    let n0 : k ≢ row_size * (i + 1) = λ q. h (omega arith) (omega arith) in
    let n1 : k ≢ row_size * (i + 1) + 1 = λ q. h (omega arith) (omega arith) in
    let n2 : k ≢ row_size * (i + 1) + 2 = λ q. h (omega arith) (omega arith) in
    let n3 : k ≢ row_size * (i + 1) + 3 = λ q. h (omega arith) (omega arith) in
    simp (get_or-set_other, n0, n1, n2, n3)

pub row_other : (l : List ℕ) (i : ℕ) (r : Row) (j : ℕ) → i ≢ j → level_row (set_row l i r) j ≡ level_row l j
row_other l i r j ne = simp (
  set_row_outside l i r (row_size * (j + 1)) (λ a b. ne (omega arith)),
  set_row_outside l i r (row_size * (j + 1) + 1) (λ a b. ne (omega arith)),
  set_row_outside l i r (row_size * (j + 1) + 2) (λ a b. ne (omega arith)),
  set_row_outside l i r (row_size * (j + 1) + 3) (λ a b. ne (omega arith)),
)

pub settings_stay : (l : List ℕ) (i : ℕ) (r : Row) → settings_of (set_row l i r) ≡ settings_of l
settings_stay l i r = simp (
  set_row_outside l i r 0 (λ a b. omega arith),
  set_row_outside l i r 1 (λ a b. omega arith),
  set_row_outside l i r 2 (λ a b. omega arith),
  set_row_outside l i r 3 (λ a b. omega arith),
)

pub row_same : (l : List ℕ) (i : ℕ) (r : Row) → InRows l i → level_row (set_row l i r) i ≡ r
unfolding set_row
row_same l i r h =
    let l0 : row_size * (i + 1) < length l = omega arith in
    let l1 : row_size * (i + 1) + 1 < length l = omega arith in
    let l2 : row_size * (i + 1) + 2 < length l = omega arith in
    let l3 : row_size * (i + 1) + 3 < length l = omega arith in
    let n01 : row_size * (i + 1) ≢ row_size * (i + 1) + 1 = omega arith in
    let n02 : row_size * (i + 1) ≢ row_size * (i + 1) + 2 = omega arith in
    let n03 : row_size * (i + 1) ≢ row_size * (i + 1) + 3 = omega arith in
    let n12 : row_size * (i + 1) + 1 ≢ row_size * (i + 1) + 2 = omega arith in
    let n13 : row_size * (i + 1) + 1 ≢ row_size * (i + 1) + 3 = omega arith in
    let n23 : row_size * (i + 1) + 2 ≢ row_size * (i + 1) + 3 = omega arith in
    simp (get_or-set_other, get_or-set_same, lt-length-set)

-- The settings written are read back.
pub length-set_settings : (l : List ℕ) (s : Settings) → length (set_settings l s) ≡ length l
unfolding set_settings
length-set_settings l s = simp length-set

pub settings_same : (l : List ℕ) (s : Settings) → row_size ≤ length l → settings_of (set_settings l s) ≡ s
unfolding set_settings
settings_same l s h =
    let l0 : 0 < length l = omega arith in
    let l1 : 1 < length l = omega arith in
    let l2 : 2 < length l = omega arith in
    let l3 : 3 < length l = omega arith in
    let n01 : ◌≢◌ {A = ℕ} 0 1 = omega arith in
    let n02 : ◌≢◌ {A = ℕ} 0 2 = omega arith in
    let n03 : ◌≢◌ {A = ℕ} 0 3 = omega arith in
    let n12 : ◌≢◌ {A = ℕ} 1 2 = omega arith in
    let n13 : ◌≢◌ {A = ℕ} 1 3 = omega arith in
    let n23 : ◌≢◌ {A = ℕ} 2 3 = omega arith in
    simp (get_or-set_other, get_or-set_same, lt-length-set)

-- Two level tables of n levels are equal where their settings and rows are.
pub rows_equal : (n : ℕ) (l m : List ℕ) → length l ≡ row_size * (n + 1) → length m ≡ row_size * (n + 1)
    → settings_of l ≡ settings_of m → ((i : ℕ) → i < n → level_row l i ≡ level_row m i) → l ≡ m
rows_equal n l m a b s h = ext_get_or 0 l m (a ∙ sym b) at
  where
    word : {k j : ℕ} → k ≡ j → get_or l j 0 ≡ get_or m j 0 → get_or l k 0 ≡ get_or m k 0
    word q w = rw q w

    first : (k : ℕ) → k < row_size → get_or l k 0 ≡ get_or m k 0
    first k c = go (ℕ_discrete k 0) (ℕ_discrete k 1) (ℕ_discrete k 2)
      where
        go : Dec (k ≡ 0) → Dec (k ≡ 1) → Dec (k ≡ 2) → get_or l k 0 ≡ get_or m k 0
        go (yes q) y z = word q (ap (λ (x : Settings). x.deepest) s)
        go (no q) (yes y) z = word y (ap (λ (x : Settings). x.ratio) s)
        go (no q) (no y) (yes z) = word z (ap (λ (x : Settings). x.buffer) s)
        go (no q) (no y) (no z) = word (omega arith) (ap (λ (x : Settings). x.term) s)

    later : (k : ℕ) → row_size ≤ k → k < length l → get_or l k 0 ≡ get_or m k 0
    later k c d = go (ℕ_discrete (k % row_size) 0) (ℕ_discrete (k % row_size) 1) (ℕ_discrete (k % row_size) 2)
      where
        i : ℕ
        i = k / row_size - 1

        r : level_row l i ≡ level_row m i
        r = h i (omega arith)

        go : Dec (k % row_size ≡ 0) → Dec (k % row_size ≡ 1) → Dec (k % row_size ≡ 2) → get_or l k 0 ≡ get_or m k 0
        go (yes q) y z = word (omega arith) (ap (λ (w : Row). w.points) r)
        go (no q) (yes y) z = word (omega arith) (ap (λ (w : Row). w.ranges) r)
        go (no q) (no y) (yes z) = word (omega arith) (ap (λ (w : Row). w.held) r)
        go (no q) (no y) (no z) = word (omega arith) (ap (λ (w : Row). w.owed) r)

    at : (k : ℕ) → k < length l → get_or l k 0 ≡ get_or m k 0
    at k d = go (dec_lt k row_size)
      where
        go : Dec (k < row_size) → get_or l k 0 ≡ get_or m k 0
        go (yes c) = first k c
        go (no c) = later k (omega arith) d

-- Rows laid one after the other.
pub length-row_words : (rs : List Row) → length (row_words rs) ≡ row_size * length rs
unfolding row_words
length-row_words [] = refl
length-row_words (r ∷ rs) = omega (arith, length-row_words rs)

row_past : (a b c d : ℕ) (ws : List ℕ) (i : ℕ) → level_row (a ∷ b ∷ c ∷ d ∷ ws) (suc i) ≡ level_row ws i
row_past a b c d ws i =
    let q0 : row_size * (suc i + 1) ≡ suc (suc (suc (suc (row_size * (i + 1))))) = omega arith in
    let q1 : row_size * (suc i + 1) + 1 ≡ suc (suc (suc (suc (row_size * (i + 1) + 1)))) = omega arith in
    let q2 : row_size * (suc i + 1) + 2 ≡ suc (suc (suc (suc (row_size * (i + 1) + 2)))) = omega arith in
    let q3 : row_size * (suc i + 1) + 3 ≡ suc (suc (suc (suc (row_size * (i + 1) + 3)))) = omega arith in
    rw (q1, q2, q3, q0)

row_words_at : (a b c d : ℕ) (rs : List Row) (i : ℕ) (e : Row) → i < length rs → level_row (a ∷ b ∷ c ∷ d ∷ row_words rs) i ≡ get_or rs i e
unfolding row_words
row_words_at a b c d [] i e h = absurd (omega arith)
row_words_at a b c d (r ∷ rs) zero e h = refl
row_words_at a b c d (r ∷ rs) (suc i) e h =
    row_past a b c d (r.points ∷ r.ranges ∷ r.held ∷ r.owed ∷ row_words rs) i
    ∙ row_words_at r.points r.ranges r.held r.owed rs i e (omega arith)

-- A level table of some settings and rows.
module _ (s : Settings) (rs : List Row) where
  pub length-level_table : length (level_table s rs) ≡ row_size * (length rs + 1)
  unfolding level_table
  length-level_table = omega (arith, length-row_words rs)

  pub settings_level_table : settings_of (level_table s rs) ≡ s
  unfolding level_table
  settings_level_table = refl

  pub level_table_at : (i : ℕ) (d : Row) → i < length rs → level_row (level_table s rs) i ≡ get_or rs i d
  unfolding level_table
  level_table_at i d h = row_words_at s.deepest s.ratio s.buffer s.term rs i d h

-- A row of the words is written as a row of the list.
pub level_table-set : (s : Settings) (rs : List Row) (k : ℕ) (r : Row) → k < length rs → level_table s (set rs k r) ≡ set_row (level_table s rs) k r
level_table-set s rs k r h =
    rows_equal (length rs) (level_table s (set rs k r)) (set_row (level_table s rs) k r)
    (length-level_table s (set rs k r) ∙ ap (λ m. row_size * (m + 1)) (length-set rs k r))
    (length-set_row (level_table s rs) k r ∙ length-level_table s rs)
    (settings_level_table s (set rs k r) ∙ sym (settings_stay (level_table s rs) k r ∙ settings_level_table s rs))
    (λ i b. at i b (ℕ_discrete i k))
  where
    at : (i : ℕ) → i < length rs → Dec (i ≡ k) → level_row (level_table s (set rs k r)) i ≡ level_row (set_row (level_table s rs) k r) i
    at i b (yes q) =
        level_table_at s (set rs k r) i no_row (omega (arith, length-set rs k r)) ∙ ap (λ t. get_or (set rs k r) t no_row) q ∙ get_or-set_same rs k r no_row h
        ∙ sym (ap (level_row (set_row (level_table s rs) k r)) q ∙ row_same (level_table s rs) k r (omega (arith, length-level_table s rs)))
    at i b (no q) =
        level_table_at s (set rs k r) i no_row (omega (arith, length-set rs k r)) ∙ get_or-set_other rs k i r no_row q
        ∙ sym (row_other (level_table s rs) k r i (λ z. q (sym z)) ∙ level_table_at s rs i no_row b)

-- The level table that a state writes.
module _ (p : State ℕ Tally) where
  pub length-level_words : length (level_words p) ≡ row_size * (length p.levels + 1)
  unfolding level_words
  length-level_words = length-level_table p.settings (map row_of_level p.levels) ∙ omega (arith, length-map p.levels row_of_level)

  pub settings_back : settings_of (level_words p) ≡ p.settings
  unfolding level_words
  settings_back = settings_level_table p.settings (map row_of_level p.levels)

  pub level_row_at : (i : ℕ) → i < length p.levels → level_row (level_words p) i ≡ row_of_level (get_or p.levels i empty)
  unfolding level_words
  level_row_at i h =
      level_table_at p.settings (map row_of_level p.levels) i (row_of_level empty) (omega (arith, length-map p.levels row_of_level))
      ∙ get_or-map row_of_level p.levels i empty
