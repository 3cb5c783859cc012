-- Which lower cells are doubled, and which dates and stamps the upper ones take, one lower cell at a time.
use mathlib.Core.Path.{◌≡◌, refl, sym, ap, ◌∙◌}
use mathlib.Core.Logic.{◌≢◌}
use mathlib.Core.Bool.{true, false, ◌||◌}
use mathlib.Core.List.{List, [], ◌∷◌, ◌++◌, map}
use Prim.Native.Nat.{ℕ}
use native.Mathlib.Omega.{arith}
use Rattle.lists.specs.Lists.{any}
use Rattle.lists.specs.All.{All}
use Rattle.lists.proofs.Bools.{or_left, or_right, or_false_intro}
use Rattle.lists.proofs.Tests.{append_map}
use Rattle.tables.specs.Placed.{Cell}
use Rattle.chain_cells.specs.Cells.{cell_key, with_date}
use Rattle.merge_unite.specs.Uniting.{same_span, doubled, united_cell, later_cell}
use Rattle.merge_unite.proofs.Spans.{other_span}

-- None of the cells has x's key.
abbrev pub Apart : Cell → List Cell → Type 0
Apart x cs = All (λ c. cell_key c ≢ cell_key x) cs

pub doubled_apart : (x : Cell) (cs : List Cell) → Apart x cs → doubled cs x ≡ false
unfolding any
doubled_apart x [] a = refl
doubled_apart x (c ∷ cs) a = or_false_intro (same_span c x) (doubled cs x) (other_span c x a.0) (doubled_apart x cs a.1)

pub doubled_here : (x : Cell) (passed : List Cell) (c : Cell) (cs : List Cell) → same_span c x ≡ true → doubled (passed ++ c ∷ cs) x ≡ true
unfolding any
doubled_here x [] c cs h = or_left (same_span c x) (doubled cs x) h
doubled_here x (d ∷ ds) c cs h = or_right (same_span d x) (doubled (ds ++ c ∷ cs) x) (doubled_here x ds c cs h)

-- Dates and stamps do not tell whether a cell doubles another.
pub doubled-date : (x : Cell) (passed : List Cell) (c : Cell) (date stamp : ℕ) (cs : List Cell)
    → doubled (passed ++ with_date date stamp c ∷ cs) x ≡ doubled (passed ++ c ∷ cs) x
unfolding any
doubled-date x [] c date stamp cs = refl
doubled-date x (d ∷ ds) c date stamp cs = ap (◌||◌ (same_span d x)) (doubled-date x ds c date stamp cs)

-- A lower cell of another key gives nothing.
later_other : (x : Cell) (xs : List Cell) (c : Cell) → cell_key c ≢ cell_key x → later_cell (x ∷ xs) c ≡ later_cell xs c
unfolding later_cell
later_other x xs c ne = rw (other_span x c (λ q. ne (sym q)))

pub later_apart : (x : Cell) (xs cs : List Cell) → Apart x cs → map (later_cell (x ∷ xs)) cs ≡ map (later_cell xs) cs
later_apart x xs [] a = refl
later_apart x xs (c ∷ cs) a = rw (later_other x xs c a.0, later_apart x xs cs a.1)

later_here : (x : Cell) (xs : List Cell) (c : Cell) → same_span x c ≡ true → later_cell (x ∷ xs) c ≡ later_cell xs (united_cell c x)
unfolding later_cell
later_here x xs c h = rw h

-- What a cell has taken it does not take again.
date_equal : (c : Cell) {date date' stamp stamp' : ℕ} → date ≡ date' → stamp ≡ stamp' → with_date date stamp c ≡ with_date date' stamp' c
date_equal c p q = rw (p, q)

united_twice : (x c : Cell) → united_cell (united_cell c x) x ≡ united_cell c x
united_twice x c = date_equal c (omega arith) (omega arith)

later_again : (x : Cell) (xs : List Cell) (c : Cell) → same_span x c ≡ true → later_cell (x ∷ xs) (united_cell c x) ≡ later_cell xs (united_cell c x)
later_again x xs c h = later_here x xs (united_cell c x) h ∙ ap (later_cell xs) (united_twice x c)

-- Where no lower cell is left the upper ones stay as they are.
pub later_end : (cs : List Cell) → map (later_cell []) cs ≡ cs
unfolding later_cell
later_end [] = refl
later_end (c ∷ cs) = ap (◌∷◌ c) (later_end cs)

-- One cell among others put for another.
map_swap : (f : Cell → Cell) (passed : List Cell) (c d : Cell) (cs : List Cell) → f c ≡ f d → map f (passed ++ c ∷ cs) ≡ map f (passed ++ d ∷ cs)
map_swap f passed c d cs q = append_map f passed (c ∷ cs) ∙ ap (λ (b : Cell). map f passed ++ b ∷ map f cs) q ∙ sym (append_map f passed (d ∷ cs))

-- The cell that x doubles has taken its date and stamp.
module _ (x : Cell) (xs passed : List Cell) (c : Cell) (cs : List Cell) (same : same_span x c ≡ true) where
  -- Beside all the lower cells from x on that makes no difference …
  pub later_took : map (later_cell (x ∷ xs)) (passed ++ united_cell c x ∷ cs) ≡ map (later_cell (x ∷ xs)) (passed ++ c ∷ cs)
  later_took = map_swap (later_cell (x ∷ xs)) passed (united_cell c x) c cs (later_again x xs c same ∙ sym (later_here x xs c same))

  -- … and afterwards x itself makes none.
  pub later_past : Apart x passed → Apart x cs → map (later_cell (x ∷ xs)) (passed ++ united_cell c x ∷ cs) ≡ map (later_cell xs) (passed ++ united_cell c x ∷ cs)
  later_past p q =
      append_map (later_cell (x ∷ xs)) passed (united_cell c x ∷ cs)
      ∙ ap (λ (ds : List Cell). ds ++ later_cell (x ∷ xs) (united_cell c x) ∷ map (later_cell (x ∷ xs)) cs) (later_apart x xs passed p)
      ∙ ap (λ (d : Cell). map (later_cell xs) passed ++ d ∷ map (later_cell (x ∷ xs)) cs) (later_again x xs c same)
      ∙ ap (λ (ds : List Cell). map (later_cell xs) passed ++ later_cell xs (united_cell c x) ∷ ds) (later_apart x xs cs q)
      ∙ sym (append_map (later_cell xs) passed (united_cell c x ∷ cs))
