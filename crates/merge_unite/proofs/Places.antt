-- Where two chains of ranges are walked: the upper and the lower range at which they stand.
use mathlib.Core.Path.{◌≡◌, refl, sym, ap, subst, ◌∙◌}
use mathlib.Core.Logic.{◌≢◌}
use mathlib.Core.Bool.{true}
use mathlib.Core.List.{List, [], ◌∷◌, ◌++◌}
use Prim.Native.Nat.{ℕ, zero, suc}
use native.Mathlib.Omega.{arith}
use lib.ListN.{length}
use Rattle.lists.specs.All.{All}
use Rattle.lists.proofs.Tests.{all_weaken}
use Rattle.tables.specs.Slots.{InTable, next_of}
use Rattle.tables.specs.Sound.{chain, chain_from}
use Rattle.tables.specs.Placed.{Cell, head}
use Rattle.chain_cells.specs.Cells.{cell_at, cell_key, cell_before}
use Rattle.chain_cells.specs.Held.{Held}
use Rattle.chain_cells.specs.Order.{CellsOrdered}
use Rattle.chain_cells.specs.Sifting.{sift_of}
use Rattle.chain_cells.specs.Splicing.{Chains}
use Rattle.chain_cells.proofs.Laws.{swapped}
use Rattle.chain_cells.proofs.Reading.{place_in_table, place_length, place_cell, place_next}
use Rattle.chain_cells.proofs.Sieves.{cursor_fits, left-length, cursor_cell}
use Rattle.merge_unite.specs.Uniting.{doubled, lower_chain, Uniting}
use Rattle.merge_unite.specs.declared.Progress.{Progress}
use Rattle.merge_unite.proofs.Spans.{before_other}
use Rattle.merge_unite.proofs.Dates.{Apart}

-- A chain whose head is a slot has a first cell.
pub record First (cs : List Cell) : Type 0 where
  pub cell : Cell
  pub rest : List Cell
  pub is : cs ≡ cell ∷ rest

first_of : (cs : List Cell) → head cs ≢ 0 → First cs
first_of [] nz = absurd (nz refl)
first_of (c ∷ cs) nz = record { cell = c; rest = cs; is = refl }

module _ (g : Chains) (e : List ℕ) (m : Progress) (u : Uniting g e m) where
  pub lower_first : m.cursor.at ≢ 0 → First u.left
  lower_first nz = first_of u.left (λ z. nz (u.sifting.here.at_is ∙ ap head u.left_is ∙ z))

  pub upper_first : m.upper ≢ 0 → First u.ahead
  upper_first nz = first_of u.ahead (λ z. nz (u.upper_is ∙ z))

  pub lower_in_table : InTable e m.cursor.at
  lower_in_table = (cursor_fits e m.cursor (record { value = _; has = u.sifting })).at_in_table

  -- The chains beside the upper one.
  abbrev beside : List (List Cell)
  beside = (u.sifting.done ++ u.sifting.left) ∷ g.others

  -- The upper chain, parted where m stands.
  upper-held : Held g.slots g.clock u.sifting.free ((u.passed ++ u.ahead) ∷ beside) e
  upper-held =
      subst (λ (cs : List Cell). Held g.slots g.clock u.sifting.free (cs ∷ beside) e) u.parts
      (swapped g.slots g.clock u.sifting.free (u.sifting.done ++ u.sifting.left) u.upper g.others e u.sifting.here.held)

  pub upper_in_table : InTable e m.upper
  upper_in_table = omega (arith, u.upper_is, place_in_table g.slots g.clock u.sifting.free u.passed u.ahead beside e upper-held)

  pub upper-length : length (chain_from e m.upper) ≡ length u.ahead
  upper-length =
      ap (λ (s : ℕ). length (chain_from e s)) u.upper_is
      ∙ place_length g.slots g.clock u.sifting.free u.passed u.ahead beside e upper-held

  module _ (c : Cell) (cs : List Cell) (a : u.ahead ≡ c ∷ cs) where
    upper_held_at : Held g.slots g.clock u.sifting.free ((u.passed ++ c ∷ cs) ∷ beside) e
    upper_held_at = subst (λ (ds : List Cell). Held g.slots g.clock u.sifting.free ((u.passed ++ ds) ∷ beside) e) a upper-held

    pub upper_cell : cell_at e m.upper ≡ c
    upper_cell = ap (cell_at e) (u.upper_is ∙ ap head a) ∙ place_cell g.slots g.clock u.sifting.free u.passed c cs beside e upper_held_at

    pub upper_next : next_of e m.upper ≡ head cs
    upper_next = ap (next_of e) (u.upper_is ∙ ap head a) ∙ place_next g.slots g.clock u.sifting.free u.passed c cs beside e upper_held_at

  module _ (x : Cell) (xs : List Cell) (l : u.left ≡ x ∷ xs) where
    pub lower_cell : cell_at e m.cursor.at ≡ x
    lower_cell = cursor_cell (sift_of (doubled g.upper) (lower_chain g u.upper)) e m.cursor u.sifting x xs (u.left_is ∙ l)

    pub left_ordered : CellsOrdered (x ∷ xs)
    left_ordered = subst CellsOrdered l u.lower_ordered

    pub passed_before : All (λ c. All (λ q. cell_before c q ≡ true) (x ∷ xs)) u.passed
    passed_before = subst (λ (qs : List Cell). All (λ c. All (λ q. cell_before c q ≡ true) qs) u.passed) l u.below

    pub passed_apart : Apart x u.passed
    passed_apart =
        all_weaken (λ c. All (λ q. cell_before c q ≡ true) (x ∷ xs)) (λ c. cell_key c ≢ cell_key x)
        (λ c a. before_other c x a.0) u.passed passed_before

-- No chain begins at slot 0.
chain_none : (k : ℕ) (e : List ℕ) → chain k e 0 ≡ []
unfolding chain
chain_none zero e = refl
chain_none (suc k) e = refl

no_cells : (cs : List Cell) → length cs ≡ 0 → cs ≡ []
no_cells [] n = refl
no_cells (c ∷ cs) n = absurd (omega arith)

module _ (g : Chains) (e : List ℕ) (m : Progress) (u : Uniting g e m) where
  pub upper_none : m.upper ≡ 0 → u.ahead ≡ []
  upper_none z = no_cells u.ahead (sym (upper-length g e m u) ∙ ap length (ap (chain_from e) z ∙ chain_none (length e) e))

  pub lower_none : m.cursor.at ≡ 0 → u.left ≡ []
  lower_none z =
      no_cells u.left
      (ap length (sym u.left_is) ∙ sym (left-length (sift_of (doubled g.upper) (lower_chain g u.upper)) e m.cursor u.sifting)
      ∙ ap length (ap (chain_from e) z ∙ chain_none (length e) e))
