-- A chain walked up to the first cell that would go.
use mathlib.Core.Path.{◌≡◌, refl, sym, ap, ◌∙◌}
use mathlib.Core.Logic.{◌≢◌}
use mathlib.Core.Bool.{Bool, true, false}
use mathlib.Core.List.{List, [], ◌∷◌, ◌++◌}
use Prim.Native.Nat.{ℕ, ◌<◌}
use native.Mathlib.Omega.{arith}
use lib.ListN.{length}
use Rattle.std.specs.Prelude.{None, Some}
use Rattle.lists.specs.Lists.{select}
use Rattle.tables.specs.Slots.{InTable, next_of}
use Rattle.tables.specs.Sound.{chain_from}
use Rattle.tables.specs.Placed.{Cell, head}
use Rattle.chain_cells.specs.Cells.{cell_at}
use Rattle.chain_cells.specs.Held.{Held}
use Rattle.chain_cells.specs.Sifting.{Chain, OneHeld}
use Rattle.chain_cells.proofs.Cuts.{cut, first_not_zero}
use Rattle.chain_cells.proofs.Laws.{passed}
use Rattle.chain_cells.proofs.Reading.{place_in_table, place_length, place_cell, place_next}
use Rattle.chain_cells.proofs.Sieves.{select-true, select-false}
use Rattle.chain_sieve.specs.Doomed.{first_of}

-- These cells are passed, and these are left from slot `at` on; the first of all that the test selects is among those left.
record WalkAt (test : Cell → Bool) (g : Chain) (e : List ℕ) (at : ℕ) (done left : List Cell) : Type 0 where
  held : Held g.slots g.clock g.free ((done ++ left) ∷ g.others) e
  at_is : at ≡ head left
  selects : first_of (select test left) ≡ first_of (select test g.cells)

pub record Walking (test : Cell → Bool) (g : Chain) (e : List ℕ) (at : ℕ) : Type 0 where
  done : List Cell
  left : List Cell
  here : WalkAt test g e at done left

pub walking_begins : (test : Cell → Bool) (g : Chain) (e : List ℕ) (first : ℕ) → OneHeld g e first → Walking test g e first
walking_begins test g e first h = record { done = []; left = g.cells; here = record { held = h.held; at_is = h.head_is; selects = refl } }

module _ (test : Cell → Bool) (g : Chain) (e : List ℕ) where
  left-length : (at : ℕ) (done left : List Cell) → WalkAt test g e at done left → length (chain_from e at) ≡ length left
  left-length at done left w = ap (λ (s : ℕ). length (chain_from e s)) w.at_is ∙ place_length g.slots g.clock g.free done left g.others e w.held

module _ (test : Cell → Bool) (g : Chain) (e : List ℕ) (at : ℕ) where
  pub walking_in_table : Walking test g e at → InTable e at
  walking_in_table w = omega (arith, w.here.at_is, place_in_table g.slots g.clock g.free w.done w.left g.others e w.here.held)

  cell_here : (done : List Cell) (x : Cell) (xs : List Cell) → WalkAt test g e at done (x ∷ xs) → cell_at e at ≡ x
  cell_here done x xs w = ap (cell_at e) w.at_is ∙ place_cell g.slots g.clock g.free done x xs g.others e w.held

  -- The cell passes the test: it is the first.
  found : at ≢ 0 → test (cell_at e at) ≡ true → (done left : List Cell) → WalkAt test g e at done left → Some at ≡ first_of (select test g.cells)
  found nz goes done [] w = absurd (nz w.at_is)
  found nz goes done (x ∷ xs) w = ap Some w.at_is ∙ ap first_of (sym (select-true test x xs (ap test (sym (cell_here done x xs w)) ∙ goes))) ∙ w.selects

  pub walking_found : at ≢ 0 → test (cell_at e at) ≡ true → Walking test g e at → Some at ≡ first_of (select test g.cells)
  walking_found nz goes w = found nz goes w.done w.left w.here

  -- It does not: the walk goes on.
  goes_on : at ≢ 0 → test (cell_at e at) ≡ false → (done left : List Cell) → WalkAt test g e at done left
      → Walking test g e (next_of e at) × (length (chain_from e (next_of e at)) < length (chain_from e at))
  goes_on nz stays done [] w = absurd (nz w.at_is)
  goes_on nz stays done (x ∷ xs) w =
      let on : WalkAt test g e (next_of e at) (done ++ x ∷ []) xs = record {
        held = passed g.slots g.clock g.free done x xs g.others e w.held;
        at_is = ap (next_of e) w.at_is ∙ place_next g.slots g.clock g.free done x xs g.others e w.held;
        selects = ap first_of (sym (select-false test x xs (ap test (sym (cell_here done x xs w)) ∙ stays))) ∙ w.selects;
      } in
      (record { done = done ++ x ∷ []; left = xs; here = on }, omega (arith, left-length test g e at done (x ∷ xs) w, left-length test g e (next_of e at) (done ++ x ∷ []) xs on))

  pub walking_next : at ≢ 0 → test (cell_at e at) ≡ false → Walking test g e at → Walking test g e (next_of e at) × (length (chain_from e (next_of e at)) < length (chain_from e at))
  walking_next nz stays w = goes_on nz stays w.done w.left w.here

  -- No cell is left, so that none would go.
  ends : at ≡ 0 → (done left : List Cell) → WalkAt test g e at done left → None ≡ first_of (select test g.cells)
  unfolding select
  ends z done [] w = w.selects
  ends z done (x ∷ xs) w =
      absurd (first_not_zero g.slots g.clock g.free done x.slot x xs g.others e (cut g.slots g.clock g.free done (x ∷ xs) g.others e w.held) (sym w.at_is ∙ z))

  pub walking_ends : at ≡ 0 → Walking test g e at → None ≡ first_of (select test g.cells)
  walking_ends z w = ends z w.done w.left w.here
