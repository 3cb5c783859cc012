-- A step of a sieve: the cell at the cursor is passed, or it goes; and a sieve's beginning and end.
use mathlib.Core.Path.{◌≡◌, refl, sym, ap, subst, ◌∙◌}
use mathlib.Core.Logic.{◌≢◌}
use mathlib.Core.Bool.{Bool, true, false, not}
use mathlib.Core.List.{List, [], ◌∷◌, ◌++◌, map, append_assoc, append-nil}
use Prim.Native.Nat.{ℕ, ◌+◌, ◌<◌, ◌≤◌}
use native.Mathlib.Omega.{arith}
use lib.ListN.{length, drop}
use Rattle.lists.specs.Lists.{select, reject}
use Rattle.lists.specs.All.{Exists}
use Rattle.model.specs.Merge.{release}
use Rattle.tables.specs.Slots.{InTable, next_of}
use Rattle.tables.specs.Sound.{chain_from}
use Rattle.tables.specs.Placed.{Cell, head}
use Rattle.tables.proofs.Cells.{cell_slots}
use Rattle.chain_links.specs.Links.{linked, released}
use Rattle.chain_cells.specs.Cells.{cell_at, last_slot}
use Rattle.chain_cells.specs.Held.{Held}
use Rattle.chain_cells.specs.Sifting.{at_start, Sift, SiftAt, Sifting, Sifts, cells_left, left_at, Chain, OneHeld, Sifted, sift_of}
use Rattle.chain_cells.specs.declared.Cursor.{Cursor}
use Rattle.chain_cells.proofs.Cuts.{cut, linked_after}
use Rattle.chain_cells.proofs.Laws.{dropped, passed}
use Rattle.chain_cells.proofs.Reading.{last_zero, last_append, place_in_table, place_small, prior_in_table, few_left, place_cells, place_length, place_cell, place_next}

-- A cell that passes the test is the first selected, and one that does not the first that stays.
module _ {X : Type 0} (t : X → Bool) (x : X) (xs : List X) where
  pub select-true : t x ≡ true → select t (x ∷ xs) ≡ x ∷ select t xs
  unfolding select
  select-true q = rw q

  pub select-false : t x ≡ false → select t (x ∷ xs) ≡ select t xs
  unfolding select
  select-false q = rw q

-- What the code needs to know of a sieve's cursor.
pub record CursorFits (e : List ℕ) (m : Cursor) : Type 0 where
  pub at_in_table : InTable e m.at
  pub at_small : m.at < 65536
  pub prior_in_table : InTable e m.prior
  pub few_gone : m.gone ≤ 65535

pub cursor_fits : (e : List ℕ) (m : Cursor) → Exists (λ g. Sifting g e m) → CursorFits e m
cursor_fits e m x =
    let g : Sift = x.value in
    let w : Sifting g e m = x.has in
    let n : ℕ = g.slots in
    record {
      at_in_table = omega (arith, w.here.at_is, place_in_table n g.clock w.free w.done w.left g.others e w.here.held);
      at_small = omega (arith, w.here.at_is, place_small n g.clock w.free w.done w.left g.others e w.here.held);
      prior_in_table = omega (arith, w.here.prior_is, prior_in_table n g.clock w.free w.done w.left g.others e w.here.held);
      few_gone = omega (arith, w.here.few, w.here.held.small);
    }

-- What is left is what the table says from the cursor on.
module _ (g : Sift) (e : List ℕ) (m : Cursor) (done left : List Cell) (free : List ℕ) (w : SiftAt g e m done left free) where
  cells_left_is : cells_left e m ≡ left
  cells_left_is = ap (λ (s : ℕ). map (cell_at e) (chain_from e s)) w.at_is ∙ place_cells g.slots g.clock free done left g.others e w.held

  left_at_is : left_at e m ≡ length left
  left_at_is = ap (λ (s : ℕ). length (chain_from e s)) w.at_is ∙ place_length g.slots g.clock free done left g.others e w.held

module _ (g : Sift) (e : List ℕ) (m : Cursor) (w : Sifting g e m) where
  left_reads : w.left ≡ cells_left e m
  left_reads = sym (cells_left_is g e m w.done w.left w.free w.here)

  pub left-length : left_at e m ≡ length w.left
  left-length = left_at_is g e m w.done w.left w.free w.here

  pub cursor_cell : (x : Cell) (xs : List Cell) → w.left ≡ x ∷ xs → cell_at e m.at ≡ x
  cursor_cell x xs l =
      ap (cell_at e) (w.here.at_is ∙ ap head l)
      ∙ place_cell g.slots g.clock w.free w.done x xs g.others e
      (subst (λ (cs : List Cell). Held g.slots g.clock w.free ((w.done ++ cs) ∷ g.others) e) l w.here.held)

-- All that was left is left after a step but the first.
pub left_after : (g : Sift) (e e' : List ℕ) (m m' : Cursor) (w : Sifting g e m) (s : Sifts g e m e' m') → s.0.left ≡ drop 1 w.left
left_after g e e' m m' w s = left_reads g e' m' s.0 ∙ s.2 ∙ ap (drop 1) (sym (left_reads g e m w))

stepped : (g : Sift) (e e' : List ℕ) (m m' : Cursor) (done done' : List Cell) (x : Cell) (xs : List Cell) (free free' : List ℕ)
    → SiftAt g e m done (x ∷ xs) free → SiftAt g e' m' done' xs free' → Sifts g e m e' m'
stepped g e e' m m' done done' x xs free free' w w' = (
  record { done = done'; left = xs; free = free'; here = w' },
  omega (arith, left_at_is g e m done (x ∷ xs) free w, left_at_is g e' m' done' xs free' w'),
  cells_left_is g e' m' done' xs free' w' ∙ ap (drop 1) (sym (cells_left_is g e m done (x ∷ xs) free w)),
)

module _ (g : Sift) (e : List ℕ) (m : Cursor) (nz : m.at ≢ 0) (next : ℕ) (next≡ : next ≡ next_of e m.at) where
  -- The code's test is that of the cell, and its next slot that of the cells that follow.
  test_is : (done : List Cell) (x : Cell) (xs : List Cell) (free : List ℕ) → SiftAt g e m done (x ∷ xs) free → g.test x ≡ g.test (cell_at e m.at)
  test_is done x xs free w =
      sym (ap (λ (s : ℕ). g.test (cell_at e s)) w.at_is ∙ ap g.test (place_cell g.slots g.clock free done x xs g.others e w.held))

  next_is : (done : List Cell) (x : Cell) (xs : List Cell) (free : List ℕ) → SiftAt g e m done (x ∷ xs) free → next ≡ head xs
  next_is done x xs free w = next≡ ∙ ap (next_of e) w.at_is ∙ place_next g.slots g.clock free done x xs g.others e w.held

  -- The cell stays: the cursor goes on.
  pub sift_passes : g.test (cell_at e m.at) ≡ false → (done left : List Cell) (free : List ℕ) → SiftAt g e m done left free
      → Sifts g e m e (record { head = m.head; prior = m.at; at = next; gone = m.gone })
  sift_passes stays done [] free w = absurd (nz w.at_is)
  sift_passes stays done (x ∷ xs) free w =
      let over : (ys : List Cell) → (done ++ x ∷ []) ++ ys ≡ done ++ x ∷ ys = append_assoc done (x ∷ []) in
      let stays' : g.test x ≡ false = test_is done x xs free w ∙ stays in
      let gone : select g.test (x ∷ xs) ≡ select g.test xs = select-false g.test x xs stays' in
      let kept : reject g.test (x ∷ xs) ≡ x ∷ reject g.test xs = select-true (λ y. not (g.test y)) x xs (ap not stays') in
      stepped g e e m (record { head = m.head; prior = m.at; at = next; gone = m.gone }) done (done ++ x ∷ []) x xs free free w
      (record {
        held = passed g.slots g.clock free done x xs g.others e w.held;
        head_is = w.head_is ∙ ap head (sym (over xs));
        prior_is = w.at_is ∙ sym (last_append 0 done x);
        at_is = next_is done x xs free w;
        keeps = over (reject g.test xs) ∙ ap (λ (cs : List Cell). done ++ cs) (sym kept) ∙ w.keeps;
        frees = ap (λ (cs : List Cell). release (cell_slots cs) free) (sym gone) ∙ w.frees;
        counts = omega (arith, ap length gone, w.counts);
        few = omega (arith, w.few);
      })

  -- The cell goes: its slot is the first free one, and what stands before it is linked to what follows.
  drops : (e' : List ℕ) (first prior : ℕ) (done : List Cell) (x : Cell) (xs : List Cell) (free : List ℕ) → SiftAt g e m done (x ∷ xs) free
      → g.test (cell_at e m.at) ≡ true
      → e' ≡ linked_after done (head xs) (released e x.slot) → first ≡ head (done ++ xs) → prior ≡ last_slot done
      → Sifts g e m e' (record { head = first; prior = prior; at = next; gone = m.gone + 1 })
  drops e' first prior done x xs free w goes table≡ head≡ prior≡ =
      let goes' : g.test x ≡ true = test_is done x xs free w ∙ goes in
      let gone : select g.test (x ∷ xs) ≡ x ∷ select g.test xs = select-true g.test x xs goes' in
      let kept : reject g.test (x ∷ xs) ≡ reject g.test xs = select-false (λ y. not (g.test y)) x xs (ap not goes') in
      stepped g e e' m (record { head = first; prior = prior; at = next; gone = m.gone + 1 }) done done x xs free (x.slot ∷ free) w
      (record {
        held = subst (Held g.slots g.clock (x.slot ∷ free) ((done ++ xs) ∷ g.others)) (sym table≡)
            (dropped g.slots g.clock free done x xs g.others e w.held);
        head_is = head≡;
        prior_is = prior≡;
        at_is = next_is done x xs free w;
        keeps = ap (λ (cs : List Cell). done ++ cs) (sym kept) ∙ w.keeps;
        frees = ap (λ (cs : List Cell). release (cell_slots cs) free) (sym gone) ∙ w.frees;
        counts = omega (arith, ap length gone, w.counts);
        few = omega (arith, w.few);
      })

  -- Nothing stands before the cell: the chain's head moves.
  pub sift_drops_first : (e' : List ℕ) → g.test (cell_at e m.at) ≡ true → m.prior ≡ 0 → e' ≡ released e m.at
      → (done left : List Cell) (free : List ℕ) → SiftAt g e m done left free
      → Sifts g e m e' (record { head = next; prior = m.prior; at = next; gone = m.gone + 1 })
  sift_drops_first e' goes none table≡ done [] free w = absurd (nz w.at_is)
  sift_drops_first e' goes none table≡ (d ∷ ds) (x ∷ xs) free w =
      let before = (cut g.slots g.clock free (d ∷ ds) (x ∷ xs) g.others e w.held).start in
      absurd (last_zero g.slots e x.slot d ds before (sym w.prior_is ∙ none))
  sift_drops_first e' goes none table≡ [] (x ∷ xs) free w =
      drops e' next m.prior [] x xs free w goes (table≡ ∙ ap (released e) w.at_is) (next_is [] x xs free w) w.prior_is

  -- A cell stands before it, and is linked to what follows.
  pub sift_drops_after : (e' : List ℕ) → g.test (cell_at e m.at) ≡ true → m.prior ≢ 0 → e' ≡ linked (released e m.at) m.prior next
      → (done left : List Cell) (free : List ℕ) → SiftAt g e m done left free
      → Sifts g e m e' (record { head = m.head; prior = m.prior; at = next; gone = m.gone + 1 })
  sift_drops_after e' goes some table≡ done [] free w = absurd (nz w.at_is)
  sift_drops_after e' goes some table≡ [] (x ∷ xs) free w = absurd (some w.prior_is)
  sift_drops_after e' goes some table≡ (d ∷ ds) (x ∷ xs) free w =
      drops e' m.head m.prior (d ∷ ds) x xs free w goes
      (table≡ ∙ ap (λ (s : ℕ). linked (released e s) m.prior next) w.at_is ∙ ap (λ (s : ℕ). linked (released e x.slot) s next) w.prior_is
      ∙ ap (linked (released e x.slot) (last_slot (d ∷ ds))) (next_is (d ∷ ds) x xs free w))
      w.head_is w.prior_is

-- A sieve begins at a chain's head with nothing passed, and has ended where no cell is left.
module _ (t : Cell → Bool) (g : Chain) (e : List ℕ) where
  abbrev pub sifting_begins : (first : ℕ) → OneHeld g e first → Sifting (sift_of t g) e (at_start first)
  sifting_begins first o = record {
    done = [];
    left = g.cells;
    free = g.free;
    here = record {
      held = o.held;
      head_is = o.head_is;
      prior_is = refl;
      at_is = o.head_is;
      keeps = refl;
      frees = refl;
      counts = omega arith;
      few = omega (arith, few_left g.slots g.clock g.free [] g.cells g.others e o.held);
    };
  }

  ends : (m : Cursor) (done left : List Cell) (free : List ℕ) → SiftAt (sift_of t g) e m done left free → m.at ≡ 0 → Sifted t g e m
  unfolding select
  ends m done (x ∷ xs) free w z = absurd (omega (arith, w.at_is, (cut g.slots g.clock free done (x ∷ xs) g.others e w.held).each.1.0.0))
  ends m done [] free w z = record {
    held = rw (← w.keeps, ← w.frees) w.held;
    head_is = w.head_is ∙ ap head w.keeps;
    prior_is = w.prior_is ∙ ap last_slot (sym (append-nil done) ∙ w.keeps);
    at_is = z;
    counts = omega (arith, w.counts);
  }

  pub sifting_ends : (m : Cursor) → Sifting (sift_of t g) e m → m.at ≡ 0 → Sifted t g e m
  sifting_ends m w = ends m w.done w.left w.free w.here
