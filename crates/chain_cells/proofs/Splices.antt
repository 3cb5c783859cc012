-- A step of a splice: the cursor passes a cell of the lower chain, or the first upper cell is placed before it; and a splice's beginning and end.
use mathlib.Core.Path.{◌≡◌, refl, sym, ap, subst, ◌∙◌}
use mathlib.Core.Logic.{◌≢◌, ◌⊎◌, inl, inr}
use mathlib.Core.List.{List, [], ◌∷◌, ◌++◌, append_assoc}
use Prim.Native.Nat.{ℕ, ◌+◌, ◌<◌, ◌≤◌}
use native.Mathlib.Omega.{arith}
use lib.ListN.{length}
use borrow.Author.Tests.{lt-ltb, le-ltb}
use Rattle.lists.specs.Lists.{merge}
use Rattle.lists.specs.All.{Exists}
use Rattle.tables.specs.Slots.{InTable, next_of}
use Rattle.tables.specs.Sound.{chain_from, order_key}
use Rattle.tables.specs.Placed.{Cell, head}
use Rattle.chain_links.specs.Links.{linked}
use Rattle.chain_cells.specs.Cells.{cell_key, cell_before}
use Rattle.chain_cells.specs.Held.{Held}
use Rattle.chain_cells.specs.Splicing.{Chains, TwoHeld, Spliced, Splice, SpliceAt, Splicing, to_do}
use Rattle.chain_cells.specs.declared.Pair.{Pair}
use Rattle.chain_cells.proofs.Cuts.{cut, linked_after}
use Rattle.chain_cells.proofs.Laws.{moved, passed, swapped, no_chain}
use Rattle.chain_cells.proofs.Reading.{last_zero, last_append, place_in_table, place_small, prior_in_table, place_length, place_cell, place_next}

-- Which of two chains' first cells a merge takes.
pub merge_nothing : (xs : List Cell) → merge cell_before xs [] ≡ xs
unfolding merge
merge_nothing [] = refl
merge_nothing (x ∷ xs) = refl

merge_upper : (x y : Cell) (xs ys : List Cell) → cell_key x < cell_key y → merge cell_before (x ∷ xs) (y ∷ ys) ≡ x ∷ merge cell_before xs (y ∷ ys)
unfolding merge
merge_upper x y xs ys h = rw (lt-ltb (cell_key x) (cell_key y) h)

merge_lower : (x y : Cell) (xs ys : List Cell) → cell_key y ≤ cell_key x → merge cell_before (x ∷ xs) (y ∷ ys) ≡ y ∷ merge cell_before (x ∷ xs) ys
unfolding merge
merge_lower x y xs ys h = rw (le-ltb (cell_key x) (cell_key y) h)

module _ (g : Splice) (e : List ℕ) (m : Pair) (upper done left : List Cell) (w : SpliceAt g e m upper done left) where
  upper_first : Held g.slots g.clock g.free (upper ∷ (done ++ left) ∷ g.others) e
  upper_first = swapped g.slots g.clock g.free (done ++ left) upper g.others e w.held

  to_do_is : to_do e m ≡ length upper + length left
  to_do_is =
      let u : length (chain_from e m.upper) ≡ length upper =
      ap (λ (s : ℕ). length (chain_from e s)) w.upper_is
      ∙ place_length g.slots g.clock g.free [] upper ((done ++ left) ∷ g.others) e upper_first in
      let l : length (chain_from e m.at) ≡ length left =
      ap (λ (s : ℕ). length (chain_from e s)) w.at_is ∙ place_length g.slots g.clock g.free done left (upper ∷ g.others) e w.held in
      omega arith

-- What the code needs to know of the slots on its way.
pub record PairFits (e : List ℕ) (m : Pair) : Type 0 where
  pub upper_in_table : InTable e m.upper
  pub upper_small : m.upper < 65536
  pub at_in_table : InTable e m.at
  pub at_small : m.at < 65536
  pub before_in_table : InTable e m.prior

pub pair_fits : (e : List ℕ) (m : Pair) → Exists (λ g. Splicing g e m) → PairFits e m
pair_fits e m x =
    let g : Splice = x.value in
    let w : Splicing g e m = x.has in
    let others : List (List Cell) = w.upper ∷ g.others in
    let lower : List (List Cell) = (w.done ++ w.left) ∷ g.others in
    let first = upper_first g e m w.upper w.done w.left w.here in
    record {
      upper_in_table = omega (arith, w.here.upper_is, place_in_table g.slots g.clock g.free [] w.upper lower e first);
      upper_small = omega (arith, w.here.upper_is, place_small g.slots g.clock g.free [] w.upper lower e first);
      at_in_table = omega (arith, w.here.at_is, place_in_table g.slots g.clock g.free w.done w.left others e w.here.held);
      at_small = omega (arith, w.here.at_is, place_small g.slots g.clock g.free w.done w.left others e w.here.held);
      before_in_table = omega (arith, w.here.prior_is, prior_in_table g.slots g.clock g.free w.done w.left others e w.here.held);
    }

-- One step of the splice, which leaves less to do.
abbrev pub Splices : Splice → List ℕ → Pair → List ℕ → Pair → Type 0
Splices g e m e' m' = Splicing g e' m' × (to_do e' m' < to_do e m)

stepped : (g : Splice) (e e' : List ℕ) (m m' : Pair) (upper upper' done done' left left' : List Cell) → SpliceAt g e m upper done left
    → SpliceAt g e' m' upper' done' left'
    → length upper' + length left' < length upper + length left → Splices g e m e' m'
stepped g e e' m m' upper upper' done done' left left' w w' less = (
  record { upper = upper'; done = done'; left = left'; here = w' },
  omega (arith, to_do_is g e m upper done left w, to_do_is g e' m' upper' done' left' w'),
)

-- The upper cell comes first: no cell is left of the lower chain, or only greater ones.
abbrev pub Comes : List ℕ → Pair → Type 0
Comes e m = (m.at ≡ 0) ⊎ (order_key e m.upper < order_key e m.at)

module _ (g : Splice) (e : List ℕ) (m : Pair) where
  -- The table's keys are those of the cells.
  upper_key : (x : Cell) (xs done left : List Cell) → SpliceAt g e m (x ∷ xs) done left → order_key e m.upper ≡ cell_key x
  upper_key x xs done left w =
      let first = upper_first g e m (x ∷ xs) done left w in
      ap (order_key e) w.upper_is
      ∙ ap (λ (c : Cell). cell_key c) (place_cell g.slots g.clock g.free [] x xs ((done ++ left) ∷ g.others) e first)

  lower_key : (upper done : List Cell) (y : Cell) (ys : List Cell) → SpliceAt g e m upper done (y ∷ ys) → order_key e m.at ≡ cell_key y
  lower_key upper done y ys w =
      ap (order_key e) w.at_is ∙ ap (λ (c : Cell). cell_key c) (place_cell g.slots g.clock g.free done y ys (upper ∷ g.others) e w.held)

  -- So the merge takes the upper cell.
  comes_first : (x : Cell) (xs done left : List Cell) → SpliceAt g e m (x ∷ xs) done left → Comes e m
      → merge cell_before (x ∷ xs) left ≡ x ∷ merge cell_before xs left
  comes_first x xs done [] w k = merge_nothing (x ∷ xs) ∙ ap (◌∷◌ x) (sym (merge_nothing xs))
  comes_first x xs done (y ∷ ys) w (inl z) =
      absurd (omega (arith, w.at_is, (cut g.slots g.clock g.free done (y ∷ ys) ((x ∷ xs) ∷ g.others) e w.held).each.1.0.0))
  comes_first x xs done (y ∷ ys) w (inr l) = merge_upper x y xs ys (omega (arith, upper_key x xs done (y ∷ ys) w, lower_key (x ∷ xs) done y ys w))

  -- The cursor passes a cell that comes before the upper one.
  pub splice_passes : (next : ℕ) → next ≡ next_of e m.at → m.at ≢ 0 → m.upper ≢ 0 → order_key e m.at ≤ order_key e m.upper
      → (upper done left : List Cell) → SpliceAt g e m upper done left → Splices g e m e (record { upper = m.upper; head = m.head; prior = m.at; at = next })
  splice_passes next next≡ some nz le [] done left w = absurd (nz w.upper_is)
  splice_passes next next≡ some nz le (x ∷ xs) done [] w = absurd (some w.at_is)
  splice_passes next next≡ some nz le (x ∷ xs) done (y ∷ ys) w =
      let over : (zs : List Cell) → (done ++ y ∷ []) ++ zs ≡ done ++ y ∷ zs = append_assoc done (y ∷ []) in
      let first : merge cell_before (x ∷ xs) (y ∷ ys) ≡ y ∷ merge cell_before (x ∷ xs) ys =
      merge_lower x y xs ys (omega (arith, upper_key x xs done (y ∷ ys) w, lower_key (x ∷ xs) done y ys w)) in
      stepped g e e m (record { upper = m.upper; head = m.head; prior = m.at; at = next }) (x ∷ xs) (x ∷ xs) done (done ++ y ∷ []) (y ∷ ys) ys w
      (record {
        held = passed g.slots g.clock g.free done y ys ((x ∷ xs) ∷ g.others) e w.held;
        upper_is = w.upper_is;
        head_is = w.head_is ∙ ap head (sym (over ys));
        prior_is = w.at_is ∙ sym (last_append 0 done y);
        at_is = next≡ ∙ ap (next_of e) w.at_is ∙ place_next g.slots g.clock g.free done y ys ((x ∷ xs) ∷ g.others) e w.held;
        merges = over (merge cell_before (x ∷ xs) ys) ∙ ap (λ (cs : List Cell). done ++ cs) (sym first) ∙ w.merges;
      })
      (omega arith)

  module _ (e' : List ℕ) (next : ℕ) (next≡ : next ≡ next_of e m.upper) (nz : m.upper ≢ 0) (comes : Comes e m) where
    -- The upper cell is placed: it is linked to the cursor's, and what stands before it to it.
    places : (first : ℕ) (x : Cell) (xs done left : List Cell) → SpliceAt g e m (x ∷ xs) done left
        → e' ≡ linked_after done x.slot (linked e x.slot (head left))
        → first ≡ head (done ++ x ∷ left) → Splices g e m e' (record { upper = next; head = first; prior = m.upper; at = m.at })
    places first x xs done left w table≡ head≡ =
        let over : (zs : List Cell) → (done ++ x ∷ []) ++ zs ≡ done ++ x ∷ zs = append_assoc done (x ∷ []) in
        stepped g e e' m (record { upper = next; head = first; prior = m.upper; at = m.at }) (x ∷ xs) xs done (done ++ x ∷ []) left left w
        (record {
          held = passed g.slots g.clock g.free done x left (xs ∷ g.others) e'
              (subst (Held g.slots g.clock g.free ((done ++ x ∷ left) ∷ xs ∷ g.others)) (sym table≡)
              (moved g.slots g.clock g.free done left x xs g.others e w.held));
          upper_is = next≡ ∙ ap (next_of e) w.upper_is
              ∙ place_next g.slots g.clock g.free [] x xs ((done ++ left) ∷ g.others) e (upper_first g e m (x ∷ xs) done left w);
          head_is = head≡ ∙ ap head (sym (over left));
          prior_is = w.upper_is ∙ sym (last_append 0 done x);
          at_is = w.at_is;
          merges = over (merge cell_before xs left) ∙ ap (λ (cs : List Cell). done ++ cs) (sym (comes_first x xs done left w comes)) ∙ w.merges;
        })
        (omega arith)

    -- Nothing stands before it: it becomes the head.
    pub splice_first : m.prior ≡ 0 → e' ≡ linked e m.upper m.at → (upper done left : List Cell) → SpliceAt g e m upper done left
        → Splices g e m e' (record { upper = next; head = m.upper; prior = m.upper; at = m.at })
    splice_first none table≡ [] done left w = absurd (nz w.upper_is)
    splice_first none table≡ (x ∷ xs) (d ∷ ds) left w =
        let before = (cut g.slots g.clock g.free (d ∷ ds) left ((x ∷ xs) ∷ g.others) e w.held).start in
        absurd (last_zero g.slots e (head left) d ds before (sym w.prior_is ∙ none))
    splice_first none table≡ (x ∷ xs) [] left w =
        places m.upper x xs [] left w (table≡ ∙ ap (λ (s : ℕ). linked e s m.at) w.upper_is ∙ ap (linked e x.slot) w.at_is) w.upper_is

    -- A cell stands before it, and is linked to it.
    pub splice_after : m.prior ≢ 0 → e' ≡ linked (linked e m.upper m.at) m.prior m.upper → (upper done left : List Cell)
        → SpliceAt g e m upper done left
        → Splices g e m e' (record { upper = next; head = m.head; prior = m.upper; at = m.at })
    splice_after some table≡ [] done left w = absurd (nz w.upper_is)
    splice_after some table≡ (x ∷ xs) [] left w = absurd (some w.prior_is)
    splice_after some table≡ (x ∷ xs) (d ∷ ds) left w =
        places m.head x xs (d ∷ ds) left w
        (table≡ ∙ ap (λ (s : ℕ). linked (linked e s m.at) m.prior s) w.upper_is
        ∙ ap (λ (s : ℕ). linked (linked e x.slot s) m.prior x.slot) w.at_is
        ∙ ap (λ (s : ℕ). linked (linked e x.slot (head left)) s x.slot) w.prior_is)
        w.head_is

-- What the splice of two chains is to make.
abbrev pub splice_of : Chains → Splice
splice_of g = record { slots = g.slots; clock = g.clock; free = g.free; whole = merge cell_before g.upper g.lower; others = g.others }

module _ (g : Chains) (e : List ℕ) where
  pub splicing_begins : (upper lower : ℕ) → TwoHeld g e upper lower → Splicing (splice_of g) e (record { upper = upper; head = lower; prior = 0; at = lower })
  splicing_begins upper lower h = record {
    upper = g.upper;
    done = [];
    left = g.lower;
    here = record { held = h.held; upper_is = h.upper_is; head_is = h.lower_is; prior_is = refl; at_is = h.lower_is; merges = refl };
  }

  ends : (m : Pair) (upper done left : List Cell) → SpliceAt (splice_of g) e m upper done left → m.upper ≡ 0 → Spliced g e m.head
  unfolding merge
  ends m (x ∷ xs) done left w z = absurd (omega (arith, w.upper_is, w.held.holds.each.1.1.0.0))
  ends m [] done left w z =
      let whole : Held g.slots g.clock g.free ((done ++ left) ∷ g.others) e =
      no_chain g.slots g.clock g.free ((done ++ left) ∷ g.others) e
      (swapped g.slots g.clock g.free (done ++ left) [] g.others e w.held) in
      record {
        held = subst (λ (cs : List Cell). Held g.slots g.clock g.free (cs ∷ g.others) e) w.merges whole;
        head_is = w.head_is ∙ ap head w.merges;
      }

  pub splicing_ends : (m : Pair) → Splicing (splice_of g) e m → m.upper ≡ 0 → Spliced g e m.head
  splicing_ends m w = ends m w.upper w.done w.left w.here
