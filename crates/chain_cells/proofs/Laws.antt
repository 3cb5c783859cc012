-- What each change of a table makes of the chains that it holds.
use mathlib.Core.Path.{◌≡◌, refl, sym, ap, subst, ◌∙◌}
use mathlib.Core.List.{List, [], ◌∷◌, ◌++◌, map, append_assoc}
use Prim.Native.Nat.{ℕ}
use native.Mathlib.Omega.{arith}
use lib.ListN.{length}
use Rattle.tables.specs.Slots.{slot_at, with_date as slot-dated}
use Rattle.tables.specs.Placed.{Cell, free_cell, head, cell_slot}
use Rattle.tables.proofs.Cells.{AllChained, times_head, cell_slots}
use Rattle.tables.proofs.Reading.{head_small}
use Rattle.chain_links.specs.Links.{linked, released, stamped}
use Rattle.chain_cells.specs.Cells.{with_date}
use Rattle.chain_cells.specs.Held.{Held, top}
use Rattle.chain_links.proofs.Links.{length-stamped, stamped_other, stamped_same}
use Rattle.chain_cells.proofs.Frames.{Off, all_off, stands, stands_once, SameSlots, still_once, sum_cell, sum_none}
use Rattle.chain_cells.proofs.Cuts.{Cut, cut, join, cut_swap, linked_after, relinked, freed, replaced, shifted}

module _ (n clock : ℕ) (free : List ℕ) where
  -- The cell after some cells goes: its slot is wiped and the first free one, and they are linked to what follows it.
  pub dropped : (done : List Cell) (c : Cell) (cs : List Cell) (others : List (List Cell)) (e : List ℕ) → Held n clock free ((done ++ c ∷ cs) ∷ others) e
      → Held n clock (c.slot ∷ free) ((done ++ cs) ∷ others) (linked_after done (head cs) (released e c.slot))
  dropped done c cs others e h =
      let wiped : Cut n clock (c.slot ∷ free) done c.slot (cs ∷ others) (released e c.slot) =
      freed n clock free done c.slot c cs others e (cut n clock free done (c ∷ cs) others e h) in
      let inside = head_small n (released e c.slot) cs wiped.each.1.0 in
      join n clock (c.slot ∷ free) done cs others (linked_after done (head cs) (released e c.slot))
      (relinked n clock (c.slot ∷ free) done c.slot (head cs) (cs ∷ others) (released e c.slot) inside wiped)

  -- A cell that stays is passed: it is then the last of those before the place.
  pub passed : (done : List Cell) (c : Cell) (cs : List Cell) (others : List (List Cell)) (e : List ℕ) → Held n clock free ((done ++ c ∷ cs) ∷ others) e
      → Held n clock free (((done ++ c ∷ []) ++ cs) ∷ others) e
  passed done c cs others e = subst (λ (k : List Cell). Held n clock free (k ∷ others) e) (sym (append_assoc done (c ∷ []) cs))

  -- The first cell of the second chain comes to stand after some cells of the first.
  pub moved : (done left : List Cell) (x : Cell) (xs : List Cell) (others : List (List Cell)) (e : List ℕ)
      → Held n clock free ((done ++ left) ∷ (x ∷ xs) ∷ others) e
      → Held n clock free ((done ++ x ∷ left) ∷ xs ∷ others) (linked_after done x.slot (linked e x.slot (head left)))
  moved done left x xs others e h =
      let e' : List ℕ = linked e x.slot (head left) in
      let parted : Cut n clock free done (head left) ((x ∷ xs) ∷ left ∷ others) e =
      cut_swap n clock free done (head left) left (x ∷ xs) others e (cut n clock free done left ((x ∷ xs) ∷ others) e h) in
      let placed : Cut n clock free done (head left) ((x ∷ left) ∷ xs ∷ others) e' =
      cut_swap n clock free done (head left) xs (x ∷ left) others e' (shifted n clock free done (head left) x xs left others e parted) in
      join n clock free done (x ∷ left) (xs ∷ others) (linked_after done x.slot e')
      (relinked n clock free done (head left) x.slot ((x ∷ left) ∷ xs ∷ others) e' placed.each.1.0.1 placed)

  -- A cell's row replaced by that of another cell of its slot, linked as before.
  pub rewritten_first : (done : List Cell) (c c' : Cell) (cs : List Cell) (others : List (List Cell)) (e e' : List ℕ)
      → Held n clock free ((done ++ c ∷ cs) ∷ others) e
      → c'.slot ≡ c.slot → length e' ≡ length e → Off c.slot e e' → slot_at e' 0 ≡ slot_at e 0 → slot_at e' c.slot ≡ cell_slot (head cs) c'
      → Held n clock free ((done ++ c' ∷ cs) ∷ others) e'
  rewritten_first done c c' cs others e e' h own len off zero row =
      join n clock free done (c' ∷ cs) others e'
      (subst (λ (k : ℕ). Cut n clock free done k ((c' ∷ cs) ∷ others) e') (sym own)
      (replaced n clock free done c.slot c cs others e (cut n clock free done (c ∷ cs) others e h) c' e' own len off zero row))

  -- The order of the chains is of no account.
  pub rearranged : (cs ds : List (List Cell)) (e : List ℕ) → SameSlots (map free_cell free ∷ cs) (map free_cell free ∷ ds)
      → (AllChained n e cs → AllChained n e ds) → Held n clock free cs e → Held n clock free ds e
  rearranged cs ds e same chained h = record {
    small = h.small;
    holds = record { room = h.holds.room; first = h.holds.first; each = (h.holds.each.0, chained h.holds.each.1) };
    once = still_once n (map free_cell free ∷ cs) (map free_cell free ∷ ds) same h.once;
  }

  pub swapped : (a b : List Cell) (others : List (List Cell)) (e : List ℕ) → Held n clock free (a ∷ b ∷ others) e → Held n clock free (b ∷ a ∷ others) e
  swapped a b others e = rearranged (a ∷ b ∷ others) (b ∷ a ∷ others) e (λ f. omega arith) (λ c. (c.1.0, (c.0, c.1.1)))

  pub third_first : (a b c : List Cell) (others : List (List Cell)) (e : List ℕ) → Held n clock free (a ∷ b ∷ c ∷ others) e
      → Held n clock free (c ∷ a ∷ b ∷ others) e
  third_first a b c others e = rearranged (a ∷ b ∷ c ∷ others) (c ∷ a ∷ b ∷ others) e (λ f. omega arith) (λ k. (k.1.1.0, (k.0, (k.1.0, k.1.1.1))))

  -- An empty chain is no chain.
  pub no_chain : (chains : List (List Cell)) (e : List ℕ) → Held n clock free ([] ∷ chains) e → Held n clock free chains e
  no_chain chains e = rearranged ([] ∷ chains) chains e (λ f. omega (arith, sum_none f)) (λ c. c.1)

  -- The same of a cell of the second chain.
  pub rewritten : (a done : List Cell) (c c' : Cell) (cs : List Cell) (others : List (List Cell)) (e e' : List ℕ)
      → Held n clock free (a ∷ (done ++ c ∷ cs) ∷ others) e
      → c'.slot ≡ c.slot → length e' ≡ length e → Off c.slot e e' → slot_at e' 0 ≡ slot_at e 0 → slot_at e' c.slot ≡ cell_slot (head cs) c'
      → Held n clock free (a ∷ (done ++ c' ∷ cs) ∷ others) e'
  rewritten a done c c' cs others e e' h own len off zero row =
      swapped (done ++ c' ∷ cs) a others e' (rewritten_first done c c' cs (a ∷ others) e e' (swapped a (done ++ c ∷ cs) others e h) own len off zero row)

  pub restamped : (a done : List Cell) (c : Cell) (cs : List Cell) (others : List (List Cell)) (e : List ℕ) (date stamp : ℕ)
      → Held n clock free (a ∷ (done ++ c ∷ cs) ∷ others) e
      → Held n clock free (a ∷ (done ++ with_date date stamp c ∷ cs) ∷ others) (stamped e c.slot date stamp)
  restamped a done c cs others e date stamp h =
      let here : Cut n clock free done c.slot ((c ∷ cs) ∷ a ∷ others) e =
      cut n clock free done (c ∷ cs) (a ∷ others) e (swapped a (done ++ c ∷ cs) others e h) in
      rewritten a done c (with_date date stamp c) cs others e (stamped e c.slot date stamp) h refl (length-stamped e c.slot date stamp)
      (λ u ne nz. stamped_other e c.slot date stamp u ne)
      (stamped_other e c.slot date stamp 0 (omega (arith, here.each.1.0.0)))
      (stamped_same e c.slot date stamp (omega (arith, here.room, here.each.1.0.1)) ∙ ap (slot-dated date stamp) here.each.1.0.2)

-- The first free slot filled: a chain of that one cell.
pub taken : (n clock x : ℕ) (free : List ℕ) (c : Cell) (chains : List (List Cell)) (e e' : List ℕ) → Held n clock (x ∷ free) chains e → c.slot ≡ x
    → length e' ≡ length e
    → slot_at e' 0 ≡ top free clock → slot_at e' x ≡ cell_slot 0 c → Off x e e' → Held n clock free ((c ∷ []) ∷ chains) e'
taken n clock x free c chains e e' h own len zero row off =
    let old : List (List Cell) = map free_cell (x ∷ free) ∷ chains in
    let new : List (List Cell) = map free_cell free ∷ (c ∷ []) ∷ chains in
    let inside = h.holds.each.0 in
    let alone : stands x (map free_cell free ∷ chains) ≡ 0 =
    omega (arith, stands_once n old h.once x, times_head x (cell_slots (map free_cell free))) in
    let stay : AllChained n e' (map free_cell free ∷ chains) =
    all_off n x e e' off (map free_cell free ∷ chains) alone (inside.3, h.holds.each.1) in
    record {
      small = h.small;
      holds = record {
        room = len ∙ h.holds.room;
        first = zero;
        each = (stay.0, ((omega (arith, own, inside.0), omega (arith, own, inside.1), ap (slot_at e') own ∙ row, tt), stay.1));
      };
      once = still_once n old new (λ f. omega (arith, sum_cell f (free_cell x) (map free_cell free), sum_cell f c [], sum_none f, ap f own)) h.once;
    }
