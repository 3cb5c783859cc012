-- A held chain parted at a place, so that the part before it can be linked anew.
use mathlib.Core.Path.{◌≡◌, sym, ap, ◌∙◌}
use mathlib.Core.Logic.{◌≢◌}
use mathlib.Core.List.{List, [], ◌∷◌, ◌++◌, map}
use Prim.Native.Nat.{ℕ, ◌≤◌}
use native.Mathlib.Omega.{arith}
use lib.ListN.{length}
use Rattle.tables.specs.Slots.{entry_length, InTable, Slot, slot_at, free_slot, with_link}
use Rattle.tables.specs.Placed.{Cell, free_cell, head, cell_slot}
use Rattle.tables.proofs.Cells.{Chained, AllChained, cell_slots, chain_slots, times_head}
use Rattle.tables.proofs.Once.{OnceFacts}
use Rattle.tables.proofs.Reading.{head_small}
use Rattle.chain_links.specs.Links.{linked, released}
use Rattle.chain_cells.specs.Cells.{last_from}
use Rattle.chain_cells.specs.Held.{Held, top}
use Rattle.chain_links.proofs.Links.{length-linked, linked_other, length-released, released_other, released_same, released_top}
use Rattle.chain_cells.proofs.Frames.{Off, ChainedTo, chained_to_off, all_off, chain_start, chain_end, chain_whole, last_stands, last_inside}
use Rattle.chain_cells.proofs.Frames.{link_row, relink, stands, stands_once, SameSlots, still_once, sum_append_cells, sum_cell}

-- The cells before the place lead to slot h, and all other chains are whole.
pub record Cut (n clock : ℕ) (free : List ℕ) (done : List Cell) (h : ℕ) (rest : List (List Cell)) (e : List ℕ) : Type 0 where
  pub small : n ≤ 65535
  pub room : length e ≡ entry_length n
  pub first : slot_at e 0 ≡ top free clock
  pub start : ChainedTo n e h done
  pub each : AllChained n e (map free_cell free ∷ rest)
  pub once : OnceFacts n (chain_slots (done ∷ map free_cell free ∷ rest))

module _ (n clock : ℕ) (free : List ℕ) (done left : List Cell) (others : List (List Cell)) (e : List ℕ) where
  abbrev whole_chains : List (List Cell)
  whole_chains = map free_cell free ∷ (done ++ left) ∷ others

  abbrev cut_chains : List (List Cell)
  cut_chains = done ∷ map free_cell free ∷ left ∷ others

  same_slots : SameSlots whole_chains cut_chains
  same_slots f = omega (arith, sum_append_cells f done left)

  pub cut : Held n clock free ((done ++ left) ∷ others) e → Cut n clock free done (head left) (left ∷ others) e
  cut h =
      let whole : Chained n e (done ++ left) = h.holds.each.1.0 in
      let rest : Chained n e left = chain_end n e done left whole in
      record {
        small = h.small;
        room = h.holds.room;
        first = h.holds.first;
        start = chain_start n e done left (head_small n e left rest) whole;
        each = (h.holds.each.0, (rest, h.holds.each.1.1));
        once = still_once n whole_chains cut_chains same_slots h.once;
      }

  pub join : Cut n clock free done (head left) (left ∷ others) e → Held n clock free ((done ++ left) ∷ others) e
  join c = record {
    small = c.small;
    holds = record { room = c.room; first = c.first; each = (c.each.0, (chain_whole n e done left c.start c.each.1.0, c.each.1.1)) };
    once = still_once n cut_chains whole_chains (λ f. sym (same_slots f)) c.once;
  }

-- The order of the other chains is of no account.
pub cut_swap : (n clock : ℕ) (free : List ℕ) (done : List Cell) (h : ℕ) (a b : List Cell) (others : List (List Cell)) (e : List ℕ)
    → Cut n clock free done h (a ∷ b ∷ others) e → Cut n clock free done h (b ∷ a ∷ others) e
cut_swap n clock free done h a b others e c = record {
  small = c.small;
  room = c.room;
  first = c.first;
  start = c.start;
  each = (c.each.0, (c.each.1.1.0, (c.each.1.0, c.each.1.1.1)));
  once = still_once n (done ∷ map free_cell free ∷ a ∷ b ∷ others) (done ∷ map free_cell free ∷ b ∷ a ∷ others) (λ f. omega arith) c.once;
}

-- The last of some cells linked to another slot; where there are none, nothing changes.
abbrev pub linked_after : List Cell → ℕ → List ℕ → List ℕ
linked_after [] h e = e
linked_after (d ∷ ds) h e = linked e (last_from d.slot ds) h

pub relinked : (n clock : ℕ) (free : List ℕ) (done : List Cell) (h h' : ℕ) (rest : List (List Cell)) (e : List ℕ) → h' ≤ n
    → Cut n clock free done h rest e → Cut n clock free done h' rest (linked_after done h' e)
relinked n clock free [] h h' rest e inside c = record { small = c.small; room = c.room; first = c.first; start = inside; each = c.each; once = c.once }
relinked n clock free (d ∷ ds) h h' rest e inside c =
    let s : ℕ = last_from d.slot ds in
    let all : List (List Cell) = map free_cell free ∷ rest in
    let most : (t : ℕ) → stands t ((d ∷ ds) ∷ all) ≤ 1 = stands_once n ((d ∷ ds) ∷ all) c.once in
    let bounds = last_inside n e h d.slot ds c.start.0 c.start.1 c.start.3 in
    record {
      small = c.small;
      room = length-linked e s h' ∙ c.room;
      first = linked_other e s h' 0 (omega (arith, bounds.0)) ∙ c.first;
      start = relink n c.small e c.room h h' inside d ds (λ t. omega (arith, most t)) c.start;
      each = all_off n s e (linked e s h') (λ t ne nz. linked_other e s h' t ne) all (omega (arith, most s, last_stands d.slot ds)) c.each;
      once = c.once;
    }

-- The first cell of the chain after the place: no other cell has its slot, so that a change of its row leaves the others.
module _ (n clock : ℕ) (free : List ℕ) (done : List Cell) (h : ℕ) (x : Cell) (xs : List Cell) (others : List (List Cell)) (e : List ℕ)
    (c : Cut n clock free done h ((x ∷ xs) ∷ others) e) where
  pub first_inside : (1 ≤ x.slot) × (x.slot ≤ n)
  first_inside = (c.each.1.0.0, c.each.1.0.1)

  pub first_in_table : InTable e x.slot
  first_in_table = omega (arith, c.room, first_inside.1)

  pub first_not_zero : x.slot ≢ 0
  first_not_zero q = absurd (omega (arith, first_inside.0))

  stands_alone : stands x.slot (done ∷ map free_cell free ∷ xs ∷ others) ≡ 0
  stands_alone = omega (arith, stands_once n (done ∷ map free_cell free ∷ (x ∷ xs) ∷ others) c.once x.slot, times_head x.slot (cell_slots xs))

  module _ (e' : List ℕ) (off : Off x.slot e e') where
    start_stays : ChainedTo n e' h done
    start_stays = chained_to_off n x.slot e e' off h done (omega (arith, stands_alone)) c.start

    rest_stays : AllChained n e' (map free_cell free ∷ xs ∷ others)
    rest_stays = all_off n x.slot e e' off (map free_cell free ∷ xs ∷ others) (omega (arith, stands_alone)) (c.each.0, (c.each.1.0.3, c.each.1.1))

  -- It is wiped, and becomes the first free slot.
  pub freed : Cut n clock (x.slot ∷ free) done h (xs ∷ others) (released e x.slot)
  freed =
      let s : ℕ = x.slot in
      let off : Off s e (released e s) = released_other e s in
      let stay = rest_stays (released e s) off in
      let wiped≡ : slot_at (released e s) s ≡ cell_slot (head (map free_cell free)) (free_cell s) =
      released_same e s first_in_table first_not_zero ∙ ap (λ (r : Slot). free_slot r.link) c.first ∙ ap free_slot (omega arith) in
      record {
        small = c.small;
        room = length-released e s ∙ c.room;
        first = released_top e s first_in_table first_not_zero ∙ ap (with_link s) c.first;
        start = start_stays (released e s) off;
        each = ((first_inside.0, first_inside.1, wiped≡, stay.0), stay.1);
        once = still_once n (done ∷ map free_cell free ∷ (x ∷ xs) ∷ others) (done ∷ map free_cell (s ∷ free) ∷ xs ∷ others)
            (λ f. omega (arith, sum_cell f x xs, sum_cell f (free_cell s) (map free_cell free))) c.once;
      }

  -- It becomes another cell of the same slot, linked as before, in a table that has its row.
  pub replaced : (x' : Cell) (e' : List ℕ) → x'.slot ≡ x.slot → length e' ≡ length e → Off x.slot e e' → slot_at e' 0 ≡ slot_at e 0
      → slot_at e' x.slot ≡ cell_slot (head xs) x' → Cut n clock free done h ((x' ∷ xs) ∷ others) e'
  replaced x' e' own len off zero row =
      let stay = rest_stays e' off in
      record {
        small = c.small;
        room = len ∙ c.room;
        first = zero ∙ c.first;
        start = start_stays e' off;
        each = (stay.0, ((omega (arith, own, first_inside.0), omega (arith, own, first_inside.1), ap (slot_at e') own ∙ row, stay.1.0), stay.1.1));
        once = still_once n (done ∷ map free_cell free ∷ (x ∷ xs) ∷ others) (done ∷ map free_cell free ∷ (x' ∷ xs) ∷ others)
            (λ f. omega (arith, sum_cell f x xs, sum_cell f x' xs, ap f own)) c.once;
      }

-- The first cell of a chain linked to the first of another: it becomes that chain's first.
pub shifted : (n clock : ℕ) (free : List ℕ) (done : List Cell) (h : ℕ) (x : Cell) (xs ys : List Cell) (others : List (List Cell)) (e : List ℕ)
    → Cut n clock free done h ((x ∷ xs) ∷ ys ∷ others) e → Cut n clock free done h (xs ∷ (x ∷ ys) ∷ others) (linked e x.slot (head ys))
shifted n clock free done h x xs ys others e c =
    let s : ℕ = x.slot in
    let e' : List ℕ = linked e s (head ys) in
    let inside = first_inside n clock free done h x xs (ys ∷ others) e c in
    let off : Off s e e' = λ t ne nz. linked_other e s (head ys) t ne in
    let stay = rest_stays n clock free done h x xs (ys ∷ others) e c e' off in
    let own = c.each.1.0 in
    let to = head_small n e ys c.each.1.1.0 in
    let row : slot_at e' s ≡ cell_slot (head ys) x =
    link_row n c.small e c.room (head xs) (head ys) to x inside.1 (head_small n e xs own.3) own.2 in
    record {
      small = c.small;
      room = length-linked e s (head ys) ∙ c.room;
      first = linked_other e s (head ys) 0 (omega (arith, inside.0)) ∙ c.first;
      start = start_stays n clock free done h x xs (ys ∷ others) e c e' off;
      each = (stay.0, (stay.1.0, ((inside.0, inside.1, row, stay.1.1.0), stay.1.1.1)));
      once = still_once n (done ∷ map free_cell free ∷ (x ∷ xs) ∷ ys ∷ others) (done ∷ map free_cell free ∷ xs ∷ (x ∷ ys) ∷ others)
          (λ f. omega (arith, sum_cell f x xs, sum_cell f x ys)) c.once;
    }
