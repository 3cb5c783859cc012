-- What a table says of the chains that it holds: their cells, how long they are, and that their slots are in it.
use mathlib.Core.Path.{◌≡◌, refl, ap, ◌∙◌}
use mathlib.Core.List.{List, [], ◌∷◌, ◌++◌, map}
use Prim.Native.Nat.{ℕ, ◌+◌, ◌<◌, ◌≤◌}
use native.Mathlib.Omega.{arith}
use lib.ListN.{length, length-append, length-map}
use Rattle.tables.specs.Slots.{InTable, slot_at, next_of}
use Rattle.tables.specs.Sound.{chain_from}
use Rattle.tables.specs.Placed.{Cell, free_cell, head}
use Rattle.tables.proofs.Cells.{Chained, cell_slots, chain_slots}
use Rattle.tables.proofs.Once.{OnceFacts}
use Rattle.tables.proofs.Reading.{head_small, next_at, kind_at, chain_reads}
use Rattle.chain_cells.specs.Cells.{cell_from, cell_at, last_from, last_slot}
use Rattle.chain_cells.specs.Held.{Held}
use Rattle.chain_cells.proofs.Frames.{ChainedTo, last_inside}
use Rattle.chain_cells.proofs.Cuts.{Cut, cut}

cell_reads : (n : ℕ) (e : List ℕ) → n ≤ 65535 → (c : Cell) (cs : List Cell) → Chained n e (c ∷ cs) → cell_at e c.slot ≡ c
cell_reads n e small c cs h =
    ap (λ (k : ℕ). cell_from c.slot k (slot_at e c.slot)) (kind_at n e (omega arith) c cs h)
    ∙ ap (cell_from c.slot c.kind) h.2

cells_read : (n : ℕ) (e : List ℕ) → n ≤ 65535 → (cs : List Cell) → Chained n e cs → map (cell_at e) (cell_slots cs) ≡ cs
cells_read n e small [] h = refl
cells_read n e small (c ∷ cs) h = rw (cell_reads n e small c cs h, cells_read n e small cs h.3)

-- How many cells chains have.
abbrev pub total : List (List Cell) → ℕ
total [] = 0
total (c ∷ cs) = length c + total cs

total_slots : (cs : List (List Cell)) → length (chain_slots cs) ≡ total cs
total_slots [] = refl
total_slots (c ∷ cs) = omega (arith, length-append (cell_slots c) (chain_slots cs), length-map c (λ (x : Cell). x.slot), total_slots cs)

-- All cells together are as many as the table has slots.
pub all_counted : (n : ℕ) (cs : List (List Cell)) → OnceFacts n (chain_slots cs) → total cs ≡ n
all_counted n cs o = omega (arith, o.number, total_slots cs)

pub last_small : (n : ℕ) (e : List ℕ) (h : ℕ) (cs : List Cell) → ChainedTo n e h cs → last_slot cs ≤ n
last_small n e h [] c = omega arith
last_small n e h (d ∷ ds) c = (last_inside n e h d.slot ds c.0 c.1 c.3).1

-- The slot before a place is 0 only where no cell stands before it.
pub last_zero : (n : ℕ) (e : List ℕ) (h : ℕ) (d : Cell) (ds : List Cell) → ChainedTo n e h (d ∷ ds) → last_slot (d ∷ ds) ≡ 0 → ⊥
last_zero n e h d ds c q = omega (arith, (last_inside n e h d.slot ds c.0 c.1 c.3).0)

pub last_append : (s : ℕ) (done : List Cell) (c : Cell) → last_from s (done ++ c ∷ []) ≡ c.slot
last_append s [] c = refl
last_append s (d ∷ ds) c = last_append d.slot ds c

-- A place in a chain of a held table.
module _ (n clock : ℕ) (free : List ℕ) (done left : List Cell) (others : List (List Cell)) (e : List ℕ)
    (h : Held n clock free ((done ++ left) ∷ others) e) where
  here : Cut n clock free done (head left) (left ∷ others) e
  here = cut n clock free done left others e h

  pub place_in_table : InTable e (head left)
  place_in_table = omega (arith, head_small n e left here.each.1.0, here.room)

  pub place_small : head left < 65536
  place_small = omega (arith, head_small n e left here.each.1.0, here.small)

  pub prior_in_table : InTable e (last_slot done)
  prior_in_table = omega (arith, last_small n e (head left) done here.start, here.room)

  pub few_left : length left ≤ n
  few_left = omega (arith, all_counted n (done ∷ map free_cell free ∷ left ∷ others) here.once)

  pub place_chain : chain_from e (head left) ≡ cell_slots left
  place_chain = chain_reads n (length e) e left (omega (arith, here.small)) here.each.1.0 (omega (arith, few_left, here.room))

  pub place_cells : map (cell_at e) (chain_from e (head left)) ≡ left
  place_cells = ap (map (cell_at e)) place_chain ∙ cells_read n e here.small left here.each.1.0

  pub place_length : length (chain_from e (head left)) ≡ length left
  place_length = ap length place_chain ∙ length-map left (λ (c : Cell). c.slot)

module _ (n clock : ℕ) (free : List ℕ) (done : List Cell) (c : Cell) (cs : List Cell) (others : List (List Cell)) (e : List ℕ)
    (h : Held n clock free ((done ++ c ∷ cs) ∷ others) e) where
  at_place : Chained n e (c ∷ cs)
  at_place = (cut n clock free done (c ∷ cs) others e h).each.1.0

  pub place_cell : cell_at e c.slot ≡ c
  place_cell = cell_reads n e h.small c cs at_place

  pub place_next : next_of e c.slot ≡ head cs
  place_next = next_at n e (omega (arith, h.small)) c cs at_place
