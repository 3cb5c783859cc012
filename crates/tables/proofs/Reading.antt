-- A table that holds a state's chains reads as that state.
use mathlib.Core.Path.{◌≡◌, refl, ap, ◌∙◌}
use mathlib.Core.Bool.{cond}
use mathlib.Core.List.{List, [], ◌∷◌, map}
use Prim.Native.Nat.{ℕ, zero, suc, ◌/◌, ◌%◌, ◌<◌, ◌≤◌}
use native.Mathlib.Omega.{arith}
use lib.Dec.{eqb}
use lib.ListN.{length}
use borrow.Author.Tests.{ne_eqb}
use Rattle.lists.specs.All.{All}
use Rattle.model.specs.declared.Tally.{Tally}
use Rattle.model.specs.Records.{Entry, value, tombstone, Point, Range}
use Rattle.tables.specs.Slots.{Slot, slot_at, next_of, kind_of, lo_of, hi_of, tally_of, date_of, stamp_of}
use Rattle.tables.specs.Sound.{chain}
use Rattle.tables.specs.Placed.{Cell, free_cell, point_cell, range_cell, entry_kind, entry_tally, head, read_point, read_range, cell_slot}
use Rattle.tables.proofs.Cells.{Chained, cell_slots}

pub head_small : (n : ℕ) (e : List ℕ) (cs : List Cell) → Chained n e cs → head cs ≤ n
head_small n e [] h = omega arith
head_small n e (c ∷ cs) h = h.1

module _ (n : ℕ) (e : List ℕ) (small : n < 65536) (c : Cell) (cs : List Cell) (h : Chained n e (c ∷ cs)) where
  pub next_at : next_of e c.slot ≡ head cs
  next_at = ap (λ (r : Slot). r.link % 65536) h.2 ∙ omega (arith, head_small n e cs h.3)

  pub kind_at : kind_of e c.slot ≡ c.kind
  kind_at = ap (λ (r : Slot). r.link / 65536) h.2 ∙ omega (arith, head_small n e cs h.3)

-- The chain from a held chain's head is its slots.
pub chain_reads : (n k : ℕ) (e : List ℕ) (cs : List Cell) → n < 65536 → Chained n e cs → length cs ≤ k → chain k e (head cs) ≡ cell_slots cs
unfolding chain
chain_reads n zero e [] sm h le = refl
chain_reads n zero e (c ∷ cs) sm h le = absurd (omega arith)
chain_reads n (suc k) e [] sm h le = refl
chain_reads n (suc k) e (c ∷ cs) sm h le =
    rw (ne_eqb c.slot 0 (omega (arith, h.0)), next_at n e sm c cs h, chain_reads n k e cs sm h.3 (omega arith))

pub free_slots_back : (fs : List ℕ) → cell_slots (map free_cell fs) ≡ fs
free_slots_back [] = refl
free_slots_back (s ∷ fs) = ap (◌∷◌ s) (free_slots_back fs)

entry_back : (x : Entry Tally) → cond (eqb (entry_kind x) 1) (value (entry_tally x)) tombstone ≡ x
entry_back (value a) = refl
entry_back tombstone = refl

module _ (n : ℕ) (e : List ℕ) (small : n < 65536) where
  -- A record's own row, read again.
  point_back : (p : Point ℕ Tally) (cs : List Cell) → p.key ≤ 65535 → Chained n e (point_cell p ∷ cs) → read_point e p.slot ≡ p
  point_back p cs k h =
      let row : slot_at e p.slot ≡ cell_slot (head cs) (point_cell p) = h.2 in
      let key≡ : lo_of e p.slot ≡ p.key = ap (λ (r : Slot). r.span % 65536) row ∙ omega arith in
      let tally≡ : tally_of e p.slot ≡ entry_tally p.entry = ap (λ (r : Slot). r.tally) row in
      let stamp≡ : stamp_of e p.slot ≡ p.stamp = ap (λ (r : Slot). r.stamp) row in
      rw (key≡, kind_at n e small (point_cell p) cs h, tally≡, stamp≡, entry_back p.entry)

  range_back : (r : Range ℕ) (cs : List Cell) → r.lo ≤ r.hi → r.hi ≤ 65535 → Chained n e (range_cell r ∷ cs) → read_range e r.slot ≡ r
  range_back r cs a b h =
      let row : slot_at e r.slot ≡ cell_slot (head cs) (range_cell r) = h.2 in
      let lo≡ : lo_of e r.slot ≡ r.lo = ap (λ (x : Slot). x.span % 65536) row ∙ omega arith in
      let hi≡ : hi_of e r.slot ≡ r.hi = ap (λ (x : Slot). x.span / 65536) row ∙ omega arith in
      let date≡ : date_of e r.slot ≡ r.date = ap (λ (x : Slot). x.tally.count) row in
      let stamp≡ : stamp_of e r.slot ≡ r.stamp = ap (λ (x : Slot). x.stamp) row in
      rw (lo≡, hi≡, date≡, stamp≡)

  pub points_back : (ps : List (Point ℕ Tally)) → All (λ p. p.key ≤ 65535) ps → Chained n e (map point_cell ps)
      → map (read_point e) (cell_slots (map point_cell ps)) ≡ ps
  points_back [] k h = refl
  points_back (p ∷ ps) k h = rw (point_back p (map point_cell ps) k.0 h, points_back ps k.1 h.3)

  pub ranges_back : (rs : List (Range ℕ)) → All (λ r. (r.lo ≤ r.hi) × (r.hi ≤ 65535)) rs → Chained n e (map range_cell rs)
      → map (read_range e) (cell_slots (map range_cell rs)) ≡ rs
  ranges_back [] k h = refl
  ranges_back (r ∷ rs) k h = rw (range_back r (map range_cell rs) k.0.0 k.0.1 h, ranges_back rs k.1 h.3)
