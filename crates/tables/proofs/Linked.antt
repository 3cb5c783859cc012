-- A chain that ends: its slots follow one another to zero, and rows of the right form are those of the cells that they read as.
use mathlib.Core.Path.{◌≡◌, refl, sym, ap, ◌∙◌}
use mathlib.Core.Logic.{◌≢◌}
use mathlib.Core.Bool.{Bool, true, cond, ◌&&◌, ◌||◌}
use mathlib.Core.List.{List, [], ◌∷◌, map}
use Prim.Native.Nat.{ℕ, zero, suc, ◌<◌, ◌≤◌}
use native.Mathlib.Omega.{arith}
use native.Mathlib.Decide.{ℕ_discrete}
use lib.Dec.{eqb, leb}
use lib.ListN.{length}
use borrow.Author.Tests.{eqb-true, leb-true, eq-eqb, ne_eqb}
use Rattle.lists.specs.All.{All}
use Rattle.settings.specs.Limits.{within}
use Rattle.settings.proofs.Allowed.{within_bounds}
use Rattle.lists.proofs.Bools.{and_left, and_right, and_intro, by_cases, or_second}
use Rattle.tables.specs.Slots.{Slot, slot_at, next_of, kind_of, span_of, lo_of, hi_of, tally_of, price_of, date_of, stamp_of, no_tally, top_slot, first_free, clock_of}
use Rattle.tables.specs.Sound.{chain, is_untallied, is_free, is_point, is_range, top_blank}
use Rattle.tables.specs.Placed.{Cell, free_cell, point_cell, range_cell, head, read_point, read_range, cell_slot}
use Rattle.tables.proofs.Slots.{untallied, is_untallied_by}
use Rattle.tables.proofs.Cells.{Chained}
use Rattle.tables.proofs.Once.{Inside}

-- The slots follow the next words from h and end with zero.
abbrev pub Linked : List ℕ → ℕ → List ℕ → Type 0
Linked e h [] = h ≡ 0
Linked e h (s ∷ ss) = (h ≡ s) × (s ≢ 0) × Linked e (next_of e s) ss

-- A chain shorter than its fuel has ended.
pub chain_linked : (k : ℕ) (e : List ℕ) (h : ℕ) → length (chain k e h) < k → Linked e h (chain k e h)
unfolding chain
chain_linked zero e h l = absurd (omega arith)
chain_linked (suc k) e h l = go (chain_linked k e (next_of e h)) (ℕ_discrete h 0) l
  where
    go : (length (chain k e (next_of e h)) < k → Linked e (next_of e h) (chain k e (next_of e h))) → Dec (h ≡ 0)
        → length (cond (eqb h 0) [] (h ∷ chain k e (next_of e h))) < suc k → Linked e h (cond (eqb h 0) [] (h ∷ chain k e (next_of e h)))
    go ih (yes q) b = rw (eq-eqb h 0 q) q
    go ih (no q) b = rw (ne_eqb h 0 q) (refl, q, ih (omega (arith, rw (ne_eqb h 0 q) at b)))

-- And a linked list is what the chain reads.
pub linked_chain : (ss : List ℕ) (k : ℕ) (e : List ℕ) (h : ℕ) → Linked e h ss → length ss ≤ k → chain k e h ≡ ss
unfolding chain
linked_chain [] zero e h c l = refl
linked_chain [] (suc k) e h c l = rw (eq-eqb h 0 c)
linked_chain (s ∷ ss) zero e h c l = absurd (omega arith)
linked_chain (s ∷ ss) (suc k) e h c l =
    rw (c.0, ne_eqb s 0 c.1, linked_chain ss k e (next_of e s) c.2 (omega arith))

-- The rows of a linked list, where each is its cell's row.
pub linked_chained : (n : ℕ) (e : List ℕ) (cell : ℕ → Cell) → ((s : ℕ) → (cell s).slot ≡ s) → (h : ℕ) (ss : List ℕ) → Linked e h ss → All (Inside n) ss
    → All (λ s. slot_at e s ≡ cell_slot (next_of e s) (cell s)) ss → (Chained n e (map cell ss)) × (head (map cell ss) ≡ h)
linked_chained n e cell own h [] c i r = (tt, sym c)
linked_chained n e cell own h (s ∷ ss) c i r =
    let rest = linked_chained n e cell own (next_of e s) ss c.2 i.1 r.1 in
    ((rw (own s) i.0.0, rw (own s) i.0.1, ap (slot_at e) (own s) ∙ r.0 ∙ ap (λ k. cell_slot k (cell s)) (sym rest.1), rest.0), own s ∙ sym c.0)

-- What the form of a range asks of its slot.
pub record RangeForm (e : List ℕ) (s : ℕ) : Type 0 where
  pub kind : kind_of e s ≡ 3
  pub span : lo_of e s ≤ hi_of e s
  pub date : (1 ≤ date_of e s) × (date_of e s ≤ stamp_of e s)
  pub price : price_of e s ≡ 0

-- Each form is the row of what it reads as.
module _ (e : List ℕ) (s : ℕ) where
  rebuilt : (r : Slot) → (slot_at e s).link ≡ r.link → span_of e s ≡ r.span → tally_of e s ≡ r.tally → stamp_of e s ≡ r.stamp → slot_at e s ≡ r
  rebuilt r a b c d = rw (a, b, c, d)

  pub free_written : is_free e s ≡ true → slot_at e s ≡ cell_slot (next_of e s) (free_cell s)
  free_written h =
      let abc = and_left (eqb (kind_of e s) 0 && eqb (span_of e s) 0 && is_untallied e s) (eqb (stamp_of e s) 0) h in
      let ab = and_left (eqb (kind_of e s) 0 && eqb (span_of e s) 0) (is_untallied e s) abc in
      let k : kind_of e s ≡ 0 = eqb-true (kind_of e s) 0 (and_left (eqb (kind_of e s) 0) (eqb (span_of e s) 0) ab) in
      rebuilt (cell_slot (next_of e s) (free_cell s)) (omega arith)
      (eqb-true (span_of e s) 0 (and_right (eqb (kind_of e s) 0) (eqb (span_of e s) 0) ab))
      (untallied e s (and_right (eqb (kind_of e s) 0 && eqb (span_of e s) 0) (is_untallied e s) abc))
      (eqb-true (stamp_of e s) 0 (and_right (eqb (kind_of e s) 0 && eqb (span_of e s) 0 && is_untallied e s) (eqb (stamp_of e s) 0) h))

  pub point_written : is_point e s ≡ true → slot_at e s ≡ cell_slot (next_of e s) (point_cell (read_point e s))
  point_written h =
      let same : lo_of e s ≡ hi_of e s = eqb-true (lo_of e s) (hi_of e s) (and_left (eqb (lo_of e s) (hi_of e s)) _ h) in
      let kinds = and_right (eqb (lo_of e s) (hi_of e s)) (eqb (kind_of e s) 1 || (eqb (kind_of e s) 2 && is_untallied e s)) h in
      by_cases (eqb (kind_of e s) 1)
      (λ k. let one : kind_of e s ≡ 1 = eqb-true (kind_of e s) 1 k in
      rebuilt (cell_slot (next_of e s) (point_cell (read_point e s))) (rw k (omega arith)) (omega arith) (rw k) refl)
      (λ k. let two = or_second (eqb (kind_of e s) 1) (eqb (kind_of e s) 2 && is_untallied e s) kinds k in
      let kind≡ : kind_of e s ≡ 2 = eqb-true (kind_of e s) 2 (and_left (eqb (kind_of e s) 2) (is_untallied e s) two) in
      let tally≡ : tally_of e s ≡ no_tally = untallied e s (and_right (eqb (kind_of e s) 2) (is_untallied e s) two) in
      rebuilt (cell_slot (next_of e s) (point_cell (read_point e s))) (rw k (omega arith)) (omega arith) (rw k tally≡) refl)

  pub range_parts : is_range e s ≡ true → RangeForm e s
  range_parts h =
      let kind : Bool = eqb (kind_of e s) 3 in
      let date : Bool = within 1 (date_of e s) (stamp_of e s) in
      let forms = and_right (leb (lo_of e s) (hi_of e s)) (kind && date && eqb (price_of e s) 0) h in
      let both = and_left (kind && date) (eqb (price_of e s) 0) forms in
      record {
        kind = eqb-true (kind_of e s) 3 (and_left kind date both);
        span = leb-true (lo_of e s) (hi_of e s) (and_left (leb (lo_of e s) (hi_of e s)) _ h);
        date = within_bounds 1 (date_of e s) (stamp_of e s) (and_right kind date both);
        price = eqb-true (price_of e s) 0 (and_right (kind && date) (eqb (price_of e s) 0) forms);
      }

  pub range_written : is_range e s ≡ true → slot_at e s ≡ cell_slot (next_of e s) (range_cell (read_range e s))
  range_written h =
      let three : kind_of e s ≡ 3 = (range_parts h).kind in
      rebuilt (cell_slot (next_of e s) (range_cell (read_range e s))) (omega arith) (omega arith) (rw (range_parts h).price) refl

-- The words of slot 0 beside the first free slot and the clock are zero.
module _ (e : List ℕ) where
  pub top_written : top_blank e ≡ true → slot_at e 0 ≡ top_slot (first_free e) (clock_of e)
  top_written h =
      rebuilt e 0 (top_slot (first_free e) (clock_of e)) refl refl
      (untallied e 0 (and_left (is_untallied e 0) (eqb (stamp_of e 0) 0) h))
      (eqb-true (stamp_of e 0) 0 (and_right (is_untallied e 0) (eqb (stamp_of e 0) 0) h))

  pub top_form : (first clock : ℕ) → slot_at e 0 ≡ top_slot first clock → top_blank e ≡ true
  top_form first clock h =
      and_intro (is_untallied e 0) (eqb (stamp_of e 0) 0)
      (is_untallied_by e 0 (ap (λ (r : Slot). r.tally) h)) (eq-eqb (stamp_of e 0) 0 (ap (λ (r : Slot). r.stamp) h))
