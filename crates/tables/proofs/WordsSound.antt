-- The words of a formed state are sound: each sentence of the test holds of the rows that its records write.
use mathlib.Core.Path.{◌≡◌, refl, ap, ◌∙◌}
use mathlib.Core.Bool.{true, false, ◌&&◌, ◌||◌, not}
use mathlib.Core.List.{List, [], ◌∷◌, map}
use Prim.Native.Nat.{ℕ, ◌+◌, ◌*◌, ◌/◌, ◌<◌, ◌≤◌}
use native.Mathlib.Omega.{arith}
use lib.Dec.{eqb, leb, ltb}
use borrow.Author.Tests.{eqb-true, eq-eqb, ne_eqb, le-leb, ltb-true}
use Rattle.lists.specs.All.{All, Ascending}
use Rattle.lists.proofs.Bools.{and_left, and_right, and_intro, or_left, or_right, by_cases, or_second}
use Rattle.lists.proofs.Tests.{all_weaken}
use Rattle.settings.specs.Limits.{within}
use Rattle.settings.proofs.Allowed.{within-true}
use Rattle.model.specs.declared.Tally.{Tally}
use Rattle.model.specs.Records.{Entry, value, tombstone, Point, Range}
use Rattle.model.specs.Merge.{point_before, range_before}
use Rattle.tables.specs.Slots.{Slot, slot_at, kind_of, span_of, lo_of, hi_of, tally_of, stamp_of, dated, clock_of}
use Rattle.tables.specs.Sound.{is_untallied, is_free, is_point, is_range, order_key, ascend, is_stamped, owed_before}
use Rattle.tables.specs.Placed.{Cell, free_cell, entry_kind, entry_tally, point_cell, range_cell, head, cell_slot}
use Rattle.tables.proofs.Slots.{is_untallied_by}
use Rattle.tables.proofs.Cells.{Chained, cell_slots}
use Rattle.tables.proofs.Reading.{head_small}

-- What a row of a cell reads as.
module _ (e : List ℕ) (n next : ℕ) (c : Cell) (small : n < 65536) (below : next ≤ n) (row : slot_at e c.slot ≡ cell_slot next c) where
  cell_kind : kind_of e c.slot ≡ c.kind
  cell_kind = ap (λ (r : Slot). r.link / 65536) row ∙ omega arith

  cell_span : span_of e c.slot ≡ c.span
  cell_span = ap (λ (r : Slot). r.span) row

  cell_tally : tally_of e c.slot ≡ c.tally
  cell_tally = ap (λ (r : Slot). r.tally) row

  cell_stamp : stamp_of e c.slot ≡ c.stamp
  cell_stamp = ap (λ (r : Slot). r.stamp) row

module _ (n : ℕ) (e : List ℕ) (small : n < 65536) where
  -- What holds of every cell's row holds along the chain.
  pub chained_all : {X : Type 0} (cell : X → Cell) (P : ℕ → Type 0) (Q : X → Type 0)
      → ((x : X) (next : ℕ) → next ≤ n → Q x → slot_at e (cell x).slot ≡ cell_slot next (cell x) → P (cell x).slot)
      → (xs : List X) → All Q xs → Chained n e (map cell xs) → All P (cell_slots (map cell xs))
  chained_all cell P Q h [] q c = tt
  chained_all cell P Q h (x ∷ xs) q c = (h x (head (map cell xs)) (head_small n e (map cell xs) c.3) q.0 c.2, chained_all cell P Q h xs q.1 c.3)

  pub free_form : (s next : ℕ) → next ≤ n → slot_at e s ≡ cell_slot next (free_cell s) → is_free e s ≡ true
  free_form s next b row =
      rw (
        eq-eqb (kind_of e s) 0 (cell_kind e n next (free_cell s) small b row),
        eq-eqb (span_of e s) 0 (cell_span e n next (free_cell s) small b row),
        is_untallied_by e s (cell_tally e n next (free_cell s) small b row),
        eq-eqb (stamp_of e s) 0 (cell_stamp e n next (free_cell s) small b row),
      )

  pub point_form : (p : Point ℕ Tally) (next : ℕ) → next ≤ n → p.key ≤ 65535 → slot_at e p.slot ≡ cell_slot next (point_cell p) → is_point e p.slot ≡ true
  point_form p next b k row =
      let w1≡ : span_of e p.slot ≡ p.key + 65536 * p.key = cell_span e n next (point_cell p) small b row in
      let kind≡ = cell_kind e n next (point_cell p) small b row in
      let tally≡ = cell_tally e n next (point_cell p) small b row in
      and_intro (eqb (lo_of e p.slot) (hi_of e p.slot)) _ (eq-eqb (lo_of e p.slot) (hi_of e p.slot) (omega arith)) (kinds p.entry kind≡ tally≡)
    where
      kinds : (x : Entry Tally) → kind_of e p.slot ≡ entry_kind x → tally_of e p.slot ≡ entry_tally x
          → eqb (kind_of e p.slot) 1 || (eqb (kind_of e p.slot) 2 && is_untallied e p.slot) ≡ true
      kinds (value a) q t = rw q
      kinds tombstone q t = rw (q, is_untallied_by e p.slot t)

  pub range_form : (r : Range ℕ) (next : ℕ) → next ≤ n → ((r.lo ≤ r.hi) × (r.hi ≤ 65535)) × ((1 ≤ r.date) × (r.date ≤ r.stamp)) → slot_at e r.slot ≡ cell_slot next (range_cell r)
      → is_range e r.slot ≡ true
  range_form r next b k row =
      let w1≡ : span_of e r.slot ≡ r.lo + 65536 * r.hi = cell_span e n next (range_cell r) small b row in
      let kind≡ = cell_kind e n next (range_cell r) small b row in
      let tally≡ : tally_of e r.slot ≡ dated r.date = cell_tally e n next (range_cell r) small b row in
      let stamp≡ : stamp_of e r.slot ≡ r.stamp = cell_stamp e n next (range_cell r) small b row in
      rw (le-leb (lo_of e r.slot) (hi_of e r.slot) (omega (arith, k.0.0, k.0.1)), kind≡, ap (λ (a : Tally). a.count) tally≡, ap (λ (a : Tally). a.price) tally≡, stamp≡)
      (and_intro (within 1 r.date r.stamp) true (within-true 1 r.date r.stamp k.1.0 k.1.1) refl)

  pub stamp_form : (c : Cell) (next : ℕ) → next ≤ n → (1 ≤ c.stamp) × (c.stamp ≤ clock_of e) → slot_at e c.slot ≡ cell_slot next c
      → is_stamped e c.slot ≡ true
  stamp_form c next b k row =
      let s≡ : stamp_of e c.slot ≡ c.stamp = cell_stamp e n next c small b row in
      let stamp = stamp_of e c.slot in
      and_intro (leb 1 stamp) (leb stamp (clock_of e)) (le-leb 1 stamp (omega (arith, k.0))) (le-leb stamp (clock_of e) (omega (arith, k.1)))

  pub owed_form : (c : Cell) (owed next : ℕ) → next ≤ n → (eqb c.kind 1 ≡ false → (1 ≤ owed) × (owed ≤ c.stamp)) → slot_at e c.slot ≡ cell_slot next c
      → owed_before e owed c.slot ≡ true
  owed_form c owed next b k row =
      let k≡ : kind_of e c.slot ≡ c.kind = cell_kind e n next c small b row in
      let s≡ : stamp_of e c.slot ≡ c.stamp = cell_stamp e n next c small b row in
      by_cases (eqb c.kind 1)
      (λ q. or_left (eqb (kind_of e c.slot) 1) _ (ap (λ x. eqb x 1) k≡ ∙ q))
      (λ q. or_right (eqb (kind_of e c.slot) 1) _
      (and_intro (not (eqb owed 0)) (leb owed (stamp_of e c.slot))
      (ap not (ne_eqb owed 0 (omega (arith, (k q).0)))) (le-leb owed (stamp_of e c.slot) (omega (arith, (k q).1)))))

  -- The orders, by key.
  point_key : (p : Point ℕ Tally) (next : ℕ) → next ≤ n → p.key ≤ 65535 → slot_at e p.slot ≡ cell_slot next (point_cell p)
      → order_key e p.slot ≡ p.key * 65536 + p.key
  point_key p next b k row = let w1≡ : span_of e p.slot ≡ p.key + 65536 * p.key = cell_span e n next (point_cell p) small b row in omega arith

  range_key : (r : Range ℕ) (next : ℕ) → next ≤ n → (r.lo ≤ r.hi) × (r.hi ≤ 65535) → slot_at e r.slot ≡ cell_slot next (range_cell r)
      → order_key e r.slot ≡ r.lo * 65536 + r.hi
  range_key r next b k row = let w1≡ : span_of e r.slot ≡ r.lo + 65536 * r.hi = cell_span e n next (range_cell r) small b row in omega (arith, k.0, k.1)

  pub points_order : (ps : List (Point ℕ Tally)) (least : ℕ) → All (λ p. p.key ≤ 65535) ps → Ascending point_before ps
      → All (λ p. least ≤ p.key * 65536 + p.key) ps → Chained n e (map point_cell ps) → ascend e least (cell_slots (map point_cell ps)) ≡ true
  unfolding ascend
  points_order [] least k a m c = refl
  points_order (p ∷ ps) least k a m c =
      let key≡ : order_key e p.slot ≡ p.key * 65536 + p.key =
      point_key p (head (map point_cell ps)) (head_small n e (map point_cell ps) c.3) k.0 c.2 in
      and_intro (leb least (order_key e p.slot)) _ (le-leb least (order_key e p.slot) (omega (arith, m.0)))
      (points_order ps (order_key e p.slot + 1) k.1 a.1 (all_weaken _ _ (λ q h. omega (arith, ltb-true p.key q.key h)) ps a.0) c.3)

  range_above : (r q : Range ℕ) → (r.hi ≤ 65535) → range_before r q ≡ true → r.lo * 65536 + r.hi + 1 ≤ q.lo * 65536 + q.hi
  range_above r q b h = by_cases (ltb r.lo q.lo)
      (λ x. omega (arith, ltb-true r.lo q.lo x))
      (λ x. let y = or_second (ltb r.lo q.lo) (eqb r.lo q.lo && ltb r.hi q.hi) h x in
      let same = eqb-true r.lo q.lo (and_left (eqb r.lo q.lo) (ltb r.hi q.hi) y) in
      omega (arith, same, ltb-true r.hi q.hi (and_right (eqb r.lo q.lo) (ltb r.hi q.hi) y)))

  pub ranges_order : (rs : List (Range ℕ)) (least : ℕ) → All (λ r. (r.lo ≤ r.hi) × (r.hi ≤ 65535)) rs → Ascending range_before rs
      → All (λ r. least ≤ r.lo * 65536 + r.hi) rs → Chained n e (map range_cell rs) → ascend e least (cell_slots (map range_cell rs)) ≡ true
  unfolding ascend
  ranges_order [] least k a m c = refl
  ranges_order (r ∷ rs) least k a m c =
      let key≡ : order_key e r.slot ≡ r.lo * 65536 + r.hi =
      range_key r (head (map range_cell rs)) (head_small n e (map range_cell rs) c.3) k.0 c.2 in
      and_intro (leb least (order_key e r.slot)) _ (le-leb least (order_key e r.slot) (omega (arith, m.0)))
      (ranges_order rs (order_key e r.slot + 1) k.1 a.1 (all_weaken _ _ (λ q h. omega (arith, range_above r q k.0.1 h)) rs a.0) c.3)
