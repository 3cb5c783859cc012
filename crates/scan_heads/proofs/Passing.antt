-- The first record of the heads is passed: the heads of the levels once more, and its level's point is the next one.
use mathlib.Core.Path.{◌≡◌, refl, sym, ap, ◌∙◌}
use mathlib.Core.Logic.{◌≢◌}
use mathlib.Core.Bool.{cond}
use mathlib.Core.List.{List, [], ◌∷◌}
use Prim.Native.Nat.{ℕ, ◌+◌, ◌<◌, ◌≤◌}
use native.Mathlib.Omega.{arith}
use borrow.Author.Tests.{eqb-true, ltb-true, ltb-false, eq-eqb}
use lib.Dec.{eqb, ltb}
use lib.ListN.{length}
use Rattle.lists.specs.Lists.{sum}
use Rattle.lists.specs.All.{All}
use Rattle.lists.proofs.Bools.{by_cases, cond_elim}
use Rattle.lists.proofs.Tests.{all_both}
use Rattle.tables.specs.Words.{Fits32}
use Rattle.tables.specs.Slots.{next_of}
use Rattle.tables.specs.Sound.{chain_from, ascend}
use Rattle.chain_cover.specs.Walks.{Ordered}
use Rattle.chain_cover.proofs.Chains.{On, chain_end, go_on, shorter}
use Rattle.scan_heads.specs.declared.Heads.{Heads}
use Rattle.scan_heads.specs.Heads.{key_from, head_at, key_of, level_of, slot_of, insert, others, heads_of, sunk, led, passed, point_in, times_in, point, left, Head, Rising, Fits}
use Rattle.scan_heads.proofs.Packs.{key_bound, key_some, key_none, key_next, head_key, head_level, head_slot}
use Rattle.scan_heads.proofs.Inserts.{sum-insert, all_insert, rising_above, rising_insert}
use Rattle.scan_heads.proofs.Points.{point_none, point_has}

-- The same level stays ahead, at slot s.
abbrev kept : Heads → ℕ → ℕ → Heads
kept a h s = record { slot = s; first = h; h1 = a.h1; h2 = a.h2; h3 = a.h3; h4 = a.h4; h5 = a.h5; h6 = a.h6 }

pub none_ordered : (e : List ℕ) → Ordered e 0
unfolding ascend
none_ordered e = record { chained = rw (chain_end e 0 refl); order = rw (chain_end e 0 refl) }

-- A head among the others, first or not.
module _ (a : Heads) (h s : ℕ) where
  led-sum : (f : ℕ → ℕ) → sum f (heads_of (led a h s)) ≡ f h + sum f (others a)
  unfolding sum insert
  led-sum f =
      cond_elim (λ r. sum f (heads_of r) ≡ f h + sum f (others a)) (ltb h a.h1) (kept a h s) (sunk a h)
      (λ t. refl) (λ t. omega (arith, sum-insert f h (a.h2 ∷ a.h3 ∷ a.h4 ∷ a.h5 ∷ a.h6 ∷ [])))

  led_all : (P : ℕ → Type 0) → P h → All P (others a) → All P (heads_of (led a h s))
  unfolding insert
  led_all P p ps =
      cond_elim (λ r. All P (heads_of r)) (ltb h a.h1) (kept a h s) (sunk a h)
      (λ t. (p, ps)) (λ t. (ps.0, all_insert P h (a.h2 ∷ a.h3 ∷ a.h4 ∷ a.h5 ∷ a.h6 ∷ []) p ps.1))

  led_rising : Rising a.first (others a) → Rising (led a h s).first (others (led a h s))
  unfolding insert
  led_rising up =
      cond_elim (λ r. Rising r.first (others r)) (ltb h a.h1) (kept a h s) (sunk a h)
      (λ t. (omega (arith, ltb-true h a.h1 t), up.1))
      (λ t. rising_insert a.h1 h (a.h2 ∷ a.h3 ∷ a.h4 ∷ a.h5 ∷ a.h6 ∷ []) (ltb-false h a.h1 t) up.1)

  led_placed : s ≡ slot_of h → (led a h s).slot ≡ slot_of (led a h s).first
  led_placed is =
      cond_elim (λ r. r.slot ≡ slot_of r.first) (ltb h a.h1) (kept a h s) (sunk a h) (λ t. is) (λ t. refl)

-- What a head says, in its parts.
module _ (e : List ℕ) (n h : ℕ) (k : Head e n h) where
  pub head_says : key_of h ≡ key_from e (slot_of h)
  head_says = ap key_of k.is ∙ head_key e (level_of h) (slot_of h) (omega arith) (omega arith)

module _ {e : List ℕ} {n : ℕ} {a : Heads} (f : Fits e n a) where
  abbrev level : ℕ
  level = level_of a.first

  abbrev key : ℕ
  key = key_of a.first

  pub slot-key : key_from e a.slot ≡ key
  slot-key = rw f.placed (sym (head_says e n a.first f.each.0))

  pub slot_ordered : Ordered e a.slot
  slot_ordered = rw f.placed f.each.0.order

  first_least : All (λ h. a.first ≤ h) (heads_of a)
  first_least = (omega arith, rising_above a.first (others a) f.rising)

  -- Each level's first point comes no earlier than the first of all.
  pub points_least : (i : ℕ) → i < n → Ordered e (point a i) × (key ≤ key_from e (point a i))
  points_least i lt =
      point_has i (λ j s. Ordered e s × (key ≤ key_from e s))
      (none_ordered e, rw (key_none e 0 refl, ← slot-key) (key_bound e a.slot))
      (heads_of a)
      (all_both (Head e n) (λ h. a.first ≤ h) (λ h. Ordered e (slot_of h) × (key ≤ key_from e (slot_of h)))
      (λ h k le. (k.order, omega (arith, head_says e n h k))) (heads_of a) f.each first_least)
      (f.once i lt)

  module _ (low : key < 65536) where
    pub slot_some : a.slot ≢ 0
    slot_some = key_some e a.slot (omega (arith, slot-key))

    pub slot_on : On e a.slot
    slot_on = go_on e a.slot slot_ordered slot_some

    pub level_inside : level < n
    level_inside = f.each.0.inside (λ z. slot_some (f.placed ∙ z))

    -- In a level above the first point comes later.
    pub points_later : (i : ℕ) → i < n → i < level → key < key_from e (point a i)
    points_later i lt =
        point_has i (λ j s. j < level → key < key_from e s) (λ above. rw (key_none e 0 refl) low) (heads_of a)
        (all_both (Head e n) (λ h. a.first ≤ h) (λ h. level_of h < level → key < key_from e (slot_of h))
        (λ h k le above. omega (arith, head_says e n h k)) (heads_of a) f.each first_least)
        (f.once i lt)

    abbrev next : ℕ
    next = next_of e a.slot

    abbrev new : ℕ
    new = head_at e level next

    new-level : level_of new ≡ level
    new-level = head_level e level next (omega arith) (omega arith)

    new_slot : slot_of new ≡ next
    new_slot = head_slot e level next (omega arith) (omega arith)

    new_head : Head e n new
    new_head = record { inside = λ _. rw new-level level_inside; order = rw new_slot slot_on.rest; is = sym (rw (new-level, new_slot)) }

    same_times : (i : ℕ) → times_in (heads_of (passed e a)) i ≡ times_in (heads_of a) i
    unfolding sum
    same_times i = led-sum a new next (λ h. cond (eqb (level_of h) i) 1 0) ∙ rw new-level

    pub passed_fits : Fits e n (passed e a)
    passed_fits = record {
      each = led_all a new next (Head e n) new_head f.each.1;
      once = λ i lt. rw (same_times i) (f.once i lt);
      rising = led_rising a new next f.rising;
      placed = led_placed a new next (sym new_slot);
    }

    -- What comes after the first is no earlier.
    pub passed_later : Fits32 e → key ≤ key_of (passed e a).first
    passed_later words =
        cond_elim (λ r. key ≤ key_of r.first) (ltb new a.h1) (kept a new next) (sunk a new)
        (λ t. omega (arith, head_key e level next (omega arith) (omega arith), key_next e words a.slot slot_on, slot-key))
        (λ t. omega (arith, f.rising.0))

    -- No other head is of the first's level.
    others_none : point_in (others a) level ≡ 0
    unfolding sum
    others_none = point_none level (others a) (omega (arith, rw (eq-eqb level level refl) at (f.once level level_inside)))

    pub point_first : point a level ≡ a.slot
    unfolding sum
    point_first = rw (eq-eqb level level refl, f.placed) (omega (arith, others_none))

    pub point-passed : (i : ℕ) → point (passed e a) i ≡ cond (eqb level i) next (point a i)
    unfolding sum
    point-passed i =
        led-sum a new next (λ h. cond (eqb (level_of h) i) (slot_of h) 0)
        ∙ rw (new-level, new_slot)
        (by_cases (eqb level i)
        (λ t. rw (t, ← eqb-true level i t) (omega (arith, others_none)))
        (λ t. rw t refl))

    pub passed_fewer : left e (passed e a) < left e a
    unfolding sum
    passed_fewer =
        rw (led-sum a new next (λ h. length (chain_from e (slot_of h))), new_slot, ← f.placed)
        (omega (arith, shorter e a.slot slot_on))
