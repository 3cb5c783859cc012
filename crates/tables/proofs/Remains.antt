-- Nothing of an erased record remains in sound tables: a free slot is zero but for its next, and a delete has no tally.
use mathlib.Core.Path.{◌≡◌, ◌∙◌}
use mathlib.Core.Logic.{◌≢◌}
use mathlib.Core.Bool.{true, ◌&&◌, ◌||◌}
use mathlib.Core.List.{List}
use Prim.Native.Nat.{ℕ, ◌+◌, ◌*◌, ◌≤◌}
use native.Mathlib.Omega.{arith}
use lib.Dec.{eqb}
use borrow.Author.Tests.{ne_eqb}
use Rattle.lists.specs.All.{All}
use Rattle.lists.proofs.Bools.{and_right, or_second}
use Rattle.lists.proofs.Tests.{all_weaken}
use Rattle.tables.specs.Slots.{slot_at, next_of, kind_of, lo_of, hi_of, tally_of, price_of, date_of, stamp_of, no_tally, free_slot}
use Rattle.tables.specs.Rows.{settings_of}
use Rattle.tables.specs.Sound.{free_chain, point_chain, range_chain, is_untallied, is_free, is_point, table_refusal}
use Rattle.tables.proofs.Slots.{untallied}
use Rattle.tables.proofs.Linked.{free_written, range_parts}
use Rattle.tables.proofs.SoundWords.{sound_facts}

module _ (e l : List ℕ) (sound : table_refusal e l ≡ 0) where
  free_blank : (s : ℕ) → is_free e s ≡ true → slot_at e s ≡ free_slot (next_of e s)
  free_blank s f = let only : next_of e s + 65536 * 0 ≡ next_of e s = omega arith in free_written e s f ∙ rw only

  pub free_slots_blank : All (λ s. slot_at e s ≡ free_slot (next_of e s)) (free_chain e)
  free_slots_blank = all_weaken _ _ free_blank (free_chain e) (sound_facts e l sound).free_forms

  point_blank : (s : ℕ) → is_point e s ≡ true → kind_of e s ≢ 1 → tally_of e s ≡ no_tally
  point_blank s f n =
      let kinds = and_right (eqb (lo_of e s) (hi_of e s)) (eqb (kind_of e s) 1 || (eqb (kind_of e s) 2 && is_untallied e s)) f in
      let two = or_second (eqb (kind_of e s) 1) (eqb (kind_of e s) 2 && is_untallied e s) kinds (ne_eqb (kind_of e s) 1 n) in
      untallied e s (and_right (eqb (kind_of e s) 2) (is_untallied e s) two)

  -- Of the records only a put has a tally: a delete has zeros in its place, a range delete its date and no price.
  pub deletes_blank : (i : ℕ) → i ≤ (settings_of l).deepest → All (λ s. kind_of e s ≢ 1 → tally_of e s ≡ no_tally) (point_chain e l i)
  deletes_blank i h = all_weaken _ _ point_blank (point_chain e l i) ((sound_facts e l sound).levels i h).point_forms

  pub ranges_dated : (i : ℕ) → i ≤ (settings_of l).deepest → All (λ s. (1 ≤ date_of e s) × (date_of e s ≤ stamp_of e s) × (price_of e s ≡ 0)) (range_chain e l i)
  ranges_dated i h = all_weaken _ _ (λ s r. ((range_parts e s r).date.0, (range_parts e s r).date.1, (range_parts e s r).price)) (range_chain e l i) ((sound_facts e l sound).levels i h).range_forms
