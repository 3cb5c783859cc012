-- Laws of the walk's loop: how it starts, goes on and ends.
use mathlib.Core.Path.{◌≡◌, refl, ◌∙◌}
use mathlib.Core.Logic.{◌≢◌}
use mathlib.Core.Bool.{true, false, ◌&&◌, and-eq-true_iff}
use mathlib.Core.List.{List, ◌∷◌}
use Prim.Native.Nat.{ℕ, ◌+◌, ◌-◌, ◌*◌, ◌<◌, ◌≤◌}
use native.Mathlib.Omega.{arith}
use borrow.Author.Tests.{eqb-true, leb-true}
use lib.Dec.{leb, eqb}
use lib.ListN.{length}
use Rattle.check_marks.specs.Marks.{mark_of, with_mark}
use Rattle.check_marks.proofs.Marks.{length-with_mark}
use Rattle.tables.specs.Slots.{slots_of, next_of}
use Rattle.tables.specs.Sound.{chain, chain_from, order_key}
use Rattle.std.specs.Prelude.{Some}
use Rattle.check_walk.specs.Slots.{Entries, Asked, slot_fits}
use Rattle.check_walk.specs.Walks.{stopped, walked, unmarked}
use Rattle.check_walk.proofs.Chains.{chain_end, chain_on}
use Rattle.check_walk.proofs.Unmarked.{unmarked_le, unmarked_mark}

-- A walk that has reached slot at: its rest gives what the whole gives.
pub record Going (asked : Asked) (e : List ℕ) (owed : ℕ) (m₀ ss : List ℕ) (m : List ℕ) (at least count : ℕ) : Type 0 where
  pub fuel : ℕ
  pub room : unmarked (slots_of e) m < fuel
  pub len : length m ≡ length m₀
  pub sum : count + unmarked (slots_of e) m ≡ unmarked (slots_of e) m₀
  pub rest : walked asked e owed least count m (chain fuel e at) ≡ walked asked e owed 0 0 m₀ ss

-- What an accepted slot says.
pub record FitSlot (asked : Asked) (e : List ℕ) (owed least s : ℕ) (m : List ℕ) : Type 0 where
  pub inside : s ≤ slots_of e
  pub blank : mark_of m s ≡ 0
  pub row : asked e owed least s ≡ true

pub slot_facts : {asked : Asked} {e : List ℕ} {owed least s : ℕ} {m : List ℕ} → slot_fits asked e owed least s m ≡ true → FitSlot asked e owed least s m
unfolding slot_fits
slot_facts {asked} {e} {owed} {least} {s} {m} q =
    let row = asked e owed least s in
    let a = (and-eq-true_iff (leb s (slots_of e)) (eqb (mark_of m s) 0 && row)).0 q in
    let b = (and-eq-true_iff (eqb (mark_of m s) 0) row).0 a.1 in
    record { inside = leb-true s (slots_of e) a.0; blank = eqb-true (mark_of m s) 0 b.0; row = b.1 }

module _ {asked : Asked} {e : List ℕ} {owed : ℕ} {m₀ : List ℕ} where
  pub walk_starts : (h : ℕ) → Entries e → Going asked e owed m₀ (chain_from e h) m₀ h 0 0
  walk_starts h f = record {
    fuel = length e;
    room = omega (arith, unmarked_le (slots_of e) m₀, f.number, f.slots_low);
    len = refl;
    sum = omega arith;
    rest = refl;
  }

  module _ {ss m : List ℕ} {at least count : ℕ} (g : Going asked e owed m₀ ss m at least count) where
    here : at ≢ 0 → walked asked e owed least count m (at ∷ chain (g.fuel - 1) e (next_of e at)) ≡ walked asked e owed 0 0 m₀ ss
    here z = rw (chain_on g.fuel e at (omega (arith, g.room)) z) at g.rest

    pub walk_fails : at ≢ 0 → slot_fits asked e owed least at m ≡ false → stopped m ≡ walked asked e owed 0 0 m₀ ss
    unfolding walked
    walk_fails z q = rw q at (here z)

    module _ (z : at ≢ 0) (room : slots_of e < 8 * length m₀) (q : slot_fits asked e owed least at m ≡ true) where
      inside : at < 8 * length m
      inside = let f = slot_facts q in omega (arith, g.len)

      pub walk_less : unmarked (slots_of e) (with_mark m at) + 1 ≡ unmarked (slots_of e) m
      walk_less = let f = slot_facts q in unmarked_mark (slots_of e) m at inside z f.inside f.blank

      pub walk_goes : Going asked e owed m₀ ss (with_mark m at) (next_of e at) (order_key e at + 1) (count + 1)
      unfolding walked
      walk_goes =
          record {
            fuel = g.fuel - 1;
            room = omega (arith, g.room, walk_less);
            len = length-with_mark m at ∙ g.len;
            sum = omega (arith, g.sum, walk_less);
            rest = rw q at (here z);
          }

    pub walk_ends : at ≡ 0 → record { answer = Some count; marks = m } ≡ walked asked e owed 0 0 m₀ ss
    unfolding walked
    walk_ends z = rw (chain_end g.fuel e at z) at g.rest
