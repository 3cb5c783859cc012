-- The ways of a write up to its pass, in the definitions.
use mathlib.Core.Path.{◌≡◌, refl, ap, ◌∙◌}
use mathlib.Core.Bool.{true, false, not}
use Prim.Native.Nat.{ℕ, ◌<◌}
use Rattle.lists.specs.Lists.{none}
use Rattle.model.specs.declared.Tally.{Tally}
use Rattle.model.specs.Records.{State}
use Rattle.model.specs.Merge.{release}
use Rattle.model.specs.Steps.{Write, put, delete, delete_range, merge_state, merge_all, displaced, enter, act_deepest, crowded, make_room, full, write, no_slot}
use Rattle.model.specs.Calls.{written, prepared, out_of_slots}
use Rattle.model.proofs.Keeps.{has_room, merge_all_keeps}
use Rattle.write_act.specs.Acting.{can_act}

-- A write that is not out of slots, and the work that it does before its pass.
pub record Leads (t : ℕ) (v : Write Tally) (s q : State ℕ Tally) (m : ℕ) : Type 0 where
  pub work : prepared t (written v) s ≡ record { state = q; merges = m }
  pub slot : out_of_slots t (written v) s ≡ false

module _ (t : ℕ) (v : Write Tally) (s : State ℕ Tally) where
  not_full : full t v s ≡ false → out_of_slots t (written v) s ≡ false
  unfolding no_slot
  not_full f = go v f
    where
      go : (w : Write Tally) → full t w s ≡ false → no_slot t w s ≡ false
      go (put k a) q = rw q
      go (delete k) q = refl
      go (delete_range lo hi date) q = refl

  roomy : crowded t v s ≡ false → full t v s ≡ false
  unfolding full
  roomy c = rw c

  pub enters : crowded t v s ≡ false → Leads t v s (enter t v s) 0
  unfolding prepared write make_room full
  enters c = record { work = rw c; slot = not_full (roomy c) }

  pub enters_room : crowded t v s ≡ false → none (release (displaced t v s) s.free) ≡ false
  unfolding make_room
  enters_room c = rw c at (has_room t v s (roomy c))

  module _ (c : crowded t v s ≡ true) where
    after_merges : none (merge_all s).state.free ≡ false → full t v s ≡ false
    unfolding full
    after_merges n = rw (c, n)

    pub enters_after : none (merge_all s).state.free ≡ false → (m : ℕ) → m ≡ (merge_all s).merges → Leads t v s (enter t v (merge_all s).state) m
    unfolding prepared write make_room full
    enters_after n m q = record { work = rw (c, n, q); slot = not_full (after_merges n) }

    pub enters_after_room : none (merge_all s).state.free ≡ false → none (release (displaced t v (merge_all s).state) (merge_all s).state.free) ≡ false
    unfolding make_room
    enters_after_room n = rw c at (has_room t v s (after_merges n))

    module _ (n : none (merge_all s).state.free ≡ true) (same : (merge_all s).state.settings ≡ s.settings) where
      -- Level L of the merged state is where no_slot looks.
      pub no_slot_is : out_of_slots t (written v) s ≡ not (can_act v (merge_all s).state)
      unfolding no_slot full
      no_slot_is = go v c
        where
          go : (w : Write Tally) → crowded t w s ≡ true → no_slot t w s ≡ not (can_act w (merge_all s).state)
          go (put k a) q = rw (q, n, same)
          go (delete k) q = refl
          go (delete_range lo hi date) q = refl

      pub acts : can_act v (merge_all s).state ≡ true → (m : ℕ) → m ≡ (merge_all s).merges → Leads t v s (act_deepest t v (merge_all s).state) m
      unfolding prepared write make_room full
      acts h m q = record { work = rw (c, n, q); slot = no_slot_is ∙ ap not h }

pub merged_settings : (s : State ℕ Tally) → 0 < s.settings.deepest → (merge_all s).state.settings ≡ s.settings
unfolding merge_state
merged_settings s h = (merge_all_keeps (λ x. 0 < x.settings.deepest) (λ x p. p) (λ i x a p. p) s h).1
