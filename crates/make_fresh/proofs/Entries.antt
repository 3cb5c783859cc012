-- The entry table of a made store: its length and its slots.
use mathlib.Core.Path.{◌≡◌, refl, ap, ◌∙◌}
use mathlib.Core.List.{List, ◌∷◌}
use Prim.Native.Nat.{ℕ, zero, suc, ◌+◌, ◌-◌, ◌<◌, ◌≤◌}
use native.Mathlib.Omega.{arith}
use lib.ListN.{length, get_or}
use Rattle.tables.specs.Slots.{entry_length, InTable, Slot, slot_at, set_slot, free_slot, top_slot}
use Rattle.tables.proofs.Slots.{length-set_slot, slot_other, slot_same, slots_equal, length-slot_words, slot_words_at}
use Rattle.make_fresh.specs.Fresh.{next_free, free_slots, made_entries}
use Rattle.make_fresh.proofs.Parts.{Parts, Agree}

abbrev pub slot_parts : Parts Slot
slot_parts = record { at = slot_at; put = set_slot; has = InTable; put_length = length-set_slot; put_same = slot_same; put_other = slot_other }

length-free_slots : (n s k : ℕ) → length (free_slots n s k) ≡ k
unfolding free_slots
length-free_slots n s zero = refl
length-free_slots n s (suc k) = ap suc (length-free_slots n (suc s) k)

free_slots_at : (n s k i : ℕ) (d : Slot) → i < k → get_or (free_slots n s k) i d ≡ free_slot (next_free n (s + i))
unfolding free_slots
free_slots_at n s zero i d h = absurd (omega arith)
free_slots_at n s (suc k) zero d h = let q : s ≡ s + 0 = omega arith in ap (λ t. free_slot (next_free n t)) q
free_slots_at n s (suc k) (suc i) d h =
    let r : suc s + i ≡ s + suc i = omega arith in
    free_slots_at n (suc s) k i d (omega arith) ∙ ap (λ t. free_slot (next_free n t)) r

module _ (n : ℕ) where
  pub length-made_entries : length (made_entries n) ≡ entry_length n
  unfolding made_entries
  length-made_entries = length-slot_words (top_slot 1 0 ∷ free_slots n 1 n) ∙ omega (arith, length-free_slots n 1 n)

  -- The first free slot is 1, the clock 0.
  pub made_entries_first : slot_at (made_entries n) 0 ≡ top_slot 1 0
  unfolding made_entries
  made_entries_first = slot_words_at (top_slot 1 0 ∷ free_slots n 1 n) 0 (top_slot 1 0) (omega arith)

  -- Every other slot is free, and leads to the next.
  pub made_entries_slot : (s : ℕ) → 1 ≤ s → s ≤ n → slot_at (made_entries n) s ≡ free_slot (next_free n s)
  unfolding made_entries
  made_entries_slot s low high =
      let q : s ≡ suc (s - 1) = omega arith in
      let r : 1 + (s - 1) ≡ s = omega arith in
      slot_words_at (top_slot 1 0 ∷ free_slots n 1 n) s (top_slot 1 0) (omega (arith, length-free_slots n 1 n))
      ∙ ap (λ t. get_or (top_slot 1 0 ∷ free_slots n 1 n) t (top_slot 1 0)) q
      ∙ free_slots_at n 1 n (s - 1) (top_slot 1 0) (omega arith) ∙ ap (λ t. free_slot (next_free n t)) r

  pub entries_made : (e : List ℕ) → Agree slot_parts (made_entries n) (n + 1) e → e ≡ made_entries n
  entries_made e a = slots_equal (n + 1) e (made_entries n) (a.size ∙ length-made_entries) length-made_entries a.parts
