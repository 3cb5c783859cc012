-- The words that a state writes hold its chains.
use mathlib.Core.Path.{◌≡◌, refl, sym, ap, ◌∙◌}
use mathlib.Core.List.{List, [], ◌∷◌}
use Prim.Native.Nat.{ℕ, ◌+◌, ◌≤◌}
use native.Mathlib.Omega.{arith}
use native.Mathlib.Decide.{ℕ_discrete}
use lib.ListN.{length, replicate, length-replicate}
use Rattle.lists.specs.Lists.{count}
use Rattle.model.specs.declared.Tally.{Tally}
use Rattle.model.specs.Records.{State}
use Rattle.tables.specs.Slots.{entry_length, Slot, set_slot}
use Rattle.tables.specs.Placed.{Cell, head, lay, lay_all, all_chains, entry_words, cell_slot, top_of}
use Rattle.tables.proofs.Slots.{length-set_slot, slot_other, slot_same}
use Rattle.tables.proofs.Cells.{Chained, AllChained, cell_slots, chain_slots, times, times_append, times_head, times_other, Holds, Slots, AllSlots, length-lay, length-lay_all}

-- Another slot written leaves a chain that has not that slot.
module _ (n s : ℕ) (e : List ℕ) (r : Slot) where
  chained_off : (cs : List Cell) → times s (cell_slots cs) ≡ 0 → Chained n e cs → Chained n (set_slot e s r) cs
  chained_off [] z h = tt
  chained_off (c ∷ cs) z h = go (λ m. chained_off cs m h.3) (ℕ_discrete s c.slot)
    where
      go : (times s (cell_slots cs) ≡ 0 → Chained n (set_slot e s r) cs) → Dec (s ≡ c.slot) → Chained n (set_slot e s r) (c ∷ cs)
      go ih (yes q) = absurd (omega (arith, ap (λ t. times s (t ∷ cell_slots cs)) (sym q), times_head s (cell_slots cs)))
      go ih (no q) = (h.0, h.1, slot_other e s r c.slot q ∙ h.2, ih (omega (arith, times_other s c.slot (cell_slots cs) q)))

  pub all_off : (cs : List (List Cell)) → times s (chain_slots cs) ≡ 0 → AllChained n e cs → AllChained n (set_slot e s r) cs
  all_off [] z h = tt
  all_off (c ∷ cs) z h = (
    chained_off c (omega (arith, times_append s (cell_slots c) (chain_slots cs))) h.0,
    all_off cs (omega (arith, times_append s (cell_slots c) (chain_slots cs))) h.1,
  )

-- A chain laid is there, if no slot stands twice in it.
lay_chained : (n : ℕ) (e : List ℕ) (cs : List Cell) → length e ≡ entry_length n → Slots n cs → ((s : ℕ) → times s (cell_slots cs) ≤ 1) → Chained n (lay e cs) cs
unfolding lay
lay_chained n e [] l b h = tt
lay_chained n e (c ∷ cs) l b h =
    let rest : Chained n (lay e cs) cs = lay_chained n e cs l b.2 (λ s. tail s (ℕ_discrete s c.slot)) in (
      b.0,
      b.1,
      slot_same (lay e cs) c.slot (cell_slot (head cs) c) (omega (arith, length-lay e cs, b.1)),
      chained_off n c.slot (lay e cs) (cell_slot (head cs) c) cs (omega (arith, h c.slot, times_head c.slot (cell_slots cs))) rest,
    )
  where
    tail : (s : ℕ) → Dec (s ≡ c.slot) → times s (cell_slots cs) ≤ 1
    tail s (yes q) = omega (arith, h s, ap (λ t. times s (t ∷ cell_slots cs)) (sym q), times_head s (cell_slots cs))
    tail s (no q) = omega (arith, h s, times_other s c.slot (cell_slots cs) q)

-- Chains that share no slot with it stay.
lay_off : (n : ℕ) (e : List ℕ) (cs : List Cell) (ds : List (List Cell)) → ((s : ℕ) → times s (cell_slots cs) + times s (chain_slots ds) ≤ 1)
    → AllChained n e ds → AllChained n (lay e cs) ds
unfolding lay
lay_off n e [] ds h a = a
lay_off n e (c ∷ cs) ds h a =
    all_off n c.slot (lay e cs) (cell_slot (head cs) c) ds (omega (arith, h c.slot, times_head c.slot (cell_slots cs)))
    (lay_off n e cs ds (λ s. less s (ℕ_discrete s c.slot)) a)
  where
    less : (s : ℕ) → Dec (s ≡ c.slot) → times s (cell_slots cs) + times s (chain_slots ds) ≤ 1
    less s (yes q) = omega (arith, h s, ap (λ t. times s (t ∷ cell_slots cs)) (sym q), times_head s (cell_slots cs))
    less s (no q) = omega (arith, h s, times_other s c.slot (cell_slots cs) q)

lay_all_chained : (n : ℕ) (e : List ℕ) (cs : List (List Cell)) → length e ≡ entry_length n → AllSlots n cs → ((s : ℕ) → times s (chain_slots cs) ≤ 1)
    → AllChained n (lay_all e cs) cs
unfolding lay_all
lay_all_chained n e [] l b h = tt
lay_all_chained n e (c ∷ cs) l b h =
    let sum : (s : ℕ) → times s (cell_slots c) + times s (chain_slots cs) ≤ 1 = λ s. omega (arith, h s, times_append s (cell_slots c) (chain_slots cs)) in (
      lay_chained n (lay_all e cs) c (length-lay_all e cs ∙ l) b.0 (λ s. omega (arith, sum s)),
      lay_off n (lay_all e cs) c cs sum (lay_all_chained n e cs l b.1 (λ s. omega (arith, sum s))),
    )

-- No cell has slot 0.
no_zero : (n : ℕ) (cs : List Cell) → Slots n cs → times 0 (cell_slots cs) ≡ 0
unfolding count
no_zero n [] b = refl
no_zero n (c ∷ cs) b = omega (arith, times_other 0 c.slot (cell_slots cs) (omega (arith, b.0)), no_zero n cs b.2)

pub no_zeros : (n : ℕ) (cs : List (List Cell)) → AllSlots n cs → times 0 (chain_slots cs) ≡ 0
unfolding count
no_zeros n [] b = refl
no_zeros n (c ∷ cs) b = omega (arith, times_append 0 (cell_slots c) (chain_slots cs), no_zero n c b.0, no_zeros n cs b.1)

pub words_hold : (n : ℕ) (p : State ℕ Tally) → AllSlots n (all_chains p) → ((s : ℕ) → times s (chain_slots (all_chains p)) ≤ 1)
    → Holds n (top_of p) (all_chains p) (entry_words n p)
unfolding entry_words
words_hold n p b h =
    let zeros : List ℕ = replicate (entry_length n) 0 in
    let base : List ℕ = lay_all zeros (all_chains p) in
    let l : length zeros ≡ entry_length n = length-replicate (entry_length n) 0 in
    let lb : length base ≡ entry_length n = length-lay_all zeros (all_chains p) ∙ l in
    record {
      room = length-set_slot base 0 (top_of p) ∙ lb;
      first = slot_same base 0 (top_of p) (omega arith);
      each = all_off n 0 base (top_of p) (all_chains p) (no_zeros n (all_chains p) b) (lay_all_chained n zeros (all_chains p) l b h);
    }
