-- Chains of cells in a table: what a table that holds them reads, and that no other table holds them.
use mathlib.Core.Path.{◌≡◌, refl, sym, ◌∙◌}
use mathlib.Core.Logic.{◌≢◌}
use mathlib.Core.List.{List, [], ◌∷◌, ◌++◌, map}
use Prim.Native.Nat.{ℕ, suc, ◌+◌, ◌<◌, ◌≤◌}
use native.Mathlib.Omega.{arith}
use native.Mathlib.Decide.{ℕ_discrete, dec_lt}
use lib.Dec.{eqb}
use lib.ListN.{length}
use borrow.Author.Tests.{eq-eqb, ne_eqb}
use Rattle.lists.specs.Lists.{count}
use Rattle.tables.specs.Slots.{entry_length, Slot, slot_at}
use Rattle.tables.specs.Placed.{Cell, head, lay, lay_all, cell_slot}
use Rattle.tables.proofs.Slots.{length-set_slot, slots_equal}

-- The table has the cells of a chain, each linked to the next.
abbrev pub Chained : ℕ → List ℕ → List Cell → Type 0
Chained n e [] = Unit {0}
Chained n e (c ∷ cs) = (1 ≤ c.slot) × (c.slot ≤ n) × (slot_at e c.slot ≡ cell_slot (head cs) c) × Chained n e cs

abbrev pub AllChained : ℕ → List ℕ → List (List Cell) → Type 0
AllChained n e [] = Unit {0}
AllChained n e (c ∷ cs) = Chained n e c × AllChained n e cs

-- The slots of chains, one after the other.
abbrev pub cell_slots : List Cell → List ℕ
cell_slots cs = map (λ (c : Cell). c.slot) cs

abbrev pub chain_slots : List (List Cell) → List ℕ
chain_slots [] = []
chain_slots (c ∷ cs) = cell_slots c ++ chain_slots cs

-- How often slot s stands in a list.
abbrev pub times : ℕ → List ℕ → ℕ
times s ss = count (eqb s) ss

pub times_append : (s : ℕ) (xs ys : List ℕ) → times s (xs ++ ys) ≡ times s xs + times s ys
unfolding count
times_append s [] ys = omega arith
times_append s (x ∷ xs) ys = omega (arith, times_append s xs ys)

pub times_head : (s : ℕ) (ss : List ℕ) → times s (s ∷ ss) ≡ suc (times s ss)
unfolding count
times_head s ss = rw (eq-eqb s s refl) (omega arith)

pub times_other : (s t : ℕ) (ss : List ℕ) → s ≢ t → times s (t ∷ ss) ≡ times s ss
unfolding count
times_other s t ss h = rw (ne_eqb s t h) (omega arith)

-- A slot of a chain has the same words in all tables that have the chain.
chain_slot : (n : ℕ) (e f : List ℕ) (cs : List Cell) (s : ℕ) → 0 < times s (cell_slots cs) → Chained n e cs → Chained n f cs → slot_at e s ≡ slot_at f s
unfolding count
chain_slot n e f [] s h c d = absurd (omega arith)
chain_slot n e f (k ∷ cs) s h c d = go (λ m. chain_slot n e f cs s m c.3 d.3) (ℕ_discrete s k.slot)
  where
    go : (0 < times s (cell_slots cs) → slot_at e s ≡ slot_at f s) → Dec (s ≡ k.slot) → slot_at e s ≡ slot_at f s
    go ih (yes q) = rw q (c.2 ∙ sym d.2)
    go ih (no q) = ih (omega (arith, times_other s k.slot (cell_slots cs) q))

chains_slot : (n : ℕ) (e f : List ℕ) (cs : List (List Cell)) (s : ℕ) → 0 < times s (chain_slots cs) → AllChained n e cs → AllChained n f cs
    → slot_at e s ≡ slot_at f s
unfolding count
chains_slot n e f [] s h c d = absurd (omega arith)
chains_slot n e f (k ∷ cs) s h c d = go (λ m. chains_slot n e f cs s m c.1 d.1) (dec_lt 0 (times s (cell_slots k)))
  where
    go : (0 < times s (chain_slots cs) → slot_at e s ≡ slot_at f s) → Dec (0 < times s (cell_slots k)) → slot_at e s ≡ slot_at f s
    go ih (yes q) = chain_slot n e f k s q c.0 d.0
    go ih (no q) = ih (omega (arith, times_append s (cell_slots k) (chain_slots cs)))

-- A table of n slots that holds these chains, each slot once, and these words for slot 0.
pub record Holds (n : ℕ) (top : Slot) (cs : List (List Cell)) (e : List ℕ) : Type 0 where
  pub room : length e ≡ entry_length n
  pub first : slot_at e 0 ≡ top
  pub each : AllChained n e cs

abbrev pub Once : ℕ → List (List Cell) → Type 0
Once n cs = (s : ℕ) → 1 ≤ s → s ≤ n → times s (chain_slots cs) ≡ 1

-- No two tables hold the same chains.
pub holds_one : (n : ℕ) (top : Slot) (cs : List (List Cell)) (e f : List ℕ) → Once n cs → Holds n top cs e → Holds n top cs f → e ≡ f
holds_one n top cs e f once h k = slots_equal (n + 1) e f h.room k.room (λ s b. go s b (ℕ_discrete s 0))
  where
    go : (s : ℕ) → s < n + 1 → Dec (s ≡ 0) → slot_at e s ≡ slot_at f s
    go s b (yes q) = rw q (h.first ∙ sym k.first)
    go s b (no q) = chains_slot n e f cs s (omega (arith, once s (omega arith) (omega arith))) h.each k.each

-- Every cell's slot is one of the table, and no slot is that of two cells.
abbrev pub Slots : ℕ → List Cell → Type 0
Slots n [] = Unit {0}
Slots n (c ∷ cs) = (1 ≤ c.slot) × (c.slot ≤ n) × Slots n cs

abbrev pub AllSlots : ℕ → List (List Cell) → Type 0
AllSlots n [] = Unit {0}
AllSlots n (c ∷ cs) = Slots n c × AllSlots n cs

pub length-lay : (e : List ℕ) (cs : List Cell) → length (lay e cs) ≡ length e
unfolding lay
length-lay e [] = refl
length-lay e (c ∷ cs) = length-set_slot (lay e cs) c.slot (cell_slot (head cs) c) ∙ length-lay e cs

pub length-lay_all : (e : List ℕ) (cs : List (List Cell)) → length (lay_all e cs) ≡ length e
unfolding lay_all
length-lay_all e [] = refl
length-lay_all e (c ∷ cs) = length-lay (lay_all e cs) c ∙ length-lay_all e cs
