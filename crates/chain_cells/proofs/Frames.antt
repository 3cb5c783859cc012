-- What a table that differs at one slot keeps: all chains without that slot; cells that lead to another slot; the slots of rearranged chains.
use mathlib.Core.Path.{◌≡◌, refl, sym, ap, ◌∙◌}
use mathlib.Core.Logic.{◌≢◌}
use mathlib.Core.Bool.{cond}
use mathlib.Core.List.{List, [], ◌∷◌, ◌++◌}
use Prim.Native.Nat.{ℕ, ◌+◌, ◌/◌, ◌≤◌}
use native.Mathlib.Omega.{arith}
use lib.Dec.{eqb}
use lib.ListN.{length}
use Rattle.lists.specs.Lists.{sum, count}
use Rattle.lists.proofs.Counting.{sum_append, sum_ones, count-sum}
use Rattle.tables.specs.Slots.{entry_length, Slot, slot_at, link_to, kind_of, with_link}
use Rattle.tables.specs.Placed.{Cell, head, cell_slot}
use Rattle.tables.proofs.Cells.{Chained, AllChained, cell_slots, chain_slots, times, times_append, times_head}
use Rattle.tables.proofs.Once.{OnceFacts, once_most}
use Rattle.chain_links.specs.Links.{linked}
use Rattle.chain_cells.specs.Cells.{last_from}
use Rattle.chain_links.proofs.Links.{linked_other, linked_same}

-- Two tables that differ at slot s, and at slot 0, only.
abbrev pub Off : ℕ → List ℕ → List ℕ → Type 0
Off s e e' = (t : ℕ) → t ≢ s → t ≢ 0 → slot_at e' t ≡ slot_at e t

-- The first cell's slot, where another chain follows.
abbrev pub first_or : ℕ → List Cell → ℕ
first_or h [] = h
first_or h (c ∷ cs) = c.slot

-- The table has these cells, each linked to the next, and the last to slot h.
abbrev pub ChainedTo : ℕ → List ℕ → ℕ → List Cell → Type 0
ChainedTo n e h [] = h ≤ n
ChainedTo n e h (c ∷ cs) = (1 ≤ c.slot) × (c.slot ≤ n) × (slot_at e c.slot ≡ cell_slot (first_or h cs) c) × ChainedTo n e h cs

-- A slot that stands nowhere in a list is not its first.
apart : (s t : ℕ) (ss : List ℕ) → times s (t ∷ ss) ≡ 0 → t ≢ s
apart s t ss z q = absurd (omega (arith, ap (λ (u : ℕ). times s (u ∷ ss)) q, times_head s ss))

rest_without : (s t : ℕ) (ss : List ℕ) → times s (t ∷ ss) ≡ 0 → times s ss ≡ 0
unfolding count
rest_without s t ss z = omega arith

-- How often slot s stands in chains.
abbrev pub stands : ℕ → List (List Cell) → ℕ
stands s [] = 0
stands s (c ∷ cs) = times s (cell_slots c) + stands s cs

times-stands : (s : ℕ) (cs : List (List Cell)) → times s (chain_slots cs) ≡ stands s cs
unfolding count
times-stands s [] = refl
times-stands s (c ∷ cs) = omega (arith, times_append s (cell_slots c) (chain_slots cs), times-stands s cs)

pub stands_once : (n : ℕ) (cs : List (List Cell)) → OnceFacts n (chain_slots cs) → (s : ℕ) → stands s cs ≤ 1
stands_once n cs o s = omega (arith, once_most n (chain_slots cs) o s, times-stands s cs)

module _ (n s : ℕ) (e e' : List ℕ) (off : Off s e e') where
  pub chained_off : (cs : List Cell) → times s (cell_slots cs) ≡ 0 → Chained n e cs → Chained n e' cs
  chained_off [] z h = tt
  chained_off (c ∷ cs) z h = (
    h.0,
    h.1,
    off c.slot (apart s c.slot (cell_slots cs) z) (omega (arith, h.0)) ∙ h.2,
    chained_off cs (rest_without s c.slot (cell_slots cs) z) h.3,
  )

  pub chained_to_off : (t : ℕ) (cs : List Cell) → times s (cell_slots cs) ≡ 0 → ChainedTo n e t cs → ChainedTo n e' t cs
  chained_to_off t [] z h = h
  chained_to_off t (c ∷ cs) z h = (
    h.0,
    h.1,
    off c.slot (apart s c.slot (cell_slots cs) z) (omega (arith, h.0)) ∙ h.2,
    chained_to_off t cs (rest_without s c.slot (cell_slots cs) z) h.3,
  )

  pub all_off : (cs : List (List Cell)) → stands s cs ≡ 0 → AllChained n e cs → AllChained n e' cs
  all_off [] z h = tt
  all_off (c ∷ cs) z h = (chained_off c (omega arith) h.0, all_off cs (omega arith) h.1)

pub head_append : (done left : List Cell) → head (done ++ left) ≡ first_or (head left) done
head_append [] left = refl
head_append (c ∷ cs) left = refl

-- A chain parted at a place, and joined again.
module _ (n : ℕ) (e : List ℕ) where
  pub chain_start : (done left : List Cell) → head left ≤ n → Chained n e (done ++ left) → ChainedTo n e (head left) done
  chain_start [] left s h = s
  chain_start (c ∷ cs) left s h = (h.0, h.1, h.2 ∙ ap (λ (k : ℕ). cell_slot k c) (head_append cs left), chain_start cs left s h.3)

  pub chain_end : (done left : List Cell) → Chained n e (done ++ left) → Chained n e left
  chain_end [] left h = h
  chain_end (c ∷ cs) left h = chain_end cs left h.3

  pub chain_whole : (done left : List Cell) → ChainedTo n e (head left) done → Chained n e left → Chained n e (done ++ left)
  chain_whole [] left d l = l
  chain_whole (c ∷ cs) left d l = (d.0, d.1, d.2 ∙ ap (λ (k : ℕ). cell_slot k c) (sym (head_append cs left)), chain_whole cs left d.3 l)

times_tail : (t s : ℕ) (ss : List ℕ) → times t ss ≤ times t (s ∷ ss)
unfolding count
times_tail t s ss = omega arith

-- The last slot is one of them, and inside the table.
pub last_stands : (s : ℕ) (cs : List Cell) → 1 ≤ times (last_from s cs) (s ∷ cell_slots cs)
last_stands s [] = omega (arith, times_head s [])
last_stands s (c ∷ cs) = omega (arith, last_stands c.slot cs, times_tail (last_from c.slot cs) s (c.slot ∷ cell_slots cs))

pub last_inside : (n : ℕ) (e : List ℕ) (h s : ℕ) (cs : List Cell) → 1 ≤ s → s ≤ n → ChainedTo n e h cs → (1 ≤ last_from s cs) × (last_from s cs ≤ n)
last_inside n e h s [] a b c = (a, b)
last_inside n e h s (d ∷ ds) a b c = last_inside n e h d.slot ds c.0 c.1 c.3

-- A cell linked to another slot, and cells whose last is: they now lead there.
module _ (n : ℕ) (small : n ≤ 65535) (e : List ℕ) (room : length e ≡ entry_length n) (h h' : ℕ) (inside : h' ≤ n) where
  pub link_row : (c : Cell) → c.slot ≤ n → h ≤ n → slot_at e c.slot ≡ cell_slot h c → slot_at (linked e c.slot h') c.slot ≡ cell_slot h' c
  link_row c i b r =
      let kind≡ : kind_of e c.slot ≡ c.kind = ap (λ (x : Slot). x.link / 65536) r ∙ omega arith in
      linked_same e c.slot h' (omega arith)
      ∙ ap (λ (k : ℕ). with_link (link_to h' k) (slot_at e c.slot)) kind≡
      ∙ ap (with_link (link_to h' c.kind)) r

  pub relink : (c : Cell) (cs : List Cell) → ((s : ℕ) → times s (cell_slots (c ∷ cs)) ≤ 1) → ChainedTo n e h (c ∷ cs)
      → ChainedTo n (linked e (last_from c.slot cs) h') h' (c ∷ cs)
  relink c [] o k = (k.0, k.1, link_row c k.1 k.3 k.2, inside)
  relink c (d ∷ ds) o k =
      let ne : c.slot ≢ last_from d.slot ds = λ q.
      let last = ap (λ (s : ℕ). times s (cell_slots (d ∷ ds))) q in
      absurd (omega (arith, o c.slot, times_head c.slot (cell_slots (d ∷ ds)), last, last_stands d.slot ds)) in
      let rest = relink d ds (λ s. omega (arith, o s, times_tail s c.slot (cell_slots (d ∷ ds)))) k.3 in
      (k.0, k.1, linked_other e (last_from d.slot ds) h' c.slot ne ∙ k.2, rest)

-- A number of each slot, summed over chains.
abbrev pub weigh : (ℕ → ℕ) → List (List Cell) → ℕ
weigh f [] = 0
weigh f (c ∷ cs) = sum f (cell_slots c) + weigh f cs

weigh_slots : (f : ℕ → ℕ) (cs : List (List Cell)) → sum f (chain_slots cs) ≡ weigh f cs
unfolding sum
weigh_slots f [] = refl
weigh_slots f (c ∷ cs) = sum_append f (cell_slots c) (chain_slots cs) ∙ ap (λ (k : ℕ). sum f (cell_slots c) + k) (weigh_slots f cs)

module _ (f : ℕ → ℕ) where
  pub sum_append_cells : (xs ys : List Cell) → sum f (cell_slots (xs ++ ys)) ≡ sum f (cell_slots xs) + sum f (cell_slots ys)
  unfolding sum
  sum_append_cells [] ys = omega arith
  sum_append_cells (x ∷ xs) ys = omega (arith, sum_append_cells xs ys)

  pub sum_none : sum f (cell_slots []) ≡ 0
  unfolding sum
  sum_none = refl

  pub sum_cell : (x : Cell) (xs : List Cell) → sum f (cell_slots (x ∷ xs)) ≡ f x.slot + sum f (cell_slots xs)
  unfolding sum
  sum_cell x xs = refl

-- Chains whose cells were moved about have the same slots: each still stands once.
abbrev pub SameSlots : List (List Cell) → List (List Cell) → Type 0
SameSlots cs ds = (f : ℕ → ℕ) → weigh f cs ≡ weigh f ds

pub still_once : (n : ℕ) (cs ds : List (List Cell)) → SameSlots cs ds → OnceFacts n (chain_slots cs) → OnceFacts n (chain_slots ds)
still_once n cs ds w o =
    let same : (f : ℕ → ℕ) → sum f (chain_slots ds) ≡ sum f (chain_slots cs) = λ f. weigh_slots f ds ∙ sym (w f) ∙ sym (weigh_slots f cs) in
    record {
      number = sym (sum_ones (chain_slots ds)) ∙ same (λ s. 1) ∙ sum_ones (chain_slots cs) ∙ o.number;
      each = λ s a b. count-sum (eqb s) (chain_slots ds) ∙ same (λ t. cond (eqb s t) 1 0) ∙ sym (count-sum (eqb s) (chain_slots cs)) ∙ o.each s a b;
    }
