-- Tables that differ in some words of puts alone, and calls that differ in what those words hold: in tallies, or in prices only.
use Rattle.std.specs.Prelude.{◌≡◌, Bool, true, false, cond, ◌||◌, List, [], ◌∷◌, ℕ, ◌/◌, ◌%◌, ◌≤◌, eqb, length, get_or, replicate}
use Rattle.model.specs.declared.Tally.{Tally}
use Rattle.model.specs.Calls.{Call}
use Rattle.model.specs.Renaming.{map_op}
use Rattle.tables.specs.Slots.{slot_size, kind_of}
use Rattle.tables.specs.Sound.{table_refusal}
use Rattle.call_tables.specs.Calls.{Tables, lent}

-- Which words of a put's slot may differ, by their place in it: those of its tally, word 2 for the count and word 4 for the price; or the price alone.
abbrev pub tally_word : ℕ → Bool
tally_word place = eqb place 2 || eqb place 4

-- "the price is word 4"
abbrev pub price_word : ℕ → Bool
price_word place = eqb place 4

-- Word i may differ: it has such a place in a slot from 1 on of kind 1, a put. Word 2 of a range delete is its date, and in word 4 of a slot that is no put
-- only zero is sound.
abbrev pub IsHidden : (ℕ → Bool) → List ℕ → ℕ → Type 0
IsHidden hides e i = (1 ≤ i / slot_size) × (kind_of e (i / slot_size) ≡ 1) × (hides (i % slot_size) ≡ true)

-- Entry tables with the same words but for those.
pub record SameEntries (hides : ℕ → Bool) (e f : List ℕ) : Type 0 where
  pub size : length e ≡ length f
  pub words : (i : ℕ) → (IsHidden hides e i → ⊥) → get_or e i 0 ≡ get_or f i 0

-- Two pairs of tables that are the same but for those words.
pub record SameBut (hides : ℕ → Bool) (w v : Tables) : Type 0 where
  pub levels : w.levels ≡ v.levels
  pub entries : SameEntries hides w.entries v.entries

-- The tally with 0 in what may differ.
abbrev pub masked : (ℕ → Bool) → Tally → Tally
masked hides a = record { count = cond (hides 2) 0 a.count; price = cond (hides 4) 0 a.price }

-- The call with its put's tally so, if it is a put: calls that differ in tallies alone, or in prices alone, are the same without them.
abbrev pub without : (ℕ → Bool) → Call Tally → Call Tally
without hides c = record { clock = c.clock; op = map_op (masked hides) c.op }

-- Why only puts: a fresh store of one slot, which is free, with the number x in word 4 of that slot.
abbrev pub one_free : ℕ → Tables
one_free x = lent (1 ∷ 0 ∷ 0 ∷ 0 ∷ 0 ∷ 0 ∷ 0 ∷ 0 ∷ 0 ∷ x ∷ []) (2 ∷ 2 ∷ 1 ∷ 1 ∷ replicate 12 0)

-- Two such stores are the same but for words 4, and yet only one of them is refused 3: no claim can hide word 4 of every kind.
pub record FreePriced : Type 0 where
  pub words : (i : ℕ) → price_word (i % slot_size) ≡ false → get_or (one_free 7).entries i 0 ≡ get_or (one_free 0).entries i 0
  pub sound : table_refusal (one_free 0).entries (one_free 0).levels ≡ 0
  pub refused : table_refusal (one_free 7).entries (one_free 7).levels ≡ 3
