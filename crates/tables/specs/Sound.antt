-- Document 01, "Sound tables", and the refusals 1 to 3.
use Rattle.std.specs.Prelude.{Bool, true, cond, ◌&&◌, ◌||◌, not, List, [], ◌∷◌, ◌++◌, ℕ, zero, suc, ◌+◌, ◌*◌, leb, eqb, length}
use Rattle.settings.specs.Limits.{within, allowed}
use Rattle.lists.specs.Lists.{none, every, count}
use Rattle.tables.specs.Slots.{entry_length, slots_of, next_of, kind_of, span_of, lo_of, hi_of, count_of, price_of, date_of, stamp_of, first_free, clock_of}
use Rattle.tables.specs.Rows.{level_length, settings_of, level_row}

-- "Records are chained by the next slot, and zero ends the chain": the slots of a chain, k of them at most.
unfoldable pub chain : ℕ → List ℕ → ℕ → List ℕ
chain zero e s = []
chain (suc k) e s = let rest = chain k e (next_of e s) in cond (eqb s 0) [] (s ∷ rest)

-- No chain of a sound table is as long as the table has words.
abbrev pub chain_from : List ℕ → ℕ → List ℕ
chain_from e s = chain (length e) e s

abbrev pub free_chain : List ℕ → List ℕ
free_chain e = chain_from e (first_free e)

abbrev pub point_chain : List ℕ → List ℕ → ℕ → List ℕ
point_chain e l i = chain_from e (level_row l i).points

abbrev pub range_chain : List ℕ → List ℕ → ℕ → List ℕ
range_chain e l i = chain_from e (level_row l i).ranges

-- No tally: neither count nor price.
abbrev pub is_untallied : List ℕ → ℕ → Bool
is_untallied e s = eqb (count_of e s) 0 && eqb (price_of e s) 0

-- "A free slot is zero but for its next."
abbrev pub is_free : List ℕ → ℕ → Bool
is_free e s = eqb (kind_of e s) 0 && eqb (span_of e s) 0 && is_untallied e s && eqb (stamp_of e s) 0

-- "Each chain has only its kinds, and the forms above": "lo = hi for kinds 1 and 2", tally "0 for" kind 2.
abbrev pub is_point : List ℕ → ℕ → Bool
is_point e s = eqb (lo_of e s) (hi_of e s) && (eqb (kind_of e s) 1 || (eqb (kind_of e s) 2 && is_untallied e s))

-- "with lo ≤ hi"; "Word 2 of kind 3 now holds s, from 1 to its stamp"; the price is "zero for" kind 3.
abbrev pub is_range : List ℕ → ℕ → Bool
is_range e s = leb (lo_of e s) (hi_of e s) && (eqb (kind_of e s) 3 && within 1 (date_of e s) (stamp_of e s) && eqb (price_of e s) 0)

-- "Points of a level ascend strictly by docket; ranges ascend strictly by lo, then hi": both by one key.
abbrev pub order_key : List ℕ → ℕ → ℕ
order_key e s = lo_of e s * 65536 + hi_of e s

unfoldable pub ascend : List ℕ → ℕ → List ℕ → Bool
ascend e least [] = true
ascend e least (s ∷ ss) = leb least (order_key e s) && ascend e (order_key e s + 1) ss

-- "Stamps lie from 1 to the last clock."
abbrev pub is_stamped : List ℕ → ℕ → Bool
is_stamped e s = within 1 (stamp_of e s) (clock_of e)

-- "where a level holds a delete, its owed is not 0 and not later than the stamp of any delete there"
abbrev pub owed_before : List ℕ → ℕ → ℕ → Bool
owed_before e owed s = eqb (kind_of e s) 1 || (not (eqb owed 0) && leb owed (stamp_of e s))

-- "Record numbers are right. Owed is 0 or from 1 to the last clock; …; it is 0 for an empty level."
unfoldable pub level_sound : List ℕ → List ℕ → ℕ → Bool
level_sound e l i =
    let points = point_chain e l i in
    let ranges = range_chain e l i in
    let records = points ++ ranges in
    let owed = (level_row l i).owed in
    every (is_point e) points && ascend e 0 points
    && (every (is_range e) ranges && ascend e 0 ranges)
    && every (is_stamped e) records
    && every (owed_before e owed) records
    && eqb (level_row l i).held (length records)
    && leb owed (clock_of e)
    && (not (none records) || eqb owed 0)

-- Levels i, i+1 and so on, j of them.
unfoldable pub levels_sound : List ℕ → List ℕ → ℕ → ℕ → Bool
levels_sound e l zero i = true
levels_sound e l (suc j) i = level_sound e l i && levels_sound e l j (suc i)

unfoldable pub record_slots : List ℕ → List ℕ → ℕ → ℕ → List ℕ
record_slots e l zero i = []
record_slots e l (suc j) i = (point_chain e l i ++ range_chain e l i) ++ record_slots e l j (suc i)

-- "every slot from 1 to N lies in exactly one chain, once": each stands once, and there are no others.
unfoldable pub once_each : ℕ → List ℕ → Bool
once_each zero ss = true
once_each (suc n) ss = eqb (count (eqb (suc n)) ss) 1 && once_each n ss

abbrev pub every_slot_once : ℕ → List ℕ → Bool
every_slot_once n ss = eqb (length ss) n && once_each n ss

-- "Slot 0 has the first free slot, the last accepted clock (0 when fresh), 0, 0", and a zero in word 4.
abbrev pub top_blank : List ℕ → Bool
top_blank e = is_untallied e 0 && eqb (stamp_of e 0) 0

-- Refusal 3: "tables not sound". "Level L has puts only, owed 0": with owed 0 it has no delete.
unfoldable pub chains_sound : List ℕ → List ℕ → Bool
chains_sound e l =
    let deepest = (settings_of l).deepest in
    top_blank e
    && every (is_free e) (free_chain e)
    && levels_sound e l (suc deepest) 0
    && eqb (level_row l deepest).owed 0
    && every_slot_once (slots_of e) (free_chain e ++ record_slots e l (suc deepest) 0)

-- Refusal 1: "not" 5 "× (N + 1) for an allowed N", which is 1 to 65,535.
unfoldable pub entries_fit : List ℕ → Bool
entries_fit e = eqb (length e) (entry_length (slots_of e)) && within 1 (slots_of e) 65535

-- Refusal 2: "not 4 × (L + 2) words, or first row out of range".
unfoldable pub levels_fit : List ℕ → Bool
levels_fit l = eqb (length l) (level_length (settings_of l).deepest) && allowed (settings_of l)

-- The refusal that the tables meet, or 0.
unfoldable pub table_refusal : List ℕ → List ℕ → ℕ
table_refusal e l = cond (entries_fit e) (cond (levels_fit l) (cond (chains_sound e l) 0 3) 2) 1
