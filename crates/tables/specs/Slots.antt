-- Document 01, "The two tables": the words of the entry table.
use Rattle.std.specs.Prelude.{List, [], ◌∷◌, ℕ, ◌+◌, ◌-◌, ◌*◌, ◌/◌, ◌%◌, ◌≤◌, length, get_or, set}
use Rattle.model.specs.declared.Tally.{Tally}

-- Request S-2: "so a slot has five words".
abbrev pub slot_size : ℕ
slot_size = 5

-- "The entry table has 5 × (N + 1) words": its length, and N.
abbrev pub entry_length : ℕ → ℕ
entry_length n = slot_size * (n + 1)

abbrev pub slots_of : List ℕ → ℕ
slots_of e = length e / slot_size - 1

-- The table has all words of slot s.
abbrev pub InTable : List ℕ → ℕ → Type 0
InTable e s = slot_size * (s + 1) ≤ length e

-- "A pallet's tally becomes a 32-bit count and a 32-bit price": word 2 is the count, "the price is word 4".
abbrev pub count_of : List ℕ → ℕ → ℕ
count_of e s = get_or e (slot_size * s + 2) 0

abbrev pub price_of : List ℕ → ℕ → ℕ
price_of e s = get_or e (slot_size * s + 4) 0

abbrev pub tally_of : List ℕ → ℕ → Tally
tally_of e s = record { count = count_of e s; price = price_of e s }

-- Word 0 links a slot to the next and has its kind, word 1 spans its dockets; words 2 and 4 are the tally, or "of kind 3" word 2 is the date; "word 3: the stamp".
pub record Slot : Type 0 where
  pub link : ℕ
  pub span : ℕ
  pub tally : Tally
  pub stamp : ℕ

abbrev pub slot_at : List ℕ → ℕ → Slot
slot_at e s = record {
  link = get_or e (slot_size * s) 0;
  span = get_or e (slot_size * s + 1) 0;
  tally = tally_of e s;
  stamp = get_or e (slot_size * s + 3) 0;
}

unfoldable pub set_slot : List ℕ → ℕ → Slot → List ℕ
set_slot e s r =
    let spanned = set (set e (slot_size * s) r.link) (slot_size * s + 1) r.span in
    let counted = set spanned (slot_size * s + 2) r.tally.count in
    set (set counted (slot_size * s + 3) r.stamp) (slot_size * s + 4) r.tally.price

-- Slots one after the other.
unfoldable pub slot_words : List Slot → List ℕ
slot_words [] = []
slot_words (r ∷ rs) = r.link ∷ r.span ∷ r.tally.count ∷ r.stamp ∷ r.tally.price ∷ slot_words rs

-- "word 0: next slot + 65,536 × kind. Kinds: 0 free, 1 put, 2 delete, 3 range delete."
abbrev pub link_to : ℕ → ℕ → ℕ
link_to next kind = next + 65536 * kind

abbrev pub next_of : List ℕ → ℕ → ℕ
next_of e s = (slot_at e s).link % 65536

abbrev pub kind_of : List ℕ → ℕ → ℕ
kind_of e s = (slot_at e s).link / 65536

-- "word 1: lo + 65,536 × hi, dockets, both included"
abbrev pub span_from : ℕ → ℕ → ℕ
span_from lo hi = lo + 65536 * hi

abbrev pub span_of : List ℕ → ℕ → ℕ
span_of e s = (slot_at e s).span

abbrev pub lo_of : List ℕ → ℕ → ℕ
lo_of e s = span_of e s % 65536

abbrev pub hi_of : List ℕ → ℕ → ℕ
hi_of e s = span_of e s / 65536

-- "Word 2 of kind 3 now holds s", the date of a range delete.
abbrev pub date_of : List ℕ → ℕ → ℕ
date_of e s = count_of e s

abbrev pub stamp_of : List ℕ → ℕ → ℕ
stamp_of e s = (slot_at e s).stamp

-- Words 2 and 4 of a slot that has no tally, and of a range delete: the price is "zero for kinds 0, 2 and 3".
abbrev pub no_tally : Tally
no_tally = record { count = 0; price = 0 }

abbrev pub dated : ℕ → Tally
dated date = record { count = date; price = 0 }

-- "A free slot is zero but for its next."
abbrev pub free_slot : ℕ → Slot
free_slot next = record { link = next; span = 0; tally = no_tally; stamp = 0 }

-- "Slot 0 has the first free slot, the last accepted clock (0 when fresh), 0, 0", "and slot 0 has a zero there", in word 4.
abbrev pub top_slot : ℕ → ℕ → Slot
top_slot first clock = record { link = first; span = clock; tally = no_tally; stamp = 0 }

abbrev pub first_free : List ℕ → ℕ
first_free e = (slot_at e 0).link

abbrev pub clock_of : List ℕ → ℕ
clock_of e = (slot_at e 0).span

-- A slot with another link, of another clock, with another tally and stamp, or with another date and stamp.
abbrev pub with_link : ℕ → Slot → Slot
with_link link r = record { link = link; span = r.span; tally = r.tally; stamp = r.stamp }

abbrev pub with_clock : ℕ → Slot → Slot
with_clock clock r = record { link = r.link; span = clock; tally = r.tally; stamp = r.stamp }

abbrev pub with_tally : Tally → ℕ → Slot → Slot
with_tally tally stamp r = record { link = r.link; span = r.span; tally = tally; stamp = stamp }

abbrev pub with_date : ℕ → ℕ → Slot → Slot
with_date date stamp r = with_tally (record { count = date; price = r.tally.price }) stamp r

-- The table with another last clock.
abbrev pub set_clock : List ℕ → ℕ → List ℕ
set_clock e clock = set_slot e 0 (with_clock clock (slot_at e 0))
