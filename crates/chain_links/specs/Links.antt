-- A slot linked to another, wiped and freed, or given another date and stamp: the words of the table afterwards.
use Rattle.std.specs.Prelude.{List, ℕ, max}
use Rattle.tables.specs.Slots.{slot_at, set_slot, link_to, kind_of, date_of, stamp_of, free_slot, first_free, with_link, with_date}

unfoldable pub linked : List ℕ → ℕ → ℕ → List ℕ
linked e s next = set_slot e s (with_link (link_to next (kind_of e s)) (slot_at e s))

-- "A record that goes has its slot wiped and put on the free chain".
unfoldable pub released : List ℕ → ℕ → List ℕ
released e s =
    let wiped = set_slot e s (free_slot (first_free e)) in
    set_slot wiped 0 (with_link s (slot_at wiped 0))

-- The date of a range delete is word 2.
unfoldable pub stamped : List ℕ → ℕ → ℕ → ℕ → List ℕ
stamped e s date stamp = set_slot e s (with_date date stamp (slot_at e s))

-- "Of two ranges with equal lo and hi the one left keeps the later s and the later stamp": slot s stays, slot o goes.
abbrev pub later_taken : List ℕ → ℕ → ℕ → List ℕ
later_taken e s o = stamped e s (max (date_of e s) (date_of e o)) (max (stamp_of e s) (stamp_of e o))
