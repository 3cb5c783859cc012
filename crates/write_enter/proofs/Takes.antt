-- A free slot filled with a record.
use mathlib.Core.Path.{◌≡◌, refl, sym, ap, ◌∙◌}
use mathlib.Core.Logic.{◌≢◌}
use mathlib.Core.List.{List, map}
use Prim.Native.Nat.{ℕ, ◌+◌, ◌*◌, ◌≤◌, ◌<◌}
use native.Mathlib.Omega.{arith}
use lib.ListN.{length}
use Rattle.tables.proofs.Slots.{length-set_slot, slot_other, slot_same}
use Rattle.tables.specs.Slots.{InTable, Slot, slot_at, set_slot, next_of, top_slot, first_free, with_link}
use Rattle.tables.specs.Placed.{free_cell, head, cell_slot}
use Rattle.tables.proofs.Reading.{next_at}
use Rattle.chain_cells.proofs.Frames.{Off}
use Rattle.chain_cells.proofs.Laws.{taken}
use Rattle.table_slots.specs.Kinds.{kind_number}
use Rattle.table_slots.specs.declared.Kind.{Kind}
use Rattle.table_slots.specs.declared.Kind.TheVariants.{Free, Put, Delete, Range}
use Rattle.write_record.specs.Records.{record_cell}
use Rattle.write_enter.specs.Taking as taking
use Rattle.write_enter.specs.Taking.{FreeHeld, Taken}
use Rattle.write_record.specs.declared.Record.{Record}

-- A kind's number fits the upper half of a word.
pub kind_fits : (k : Kind) → kind_number k < 65536
kind_fits Free = omega arith
kind_fits Put = omega arith
kind_fits Delete = omega arith
kind_fits Range = omega arith

-- Slot 0 once another slot is the first free one, and the table after slot x, which was followed by next on the free chain, has taken the record.
abbrev unchained : List ℕ → ℕ → List ℕ
unchained e next = set_slot e 0 (with_link next (slot_at e 0))

abbrev filled : List ℕ → ℕ → ℕ → ℕ → Record → List ℕ
filled e x next t w = set_slot (unchained e next) x (cell_slot 0 (record_cell x t w))

module _ {g : taking.Free} {e : List ℕ} {w : Record} (h : FreeHeld g e w) where
  -- The first free slot, where it lies, and the one after it.
  pub first_slot : first_free e ≡ g.first
  first_slot = ap (λ (r : Slot). r.link) h.held.holds.first

  first_inside : (1 ≤ g.first) × (g.first ≤ g.slots)
  first_inside = (h.held.holds.each.0.0, h.held.holds.each.0.1)

  pub first_in_table : InTable e g.first
  first_in_table = omega (arith, first_inside.1, h.held.holds.room)

  first_next : next_of e g.first ≡ head (map free_cell g.rest)
  first_next = next_at g.slots e (omega (arith, h.held.small)) (free_cell g.first) (map free_cell g.rest) h.held.holds.each.0

  module _ (t : ℕ) where
    next : ℕ
    next = head (map free_cell g.rest)

    after : List ℕ
    after = filled e g.first next t w

    not_zero : g.first ≢ 0
    not_zero q = absurd (omega (arith, first_inside.0))

    same_room : length after ≡ length e
    unfolding after
    same_room = length-set_slot (unchained e next) g.first _ ∙ length-set_slot e 0 _

    off : Off g.first e after
    unfolding after
    off u ne nz = slot_other (unchained e next) g.first _ u (λ q. ne (sym q)) ∙ slot_other e 0 _ u (λ q. nz (sym q))

    top_after : slot_at after 0 ≡ top_slot next g.clock
    unfolding after
    top_after =
        slot_other (unchained e next) g.first _ 0 not_zero ∙ slot_same e 0 _ (omega (arith, first_in_table))
        ∙ ap (with_link next) h.held.holds.first

    row_after : slot_at after g.first ≡ cell_slot 0 (record_cell g.first t w)
    unfolding after
    row_after = slot_same (unchained e next) g.first _ (omega (arith, first_in_table, length-set_slot e 0 (with_link next (slot_at e 0))))

    -- The slot is off the free chain, and a chain of its own.
    slot_taken : Taken g t w (filled e g.first (head (map free_cell g.rest)) t w) g.first
    unfolding after next
    slot_taken = record {
      held = taken g.slots g.clock g.first g.rest (record_cell g.first t w) g.chains e after h.held refl same_room top_after row_after off;
      slot_is = refl;
    }

    -- The same in the words of the code.
    pub take_ends : {x next' kind : ℕ} {e' : List ℕ} → x ≡ first_free e → next' ≡ next_of e x → kind ≡ kind_number w.kind
        → e' ≡ set_slot (unchained e next') x (cell_slot 0 (record { slot = x; kind = kind; span = w.lo + 65536 * w.hi; tally = w.tally; stamp = t }))
        → Taken g t w e' x
    take_ends {x} {next'} {kind} {e'} first≡ next≡ kind≡ written =
        let at_first : x ≡ g.first = first≡ ∙ first_slot in
        let table≡ : e' ≡ filled e x next' t w = rw kind≡ at written in
        let table : e' ≡ filled e g.first (head (map free_cell g.rest)) t w =
        table≡ ∙ ap (λ (y : ℕ). filled e y next' t w) at_first ∙ ap (λ (y : ℕ). filled e g.first y t w) (next≡ ∙ ap (next_of e) at_first ∙ first_next) in
        record { held = rw table slot_taken.held; slot_is = at_first }
