-- The date of the first range that would go, read from its slot, and the record that keeps the later one.
use mathlib.Core.Path.{◌≡◌, refl, ap}
use mathlib.Core.Bool.{Bool}
use mathlib.Core.List.{List, [], ◌∷◌}
use Prim.Native.Nat.{ℕ, max, ◌≤◌}
use native.Mathlib.Omega.{arith}
use Rattle.std.specs.Prelude.{Option, None, Some}
use Rattle.lists.specs.Lists.{select}
use Rattle.lists.proofs.Bools.{cond_elim}
use Rattle.tables.specs.Slots.{InTable, Slot, date_of}
use Rattle.tables.specs.Placed.{Cell}
use Rattle.tables.proofs.Cells.{Chained}
use Rattle.chain_cells.specs.Sifting.{Chain, OneHeld}
use Rattle.chain_sieve.specs.Doomed.{first_of, has_span}
use Rattle.write_record.specs.declared.Record.{Record}
use Rattle.write_enter.specs.Uniting.{first_date, united}

-- The first of some cells of a table: none, or a slot that has the cell's date.
abbrev First : ℕ → List ℕ → List Cell → Option ℕ → Type 0
First n e cs None = first_date cs ≡ 0
First n e cs (Some s) = (s ≤ n) × (date_of e s ≡ first_date cs)

first_selected : (n : ℕ) (e : List ℕ) (test : Cell → Bool) (cs : List Cell) → Chained n e cs → First n e (select test cs) (first_of (select test cs))
unfolding select
first_selected n e test [] h = refl
first_selected n e test (c ∷ cs) h =
    cond_elim (λ ds. First n e ds (first_of ds)) (test c) (c ∷ select test cs) (select test cs)
    (λ p. (h.1, ap (λ (r : Slot). r.tally.count) h.2)) (λ p. first_selected n e test cs h.3)

module _ {g : Chain} {e : List ℕ} {ranges : ℕ} (h : OneHeld g e ranges) (w : Record) {found : Option ℕ}
    (is : found ≡ first_of (select (has_span w.lo w.hi) g.cells)) where
  -- The first of the ranges with the record's dockets.
  first_alike : First g.slots e (select (has_span w.lo w.hi) g.cells) found
  first_alike = rw is (first_selected g.slots e (has_span w.lo w.hi) g.cells h.held.holds.each.1.0)

  pub no_alike : found ≡ None → w ≡ united g.cells w
  no_alike none =
      let nothing : first_date (select (has_span w.lo w.hi) g.cells) ≡ 0 = rw none at first_alike in
      let own : max w.tally.count (first_date (select (has_span w.lo w.hi) g.cells)) ≡ w.tally.count = omega arith in
      rw own

  module _ {s : ℕ} (some : found ≡ Some s) where
    at_first : (s ≤ g.slots) × (date_of e s ≡ first_date (select (has_span w.lo w.hi) g.cells))
    at_first = rw some at first_alike

    pub alike_in_table : InTable e s
    alike_in_table = omega (arith, at_first.0, h.held.holds.room)

    -- The later of its date and the record's own.
    pub alike_later : {count d : ℕ} → d ≡ date_of e s → count ≡ max w.tally.count d
        → record { kind = w.kind; lo = w.lo; hi = w.hi; tally = record { count = count; price = w.tally.price } } ≡ united g.cells w
    alike_later read later = rw (later, read, at_first.1)
