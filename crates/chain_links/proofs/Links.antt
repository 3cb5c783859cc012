-- The slots of a table after one was linked, freed or stamped.
use mathlib.Core.Path.{◌≡◌, sym, ap, ◌∙◌}
use mathlib.Core.Logic.{◌≢◌}
use mathlib.Core.List.{List}
use Prim.Native.Nat.{ℕ}
use native.Mathlib.Omega.{arith}
use lib.ListN.{length}
use Rattle.tables.specs.Slots.{InTable, slot_at, link_to, kind_of, free_slot, first_free, with_link, with_date}
use Rattle.tables.proofs.Slots.{length-set_slot, slot_other, slot_same}
use Rattle.chain_links.specs.Links.{linked, released, stamped}

module _ (e : List ℕ) (s next : ℕ) where
  pub length-linked : length (linked e s next) ≡ length e
  unfolding linked
  length-linked = length-set_slot e s _

  pub linked_other : (t : ℕ) → t ≢ s → slot_at (linked e s next) t ≡ slot_at e t
  unfolding linked
  linked_other t ne = slot_other e s _ t (λ q. ne (sym q))

  pub linked_same : InTable e s → slot_at (linked e s next) s ≡ with_link (link_to next (kind_of e s)) (slot_at e s)
  unfolding linked
  linked_same h = slot_same e s _ h

module _ (e : List ℕ) (s : ℕ) where
  pub length-released : length (released e s) ≡ length e
  unfolding released
  length-released = length-set_slot _ 0 _ ∙ length-set_slot e s _

  pub released_other : (t : ℕ) → t ≢ s → t ≢ 0 → slot_at (released e s) t ≡ slot_at e t
  unfolding released
  released_other t ne nz = slot_other _ 0 _ t (λ q. nz (sym q)) ∙ slot_other e s _ t (λ q. ne (sym q))

  pub released_same : InTable e s → s ≢ 0 → slot_at (released e s) s ≡ free_slot (first_free e)
  unfolding released
  released_same h nz = slot_other _ 0 _ s (λ q. nz (sym q)) ∙ slot_same e s _ h

  pub released_top : InTable e s → s ≢ 0 → slot_at (released e s) 0 ≡ with_link s (slot_at e 0)
  unfolding released
  released_top h nz =
      slot_same _ 0 _ (omega (arith, length-set_slot e s (free_slot (first_free e))))
      ∙ ap (with_link s) (slot_other e s _ 0 nz)

module _ (e : List ℕ) (s date stamp : ℕ) where
  pub length-stamped : length (stamped e s date stamp) ≡ length e
  unfolding stamped
  length-stamped = length-set_slot e s _

  pub stamped_other : (u : ℕ) → u ≢ s → slot_at (stamped e s date stamp) u ≡ slot_at e u
  unfolding stamped
  stamped_other u ne = slot_other e s _ u (λ q. ne (sym q))

  pub stamped_same : InTable e s → slot_at (stamped e s date stamp) s ≡ with_date date stamp (slot_at e s)
  unfolding stamped
  stamped_same h = slot_same e s _ h
