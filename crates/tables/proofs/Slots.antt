-- A slot written is read back, other slots stay, and tables with the same slots are equal.
use mathlib.Core.Path.{◌≡◌, refl, sym, ap, ◌∙◌}
use mathlib.Core.Logic.{◌≢◌}
use mathlib.Core.Bool.{true}
use mathlib.Core.List.{List, [], ◌∷◌}
use Prim.Native.Nat.{ℕ, zero, suc, ◌+◌, ◌*◌, ◌/◌, ◌%◌, ◌<◌, ◌≤◌}
use native.Mathlib.Omega.{arith}
use native.Mathlib.Decide.{ℕ_discrete}
use lib.Dec.{eqb}
use lib.ListN.{length, get_or, set, length-set}
use lib.Seq.{lt-length-set, get_or-set_same, get_or-set_other, set-get_or, ext_get_or}
use borrow.Author.Tests.{eqb-true, eq-eqb}
use Rattle.lists.proofs.Bools.{and_intro, and_left, and_right}
use Rattle.model.specs.declared.Tally.{Tally}
use Rattle.tables.specs.Words.{Fits32}
use Rattle.tables.specs.Slots.{kind_of, hi_of, slot_size, InTable, Slot, slot_at, set_slot, slot_words, tally_of, count_of, price_of, no_tally, with_link, with_clock, with_tally, with_date}
use Rattle.tables.specs.Sound.{is_untallied}

pub length-set_slot : (e : List ℕ) (s : ℕ) (r : Slot) → length (set_slot e s r) ≡ length e
unfolding set_slot
length-set_slot e s r = simp length-set

set_slot_outside : (e : List ℕ) (s : ℕ) (r : Slot) (i : ℕ) → (slot_size * s ≤ i → i ≤ slot_size * s + 4 → ⊥) → get_or (set_slot e s r) i 0 ≡ get_or e i 0
unfolding set_slot
set_slot_outside e s r i h =
    let n0 : i ≢ slot_size * s = λ q. h (omega arith) (omega arith) in
    let n1 : i ≢ slot_size * s + 1 = λ q. h (omega arith) (omega arith) in
    let n2 : i ≢ slot_size * s + 2 = λ q. h (omega arith) (omega arith) in
    let n3 : i ≢ slot_size * s + 3 = λ q. h (omega arith) (omega arith) in
    let n4 : i ≢ slot_size * s + 4 = λ q. h (omega arith) (omega arith) in
    simp (get_or-set_other, n0, n1, n2, n3, n4)

pub slot_other : (e : List ℕ) (s : ℕ) (r : Slot) (t : ℕ) → s ≢ t → slot_at (set_slot e s r) t ≡ slot_at e t
slot_other e s r t ne = simp (
  set_slot_outside e s r (slot_size * t) (λ a b. ne (omega arith)),
  set_slot_outside e s r (slot_size * t + 1) (λ a b. ne (omega arith)),
  set_slot_outside e s r (slot_size * t + 2) (λ a b. ne (omega arith)),
  set_slot_outside e s r (slot_size * t + 3) (λ a b. ne (omega arith)),
  set_slot_outside e s r (slot_size * t + 4) (λ a b. ne (omega arith)),
)

pub slot_same : (e : List ℕ) (s : ℕ) (r : Slot) → InTable e s → slot_at (set_slot e s r) s ≡ r
unfolding set_slot
slot_same e s r h =
    let l0 : slot_size * s < length e = omega arith in
    let l1 : slot_size * s + 1 < length e = omega arith in
    let l2 : slot_size * s + 2 < length e = omega arith in
    let l3 : slot_size * s + 3 < length e = omega arith in
    let l4 : slot_size * s + 4 < length e = omega arith in
    let n01 : slot_size * s ≢ slot_size * s + 1 = omega arith in
    let n02 : slot_size * s ≢ slot_size * s + 2 = omega arith in
    let n03 : slot_size * s ≢ slot_size * s + 3 = omega arith in
    let n12 : slot_size * s + 1 ≢ slot_size * s + 2 = omega arith in
    let n13 : slot_size * s + 1 ≢ slot_size * s + 3 = omega arith in
    let n23 : slot_size * s + 2 ≢ slot_size * s + 3 = omega arith in
    let n04 : slot_size * s ≢ slot_size * s + 4 = omega arith in
    let n14 : slot_size * s + 1 ≢ slot_size * s + 4 = omega arith in
    let n24 : slot_size * s + 2 ≢ slot_size * s + 4 = omega arith in
    let n34 : slot_size * s + 3 ≢ slot_size * s + 4 = omega arith in
    let counted : List ℕ = set (set (set e (slot_size * s) r.link) (slot_size * s + 1) r.span) (slot_size * s + 2) r.tally.count in
    let in4 : slot_size * s + 4 < length (set counted (slot_size * s + 3) r.stamp) = simp length-set l4 in
    simp (get_or-set_other, get_or-set_same, lt-length-set, in4)

-- A slot written as it is changes nothing.
pub slot_kept : (e : List ℕ) (s : ℕ) → set_slot e s (slot_at e s) ≡ e
unfolding set_slot
slot_kept e s = rw (
  set-get_or e (slot_size * s) 0,
  set-get_or e (slot_size * s + 1) 0,
  set-get_or e (slot_size * s + 2) 0,
  set-get_or e (slot_size * s + 3) 0,
  set-get_or e (slot_size * s + 4) 0,
)

-- Some words written are a slot of which the other words stay.
module _ (e : List ℕ) (s : ℕ) where
  kept : (f : List ℕ) (i : ℕ) → get_or f i 0 ≡ get_or e i 0 → set f i (get_or e i 0) ≡ f
  kept f i q = rw (← q) (set-get_or f i 0)

  pub link_written : (v : ℕ) → set e (slot_size * s) v ≡ set_slot e s (with_link v (slot_at e s))
  unfolding set_slot
  link_written v =
      let f = set e (slot_size * s) v in
      let n1 : slot_size * s + 1 ≢ slot_size * s = omega arith in
      let n2 : slot_size * s + 2 ≢ slot_size * s = omega arith in
      let n3 : slot_size * s + 3 ≢ slot_size * s = omega arith in
      let n4 : slot_size * s + 4 ≢ slot_size * s = omega arith in
      sym (rw (
        kept f (slot_size * s + 1) (get_or-set_other e (slot_size * s) (slot_size * s + 1) v 0 n1),
        kept f (slot_size * s + 2) (get_or-set_other e (slot_size * s) (slot_size * s + 2) v 0 n2),
        kept f (slot_size * s + 3) (get_or-set_other e (slot_size * s) (slot_size * s + 3) v 0 n3),
        kept f (slot_size * s + 4) (get_or-set_other e (slot_size * s) (slot_size * s + 4) v 0 n4),
      ))

  pub clock_written : (v : ℕ) → set e (slot_size * s + 1) v ≡ set_slot e s (with_clock v (slot_at e s))
  unfolding set_slot
  clock_written v =
      let f = set e (slot_size * s + 1) v in
      let n2 : slot_size * s + 2 ≢ slot_size * s + 1 = omega arith in
      let n3 : slot_size * s + 3 ≢ slot_size * s + 1 = omega arith in
      let n4 : slot_size * s + 4 ≢ slot_size * s + 1 = omega arith in
      sym (rw (
        set-get_or e (slot_size * s) 0,
        kept f (slot_size * s + 2) (get_or-set_other e (slot_size * s + 1) (slot_size * s + 2) v 0 n2),
        kept f (slot_size * s + 3) (get_or-set_other e (slot_size * s + 1) (slot_size * s + 3) v 0 n3),
        kept f (slot_size * s + 4) (get_or-set_other e (slot_size * s + 1) (slot_size * s + 4) v 0 n4),
      ))

  pub tally_written : (a : Tally) (t : ℕ) → set (set (set e (slot_size * s + 2) a.count) (slot_size * s + 3) t) (slot_size * s + 4) a.price
      ≡ set_slot e s (with_tally a t (slot_at e s))
  unfolding set_slot
  tally_written a t = sym (rw (set-get_or e (slot_size * s) 0, set-get_or e (slot_size * s + 1) 0))

  pub date_written : (d t : ℕ) → set (set e (slot_size * s + 2) d) (slot_size * s + 3) t ≡ set_slot e s (with_date d t (slot_at e s))
  date_written d t =
      let f = set e (slot_size * s + 2) d in
      let g = set f (slot_size * s + 3) t in
      let n2 : slot_size * s + 4 ≢ slot_size * s + 2 = omega arith in
      let n3 : slot_size * s + 4 ≢ slot_size * s + 3 = omega arith in
      let price : get_or g (slot_size * s + 4) 0 ≡ get_or e (slot_size * s + 4) 0 =
      get_or-set_other f (slot_size * s + 3) (slot_size * s + 4) t 0 n3 ∙ get_or-set_other e (slot_size * s + 2) (slot_size * s + 4) d 0 n2 in
      sym (kept g (slot_size * s + 4) price) ∙ tally_written (record { count = d; price = get_or e (slot_size * s + 4) 0 }) t

-- Two tables of n slots are equal where their slots are.
pub slots_equal : (n : ℕ) (e f : List ℕ) → length e ≡ slot_size * n → length f ≡ slot_size * n → ((s : ℕ) → s < n → slot_at e s ≡ slot_at f s) → e ≡ f
slots_equal n e f l m h = ext_get_or 0 e f (l ∙ sym m) at
  where
    at : (i : ℕ) → i < length e → get_or e i 0 ≡ get_or f i 0
    at i b = go (ℕ_discrete (i % slot_size) 0) (ℕ_discrete (i % slot_size) 1) (ℕ_discrete (i % slot_size) 2) (ℕ_discrete (i % slot_size) 3)
      where
        s : ℕ
        s = i / slot_size

        r : slot_at e s ≡ slot_at f s
        r = h s (omega arith)

        word : {k : ℕ} → i ≡ k → get_or e k 0 ≡ get_or f k 0 → get_or e i 0 ≡ get_or f i 0
        word q w = rw q w

        go : Dec (i % slot_size ≡ 0) → Dec (i % slot_size ≡ 1) → Dec (i % slot_size ≡ 2) → Dec (i % slot_size ≡ 3) → get_or e i 0 ≡ get_or f i 0
        go (yes a) y z x = word (omega arith) (ap (λ (w : Slot). w.link) r)
        go (no a) (yes y) z x = word (omega arith) (ap (λ (w : Slot). w.span) r)
        go (no a) (no y) (yes z) x = word (omega arith) (ap (λ (w : Slot). w.tally.count) r)
        go (no a) (no y) (no z) (yes x) = word (omega arith) (ap (λ (w : Slot). w.stamp) r)
        go (no a) (no y) (no z) (no x) = word (omega arith) (ap (λ (w : Slot). w.tally.price) r)

-- Slots laid one after the other.
pub length-slot_words : (rs : List Slot) → length (slot_words rs) ≡ slot_size * length rs
unfolding slot_words
length-slot_words [] = refl
length-slot_words (r ∷ rs) = omega (arith, length-slot_words rs)

pub slot_words_at : (rs : List Slot) (i : ℕ) (d : Slot) → i < length rs → slot_at (slot_words rs) i ≡ get_or rs i d
unfolding slot_words
slot_words_at [] i d h = absurd (omega arith)
slot_words_at (r ∷ rs) zero d h = refl
slot_words_at (r ∷ rs) (suc i) d h =
    let q0 : slot_size * suc i ≡ suc (suc (suc (suc (suc (slot_size * i))))) = omega arith in
    let q1 : slot_size * suc i + 1 ≡ suc (suc (suc (suc (suc (slot_size * i + 1))))) = omega arith in
    let q2 : slot_size * suc i + 2 ≡ suc (suc (suc (suc (suc (slot_size * i + 2))))) = omega arith in
    let q3 : slot_size * suc i + 3 ≡ suc (suc (suc (suc (suc (slot_size * i + 3))))) = omega arith in
    let q4 : slot_size * suc i + 4 ≡ suc (suc (suc (suc (suc (slot_size * i + 4))))) = omega arith in
    rw (q1, q2, q3, q4, q0) (slot_words_at rs i d (omega arith))

-- No tally, as a test and as a value.
module _ (e : List ℕ) (s : ℕ) where
  pub untallied : is_untallied e s ≡ true → tally_of e s ≡ no_tally
  untallied h =
      let count≡ : count_of e s ≡ 0 = eqb-true (count_of e s) 0 (and_left (eqb (count_of e s) 0) (eqb (price_of e s) 0) h) in
      let price≡ : price_of e s ≡ 0 = eqb-true (price_of e s) 0 (and_right (eqb (count_of e s) 0) (eqb (price_of e s) 0) h) in
      rw (count≡, price≡)

  pub is_untallied_by : tally_of e s ≡ no_tally → is_untallied e s ≡ true
  is_untallied_by h = and_intro (eqb (count_of e s) 0) (eqb (price_of e s) 0)
      (eq-eqb (count_of e s) 0 (ap (λ (a : Tally). a.count) h)) (eq-eqb (price_of e s) 0 (ap (λ (a : Tally). a.price) h))

-- The halves of a word of 32 bits.
module _ (e : List ℕ) (w : Fits32 e) (s : ℕ) where
  pub link_small : (slot_at e s).link ≤ 4294967295
  link_small = omega (arith, w (slot_size * s))

  pub kind_small : kind_of e s ≤ 65535
  kind_small = omega (arith, w (slot_size * s))

  pub hi_small : hi_of e s ≤ 65535
  hi_small = omega (arith, w (slot_size * s + 1))
