-- What a walk along a chain answers and marks, slot by slot.
use Rattle.std.specs.Prelude.{Option, Some, None, cond, List, [], ◌∷◌, ℕ, zero, suc, ◌+◌, eqb}
use Rattle.check_marks.specs.Marks.{mark_of, with_mark}
use Rattle.tables.specs.Sound.{order_key}
use Rattle.check_walk.specs.Slots.{Asked, slot_fits}

-- An answer, and every byte of the marks that are left.
pub record Marked (A : Type 0) : Type 0 where
  pub answer : A
  pub marks : List ℕ

-- What comes after an answer, with its count where there is one; the marks are handed on.
abbrev pub after : {A : Type 0} → Marked (Option ℕ) → (ℕ → List ℕ → Marked A) → (List ℕ → Marked A) → Marked A
after w counted stops = elim w.answer [ Some count ↦ counted count w.marks | None ↦ stops w.marks ]

-- What does not fit counts no slot; the marks so far stay.
abbrev pub stopped : List ℕ → Marked (Option ℕ)
stopped m = record { answer = None; marks = m }

-- The walk along some slots, where count slots have been passed, up to the first slot that does not fit.
unfoldable pub walked : Asked → List ℕ → ℕ → ℕ → ℕ → List ℕ → List ℕ → Marked (Option ℕ)
walked asked e owed least count m [] = record { answer = Some count; marks = m }
walked asked e owed least count m (s ∷ ss) =
    cond (slot_fits asked e owed least s m) (walked asked e owed (order_key e s + 1) (count + 1) (with_mark m s) ss) (stopped m)

-- How many of the slots 1 to n have no mark.
unfoldable pub unmarked : ℕ → List ℕ → ℕ
unmarked zero m = 0
unmarked (suc n) m = cond (eqb (mark_of m (suc n)) 0) 1 0 + unmarked n m
