-- A slice whose first words were lent to a call.
use mathlib.Core.Path.{◌≡◌, sym, ap, ◌∙◌}
use mathlib.Core.List.{List, ◌++◌}
use Prim.Native.Nat.{ℕ, ◌≤◌}
use native.Mathlib.Omega.{arith}
use borrow.Author.Tests.{ltb-false}
use lib.Dec.{ltb}
use lib.ListN.{length, take, drop, take-append-drop}
use lib.Seq.{length-take-le}
use Rattle.tables.specs.Slots.{entry_length}
use Rattle.tables.specs.Rows.{level_length}
use Rattle.lists.proofs.Bools.{cond_elim}
use Rattle.script_store.specs.declared.Size.{Size}
use Rattle.script_store.specs.Memory.{level_room}
use Rattle.script_store.specs.Coded.{Room}

module _ (e : List ℕ) (n : ℕ) (room : n ≤ length e) where
  pub lent_length : n ≡ length (take n e)
  lent_length = sym (length-take-le n e room)

  -- The rest begins where the lent words end, which the call left as many as they were.
  pub rejoined : (p : List ℕ) → length p ≡ length (take n e) → p ++ drop n e ≡ p ++ drop (length p) e
  rejoined p kept = ap (λ (k : ℕ). p ++ drop k e) (lent_length ∙ sym kept)

-- A call that left the lent words as they were left the slice so.
pub unchanged : (e p : List ℕ) (n : ℕ) → p ≡ take n e → p ++ drop n e ≡ e
unchanged e p n same = ap (λ (w : List ℕ). w ++ drop n e) same ∙ take-append-drop n e

level_room_most : (deepest : ℕ) → level_room deepest ≤ 32
level_room_most deepest =
    cond_elim (λ (k : ℕ). k ≤ 32) (ltb 6 deepest) 32 (level_length deepest)
    (λ _. omega arith)
    (λ t. omega (arith, ltb-false 6 deepest t))

module _ {e l : List ℕ} (room : Room e l) where
  -- There is room for what a making is lent.
  pub make_entry_part : {n words : ℕ} → words ≡ entry_length n → n ≤ 3275 → words ≤ length e
  make_entry_part are few = let whole = room.entry_room in omega arith

  pub make_level_part : (deepest : ℕ) {rows : ℕ} → rows ≡ level_room deepest → rows ≤ length l
  make_level_part deepest are = let whole = room.level_room in omega (arith, level_room_most deepest)

  -- There is room for the store's tables.
  pub entry_part : (size : Size) {words : ℕ} → words ≡ entry_length size.slots → words ≤ length e
  entry_part size are = make_entry_part are size.few

  pub level_part : (size : Size) {rows : ℕ} → rows ≡ level_length size.deepest → rows ≤ length l
  level_part size are = let whole = room.level_room in let shallow = size.shallow in omega arith
