-- What the code answers for a call.
use mathlib.Core.Path.{◌≡◌, ap, ◌∙◌}
use mathlib.Core.List.{List, [], ◌∷◌, ◌++◌}
use Prim.Native.Nat.{ℕ}
use lib.ListN.{length, take, drop}
use Rattle.tables.specs.Slots.{entry_length}
use Rattle.tables.specs.Rows.{level_length}
use Rattle.model.specs.declared.Tally.{Tally}
use Rattle.model.specs.Calls.{Call}
use Rattle.call_tables.specs.Calls.{Called, lent, call_tables}
use Rattle.call_end.specs.declared.Answer.{Answer}
use Rattle.call_end.specs.Coded.{called}
use Rattle.std.proofs.Common.{Result}
use Rattle.refusals.specs.declared.Refusal.{Refusal}
use Rattle.lookup.specs.Lookup as lookup
use Rattle.lookup.specs.Lookup.{lookup_tables}
use Rattle.script_prints.specs.declared.Printed.{Printed}
use Rattle.script_prints.specs.Texts.{numbers_of}
use Rattle.script_store.specs.declared.Size.{Size}
use Rattle.script_store.specs.Memory.{Memory, Stepped, with_tables, does, finds}
use Rattle.script_store.specs.Coded.{Room, memory, counting, finding}
use Rattle.script_store.proofs.Parts.{rejoined, entry_part, level_part}

abbrev did : Memory → Called → Stepped
did m r = record { memory = with_tables m r.tables; printed = r.answer.refusal ∷ r.answer.merges ∷ r.answer.purged ∷ [] }

abbrev tells : Memory → lookup.Answer Tally → Stepped
tells m a = record { memory = m; printed = numbers_of (finding a) }

-- A call that is lent the store's words and rows.
module _ {e l : List ℕ} (room : Room e l) (size : Size) {words rows : ℕ}
    (words_are : words ≡ entry_length size.slots) (rows_are : rows ≡ level_length size.deepest) where
  -- What a store of this size prints over such tables.
  abbrev printing : List ℕ → List ℕ → Printed → Stepped
  printing p q printed = record { memory = memory p q size.slots size.deepest; printed = numbers_of printed }

  abbrev before : Memory
  before = memory e l size.slots size.deepest

  -- p and q are what the call leaves of them.
  pub done : (c : Call Tally) (p q : List ℕ) (a : Result Answer Refusal) → called p q a ≡ call_tables (lent (take words e) (take rows l)) c
      → length p ≡ length (take words e) → length q ≡ length (take rows l)
      → printing (p ++ drop words e) (q ++ drop rows l) (counting a) ≡ does c before
  unfolding does
  done c p q a told p-kept q-kept =
      (λ i. printing (rejoined e words (entry_part room size words_are) p p-kept i) (rejoined l rows (level_part room size rows_are) q q-kept i) (counting a))
      ∙ ap (did before) told
      ∙ (λ i. did before (call_tables (lent (take (words_are i) e) (take (rows_are i) l)) c))

  -- The turn that prints an answer's numbers.
  pub found : (k : ℕ) (a : lookup.Answer Tally) {printed : Printed} → a ≡ lookup_tables (take words e) (take rows l) k → printed ≡ finding a
      → printing e l printed ≡ finds k before
  unfolding finds
  found k a told prints =
      ap (printing e l) prints
      ∙ ap (tells before) told
      ∙ (λ i. tells before (lookup_tables (take (words_are i) e) (take (rows_are i) l) k))
