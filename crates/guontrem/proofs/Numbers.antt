-- The merges of an accepted call have room in a byte.
use Rattle.std.proofs.Common.{◌≡◌, ap, List, ℕ, ◌≤◌, Ok, arith}
use Rattle.model.specs.declared.Tally.{Tally}
use Rattle.model.specs.Calls.{Call}
use Rattle.tables.specs.Words.{Fits32}
use Rattle.call_tables.specs.Calls.{Called, lent, call_tables}
use Rattle.call_tables.proofs.Bounds.{merges_most_12}
use Rattle.call_end.specs.declared.Answer.{Answer}
use Rattle.call_end.specs.Coded.{called}

pub merges_fit : (e l e' l' : List ℕ) (a : Answer) (c : Call Tally) → called e' l' (Ok a) ≡ call_tables (lent e l) c → Fits32 e → a.merges ≤ 255
merges_fit e l e' l' a c is fits = omega (arith, ap (λ (x : Called). x.answer.merges) is, merges_most_12 (lent e l) c fits)
