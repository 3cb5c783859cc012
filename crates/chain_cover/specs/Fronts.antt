-- Two places in a chain of ranges, for dockets that ascend.
use Rattle.std.specs.Prelude.{◌≡◌, ◌≢◌, Bool, true, cond, List, [], ◌∷◌, ℕ, ◌+◌, eqb, ltb}
use Rattle.tables.specs.Slots.{InTable, next_of, lo_of, hi_of}
use Rattle.tables.specs.Sound.{chain_from, ascend, order_key}
use Rattle.chain_cover.specs.Walks.{Ordered}
use Rattle.chain_cover.specs.Skips.{first_slot, reaching}
use Rattle.chain_cover.specs.declared.Front.{Front}

-- The ranges that a front stands for: the first, and those from the other place on.
unfoldable pub front_slots : List ℕ → Front → List ℕ
front_slots e f = cond (eqb f.first 0) [] (f.first ∷ chain_from e f.behind)

-- The front of a whole chain.
unfoldable pub front_at : List ℕ → ℕ → Front
front_at e h = record { first = h; behind = cond (eqb h 0) 0 (next_of e h) }

-- The range at slot s ends before docket k.
abbrev pub ended : List ℕ → ℕ → ℕ → Bool
ended e k s = ltb (hi_of e s) k

-- The chain from slot h on, without the ranges at its beginning that have ended.
abbrev pub reach : List ℕ → ℕ → ℕ → ℕ
reach e k h = first_slot (reaching e k (chain_from e h))

abbrev pub pass_behind : List ℕ → ℕ → Front → Front
pass_behind e k f = record { first = f.first; behind = reach e k f.behind }

-- Ranges that have ended are passed, at both places, unless the first is still to come.
unfoldable pub advanced : List ℕ → ℕ → Front → Front
advanced e k f =
    cond (eqb f.first 0) f
    (cond (ltb k (lo_of e f.first)) f
    (cond (ended e k f.first) (pass_behind e k (front_at e (reach e k f.behind))) (pass_behind e k f)))

-- The ranges of a front stand in the table, and ascend.
pub record FrontOrdered (e : List ℕ) (f : Front) : Type 0 where
  pub within : f.first ≢ 0 → InTable e f.first
  pub after : f.first ≢ 0 → ascend e (order_key e f.first + 1) (chain_from e f.behind) ≡ true
  pub rest : Ordered e f.behind
