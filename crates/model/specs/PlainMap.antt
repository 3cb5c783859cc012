-- Demand 2's plain map, which a store is held against: rows of live dockets, at most as many as there are slots. It knows no level, no slot and no merge.
use Rattle.std.specs.Prelude.{Bool, false, cond, ◌&&◌, not, List, [], ◌∷◌, ℕ, leb, eqb, length}
use Rattle.lists.specs.Lists.{any, reject}
use Rattle.model.specs.Steps.{write_covers, put, delete, delete_range}
use Rattle.model.specs.Lookup.{Found, absent, found, Row}
use Rattle.model.specs.Calls.{Op, written, flush, tick, Call, early_refusal}

-- The last accepted clock, and the live dockets' rows.
pub record PlainMap (A : Type 0) : Type 0 where
  pub clock : ℕ
  pub rows : List (Row A)

module _ {A : Type 0} where
  -- What the map has for a docket.
  unfoldable pub get : List (Row A) → ℕ → Found A
  get [] k = absent
  get (r ∷ rs) k = cond (eqb r.key k) (found r.tally r.stamp) (get rs k)

  abbrev pub has_key : ℕ → Row A → Bool
  has_key k r = eqb r.key k

  -- A put sets its docket's row; a delete takes away what it covers; flush and tick change nothing.
  unfoldable pub changed : ℕ → Op A → List (Row A) → List (Row A)
  changed t (written (put k a)) rs = record { key = k; tally = a; stamp = t } ∷ reject (has_key k) rs
  changed t (written (delete k)) rs = reject (λ r. write_covers {A = A} (delete k) r.key r.stamp) rs
  changed t (written (delete_range lo hi date)) rs = reject (λ r. write_covers {A = A} (delete_range lo hi date) r.key r.stamp) rs
  changed t flush rs = rs
  changed t tick rs = rs

  -- A put of another docket into a map of as many rows as slots.
  abbrev pub map_full : ℕ → Op A → List (Row A) → Bool
  map_full slots (written (put k a)) rs = leb slots (length rs) && not (any (has_key k) rs)
  map_full slots (written (delete k)) rs = false
  map_full slots (written (delete_range lo hi date)) rs = false
  map_full slots flush rs = false
  map_full slots tick rs = false

  -- Refusals 4, 5, 10 and 7, in the table's order.
  unfoldable pub map_refusal : ℕ → PlainMap A → Call A → ℕ
  map_refusal slots m c =
      let early = early_refusal m.clock c in
      cond (eqb early 0) (cond (map_full slots c.op m.rows) 7 0) early

  -- A refused call changes nothing.
  unfoldable pub map_step : ℕ → PlainMap A → Call A → PlainMap A
  map_step slots m c =
      cond (eqb (map_refusal slots m c) 0)
      (record { clock = c.clock; rows = changed c.clock c.op m.rows })
      m

  -- The map after a list of calls, and what refusals they meet.
  unfoldable pub map_run : ℕ → PlainMap A → List (Call A) → PlainMap A
  map_run slots m [] = m
  map_run slots m (c ∷ cs) = map_run slots (map_step slots m c) cs

  unfoldable pub map_refusals : ℕ → PlainMap A → List (Call A) → List ℕ
  map_refusals slots m [] = []
  map_refusals slots m (c ∷ cs) = map_refusal slots m c ∷ map_refusals slots (map_step slots m c) cs

  -- The map of a fresh store.
  abbrev pub no_rows : PlainMap A
  no_rows = record { clock = 0; rows = [] }
