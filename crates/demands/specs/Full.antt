-- Demand 1 on the tables, when a put is refused 7: every slot holds a different live docket, and the put's is not among them.
use Rattle.std.specs.Prelude.{◌≡◌, ◌≢◌, ℕ, ◌≤◌}
use Rattle.tables.specs.Slots.{slots_of, kind_of, lo_of, tally_of, stamp_of}
use Rattle.lookup.specs.Lookup.{Found, lookup_tables}
use Rattle.call_tables.specs.Calls.{Tables}

-- "every slot from 1 to N"
abbrev pub IsSlot : Tables → ℕ → Type 0
IsSlot w i = (1 ≤ i) × (i ≤ slots_of w.entries)

-- Live is a docket that a lookup finds: slot i holds a put, and a lookup of its docket finds the slot's tally and stamp.
pub record HoldsLive (w : Tables) (i : ℕ) : Type 0 where
  pub is_put : kind_of w.entries i ≡ 1
  pub found : lookup_tables w.entries w.levels (lo_of w.entries i) ≡ Found (tally_of w.entries i) (stamp_of w.entries i)

-- Every slot holds a different live docket, and docket k is not among them.
pub record SlotsLive (k : ℕ) (w : Tables) : Type 0 where
  pub every : (i : ℕ) → IsSlot w i → HoldsLive w i
  pub different : (i j : ℕ) → IsSlot w i → IsSlot w j → lo_of w.entries i ≡ lo_of w.entries j → i ≡ j
  pub without : (i : ℕ) → IsSlot w i → lo_of w.entries i ≢ k
