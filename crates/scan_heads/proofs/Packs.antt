-- A head and its three parts.
use mathlib.Core.Path.{◌≡◌}
use mathlib.Core.Logic.{◌≢◌}
use mathlib.Core.List.{List, [], ◌∷◌}
use Prim.Native.Nat.{ℕ, ◌-◌, ◌<◌, ◌≤◌}
use native.Mathlib.Omega.{arith}
use native.Mathlib.Decide.{ℕ_discrete}
use Rattle.lists.specs.All.{All}
use Rattle.tables.specs.Words.{Fits32}
use Rattle.tables.specs.Slots.{next_of, lo_of}
use Rattle.tables.specs.Sound.{chain_from}
use Rattle.chain_cover.proofs.Chains.{On, chain_end, past}
use Rattle.scan_heads.specs.Heads.{first_lo, key_from, head_at, key_of, level_of, slot_of}

first_lo_bound : (e ss : List ℕ) → first_lo e ss ≤ 65536
first_lo_bound e [] = omega arith
first_lo_bound e (s ∷ ss) = omega arith

module _ (e : List ℕ) where
  pub key_bound : (s : ℕ) → key_from e s ≤ 65536
  key_bound s = first_lo_bound e (chain_from e s)

  -- Nothing is to come from slot 0 on, and what is to come before the last docket's end has a slot.
  pub key_none : (s : ℕ) → s ≡ 0 → key_from e s ≡ 65536
  key_none s z = rw (chain_end e s z)

  pub key_some : (s : ℕ) → key_from e s < 65536 → s ≢ 0
  key_some s lt z = omega (arith, key_none s z)

  pub key_on : (s : ℕ) → On e s → key_from e s ≡ lo_of e s
  key_on s on = rw on.whole

  -- The next record of a chain begins no earlier.
  pub key_next : Fits32 e → (s : ℕ) → On e s → key_from e s ≤ key_from e (next_of e s)
  key_next words s on = rw (key_on s on) (go (ℕ_discrete (lo_of e s) 0))
    where
      least : (k : ℕ) (ss : List ℕ) → k < 65536 → All (λ t. k < lo_of e t) ss → k < first_lo e ss
      least k [] lt all = lt
      least k (t ∷ ts) lt all = all.0

      go : Dec (lo_of e s ≡ 0) → lo_of e s ≤ key_from e (next_of e s)
      go (yes z) = omega arith
      go (no n) =
          let past_all : All (λ t. lo_of e s - 1 < lo_of e t) (s ∷ chain_from e (next_of e s)) =
          rw on.whole at (past e words s (lo_of e s - 1) on (omega arith))
          in
          omega (arith, least (lo_of e s - 1) (chain_from e (next_of e s)) (omega arith) past_all.1)

module _ (e : List ℕ) (i s : ℕ) (small : i < 65536) (low : s < 65536) where
  pub head_key : key_of (head_at e i s) ≡ key_from e s
  head_key = omega arith

  pub head_level : level_of (head_at e i s) ≡ i
  head_level = omega arith

  pub head_slot : slot_of (head_at e i s) ≡ s
  head_slot = omega arith
