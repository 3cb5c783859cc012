-- What each turn of the walk for a point, and each way out of it, says of the whole chain.
use mathlib.Core.Path.{◌≡◌}
use mathlib.Core.Logic.{◌≢◌}
use mathlib.Core.List.{List, map}
use Prim.Native.Nat.{ℕ, ◌<◌}
use borrow.Author.Tests.{eq-eqb, ne_eqb}
use Rattle.tables.specs.Words.{Fits32}
use Rattle.tables.specs.Slots.{next_of, lo_of}
use Rattle.tables.specs.Sound.{chain_from}
use Rattle.tables.specs.Placed.{read_point}
use Rattle.chain_cover.proofs.Chains.{On, chain_end, past}
use Rattle.lookup_level.specs.declared.Decided.{Decided}
use Rattle.lookup_level.specs.declared.Decided.TheVariants.{Deeper}
use Rattle.lookup_level.specs.Answers.{tells, decides}
use Rattle.lookup_level.proofs.Answers.{decides_past}

-- What the points of the chain from h say of docket k, by the latest date met so far.
abbrev pub points_say : List ℕ → ℕ → ℕ → ℕ → Decided
points_say e h date k = decides date (map (read_point e) (chain_from e h)) k

module _ (e : List ℕ) (h date k : ℕ) where
  pub points_end : h ≡ 0 → points_say e h date k ≡ Deeper date
  unfolding decides
  points_end z = rw (chain_end e h z)

  module _ (on : On e h) where
    pub points_past : Fits32 e → k < lo_of e h → points_say e h date k ≡ Deeper date
    points_past words lt = decides_past date e k (chain_from e h) (past e words h k on lt)

    pub points_here : lo_of e h ≡ k → points_say e h date k ≡ tells date (read_point e h).entry (read_point e h).stamp
    unfolding decides
    points_here q = rw (on.whole, eq-eqb (lo_of e h) k q)

    pub points_next : lo_of e h ≢ k → points_say e h date k ≡ points_say e (next_of e h) date k
    unfolding decides
    points_next n = rw (on.whole, ne_eqb (lo_of e h) k n)
