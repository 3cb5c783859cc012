-- Numbers of records: what a merge and the wiping of deletes leave, and that all of a table's records are at most its slots.
use mathlib.Core.Path.{◌≡◌}
use mathlib.Core.List.{List, ◌∷◌, map}
use Prim.Native.Nat.{ℕ, ◌+◌, ◌≤◌}
use native.Mathlib.Omega.{arith}
use lib.ListN.{length, length-append, length-map}
use Rattle.lists.specs.Lists.{select, reject}
use Rattle.lists.proofs.Tests.{length-select}
use Rattle.lists.proofs.Merges.{length-merge}
use Rattle.model.specs.declared.Tally.{Tally}
use Rattle.model.specs.Records.{Level, is_put, held}
use Rattle.model.specs.Merge.{point_before, range_before, point_goes, range_goes, later, merged, settled}
use Rattle.tables.specs.Placed.{Cell, free_cell}
use Rattle.tables.proofs.Cells.{chain_slots}
use Rattle.chain_cells.specs.Held.{Held}

pub held-merged : (u l : Level ℕ Tally)
    → held (merged u l) + length (select (point_goes u) l.points) + length (select (range_goes u.ranges) l.ranges) ≡ held u + held l
unfolding merged
held-merged u l = omega (
  arith,
  length-merge point_before u.points (reject (point_goes u) l.points),
  length-merge range_before (map (later l.ranges) u.ranges) (reject (range_goes u.ranges) l.ranges),
  length-map u.ranges (later l.ranges),
  length-select (point_goes u) l.points,
  length-select (range_goes u.ranges) l.ranges,
)

pub held-settled : (l : Level ℕ Tally) → held (settled l) + length (reject (λ p. is_put p.entry) l.points) + length l.ranges ≡ held l
unfolding settled
held-settled l = omega (arith, length-select (λ p. is_put p.entry) l.points)

chain_length : (c : List Cell) (cs : List (List Cell)) → length (chain_slots (c ∷ cs)) ≡ length c + length (chain_slots cs)
chain_length c cs = omega (arith, length-append (map (λ (x : Cell). x.slot) c) (chain_slots cs), length-map c (λ (x : Cell). x.slot))

-- The cells of four chains are at most the slots of a table.
pub four_few : {n clock : ℕ} {free : List ℕ} {a b c d : List Cell} {others : List (List Cell)} {e : List ℕ} → Held n clock free (a ∷ b ∷ c ∷ d ∷ others) e
    → length a + length b + length c + length d ≤ 65535
four_few {free = free} {a = a} {b = b} {c = c} {d = d} {others = others} h = omega (
  arith,
  h.small,
  h.once.number,
  chain_length (map free_cell free) (a ∷ b ∷ c ∷ d ∷ others),
  chain_length a (b ∷ c ∷ d ∷ others),
  chain_length b (c ∷ d ∷ others),
  chain_length c (d ∷ others),
  chain_length d others,
)
