-- The words of a level's row fit: the first slots of two chains that a table holds, and the number of their cells.
use mathlib.Core.List.{List, ◌∷◌, map}
use Prim.Native.Nat.{ℕ, ◌+◌, ◌≤◌}
use native.Mathlib.Omega.{arith}
use lib.ListN.{length}
use Rattle.tables.specs.Placed.{Cell, free_cell, head}
use Rattle.tables.proofs.Reading.{head_small}
use Rattle.chain_cells.specs.Held.{Held}
use Rattle.chain_cells.proofs.Reading.{all_counted}

module _ {n clock : ℕ} {free : List ℕ} {a b : List Cell} {others : List (List Cell)} {e : List ℕ} (h : Held n clock free (a ∷ b ∷ others) e) where
  pub first_head_fits : head a ≤ 65535
  first_head_fits = omega (arith, h.small, head_small n e a h.holds.each.1.0)

  pub second_head_fits : head b ≤ 65535
  second_head_fits = omega (arith, h.small, head_small n e b h.holds.each.1.1.0)

  pub two_few : length a + length b ≤ 65535
  two_few = omega (arith, h.small, all_counted n (map free_cell free ∷ a ∷ b ∷ others) h.once)
