-- Spans and keys: cells of one span have one key, and the other way round.
use mathlib.Core.Path.{◌≡◌, ap}
use mathlib.Core.Logic.{◌≢◌}
use mathlib.Core.Bool.{true, false}
use Prim.Native.Nat.{ℕ, ◌+◌, ◌*◌, ◌/◌, ◌%◌, ◌≤◌}
use native.Mathlib.Omega.{arith}
use borrow.Author.Tests.{eq-eqb, ne_eqb, ltb-true, lt-ltb}
use Rattle.tables.specs.Placed.{Cell}
use Rattle.chain_cells.specs.Cells.{cell_hi, cell_key, cell_before}
use Rattle.merge_unite.specs.Uniting.{same_span}

module _ (c d : Cell) where
  pub other_span : cell_key c ≢ cell_key d → same_span c d ≡ false
  other_span ne = ne_eqb c.span d.span (λ q. ne (ap (λ (s : ℕ). s % 65536 * 65536 + s / 65536) q))

  pub one_span : cell_hi c ≤ 65535 → cell_hi d ≤ 65535 → cell_key c ≡ cell_key d → same_span c d ≡ true
  one_span a b q = eq-eqb c.span d.span (omega arith)

  pub before_other : cell_before c d ≡ true → cell_key c ≢ cell_key d
  before_other h q = absurd (omega (arith, ltb-true (cell_key c) (cell_key d) h))

  pub after_other : cell_before c d ≡ true → cell_key d ≢ cell_key c
  after_other h q = absurd (omega (arith, ltb-true (cell_key c) (cell_key d) h))

pub before_trans : (c d f : Cell) → cell_before c d ≡ true → cell_before d f ≡ true → cell_before c f ≡ true
before_trans c d f p q = lt-ltb (cell_key c) (cell_key f) (omega (arith, ltb-true (cell_key c) (cell_key d) p, ltb-true (cell_key d) (cell_key f) q))
