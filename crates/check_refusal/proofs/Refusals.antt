-- How large refusals 1 to 4 are, and what is known where none is met.
use mathlib.Core.Path.{◌≡◌, refl, sym, ◌∙◌}
use mathlib.Core.Bool.{Bool, true, false, cond, true≢false}
use mathlib.Core.List.{List}
use Prim.Native.Nat.{ℕ, ◌≤◌}
use native.Mathlib.Omega.{arith}
use lib.Dec.{eqb, ltb}
use borrow.Author.Tests.{eq-eqb, le-ltb, eqb-true, ltb-false}
use Rattle.lists.proofs.Bools.{or_false_left, or_false_right, or_false}
use Rattle.tables.specs.Sound.{table_refusal}
use Rattle.tables.proofs.Numbers.{tables_refuse_low}
use Rattle.check_refusal.specs.Dockets.{bad_dockets, docket_refusal}

-- They are 1 to 4.
pub dockets_refuse_low : (e l : List ℕ) (lo hi : ℕ) → docket_refusal e l lo hi ≤ 4
dockets_refuse_low e l lo hi = go (eqb (table_refusal e l) 0) (bad_dockets lo hi) (table_refusal e l) (tables_refuse_low e l)
  where
    go : (a b : Bool) (r : ℕ) → r ≤ 3 → cond a (cond b 4 0) r ≤ 4
    go true true r h = omega arith
    go true false r h = omega arith
    go false b r h = omega arith

neither : (b c : Bool) (r : ℕ) → eqb r 0 ≡ b → cond b (cond c 4 0) r ≡ 0 → (r ≡ 0) × (c ≡ false)
neither true true r p h = absurd (true≢false (sym (eq-eqb 4 0 h)))
neither true false r p h = (eqb-true r 0 p, refl)
neither false c r p h = absurd (true≢false (sym (eq-eqb r 0 h) ∙ p))

-- A call that meets none of them: the tables are sound, hi is a docket, and lo is not above it.
module _ (e l : List ℕ) (lo hi : ℕ) (z : docket_refusal e l lo hi ≡ 0) where
  none_met : (table_refusal e l ≡ 0) × (bad_dockets lo hi ≡ false)
  none_met = neither (eqb (table_refusal e l) 0) (bad_dockets lo hi) (table_refusal e l) refl z

  pub allowed_sound : table_refusal e l ≡ 0
  allowed_sound = none_met.0

  pub allowed_dockets : bad_dockets lo hi ≡ false
  allowed_dockets = none_met.1

  pub allowed_high : hi ≤ 65535
  allowed_high = ltb-false 65535 hi (or_false_left (ltb 65535 hi) (ltb hi lo) allowed_dockets)

  pub allowed_order : lo ≤ hi
  allowed_order = ltb-false hi lo (or_false_right (ltb 65535 hi) (ltb hi lo) allowed_dockets)

-- A call of one docket, or of none, has no lo above its hi.
pub one_docket : (k : ℕ) → ltb 65535 k ≡ bad_dockets k k
one_docket k = rw (le-ltb k k (omega arith)) (sym (or_false (ltb 65535 k)))
