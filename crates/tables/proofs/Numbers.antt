-- The tables' own refusals are 1 to 3.
use mathlib.Core.Bool.{Bool, true, false, cond}
use mathlib.Core.List.{List}
use Prim.Native.Nat.{ℕ, ◌≤◌}
use native.Mathlib.Omega.{arith}
use Rattle.tables.specs.Sound.{entries_fit, levels_fit, chains_sound, table_refusal}

pub tables_refuse_low : (e l : List ℕ) → table_refusal e l ≤ 3
unfolding table_refusal
tables_refuse_low e l = go (entries_fit e) (levels_fit l) (chains_sound e l)
  where
    go : (a b c : Bool) → cond a (cond b (cond c 0 3) 2) 1 ≤ 3
    go true true true = omega arith
    go true true false = omega arith
    go true false c = omega arith
    go false b c = omega arith
