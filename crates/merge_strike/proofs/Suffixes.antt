-- The end of a list of cells: what holds of the whole holds of it.
use mathlib.Core.Path.{◌≡◌, refl, sym, ap, subst, ◌∙◌}
use mathlib.Core.Bool.{Bool}
use mathlib.Core.List.{List, [], ◌∷◌, ◌++◌}
use Prim.Native.Nat.{ℕ, ◌≤◌}
use lib.ListN.{take, drop, take-append-drop}
use Rattle.lists.specs.All.{All, Ascending}
use Rattle.lists.proofs.Bools.{cond_elim}
use Rattle.lists.proofs.Tests.{all_right}
use Rattle.tables.specs.Placed.{Cell}
use Rattle.chain_cells.specs.Cells.{cell_hi, cell_before}
use Rattle.chain_cells.specs.Order.{CellsOrdered}
use Rattle.chain_cover.specs.Skips.{drop_while}

-- The first list is the end of the second.
pub record Suffix {X : Type 0} (xs ys : List X) : Type 0 where
  pub before : List X
  pub whole : before ++ xs ≡ ys

module _ {X : Type 0} where
  pub drop_suffix : (k : ℕ) (xs ys : List X) → xs ≡ drop k ys → Suffix xs ys
  drop_suffix k xs ys q = record { before = take k ys; whole = ap (λ (zs : List X). take k ys ++ zs) q ∙ take-append-drop k ys }

  pub drop_while_suffix : (t : X → Bool) (xs : List X) → Suffix (drop_while t xs) xs
  unfolding drop_while
  drop_while_suffix t [] = record { before = []; whole = refl }
  drop_while_suffix t (x ∷ xs) =
      let s : Suffix (drop_while t xs) xs = drop_while_suffix t xs in
      cond_elim (λ l. Suffix l (x ∷ xs)) (t x) (drop_while t xs) (x ∷ xs)
      (λ p. record { before = x ∷ s.before; whole = ap (◌∷◌ x) s.whole }) (λ p. record { before = []; whole = refl })

  pub suffix_all : (P : X → Type 0) (xs ys : List X) → Suffix xs ys → All P ys → All P xs
  suffix_all P xs ys s a = all_right P s.before xs (subst (All P) (sym s.whole) a)

  ascending_end : (before : X → X → Bool) (ps xs : List X) → Ascending before (ps ++ xs) → Ascending before xs
  ascending_end before [] xs a = a
  ascending_end before (p ∷ ps) xs a = ascending_end before ps xs a.1

  suffix_ascending : (before : X → X → Bool) (xs ys : List X) → Suffix xs ys → Ascending before ys → Ascending before xs
  suffix_ascending before xs ys s a = ascending_end before s.before xs (subst (Ascending before) (sym s.whole) a)

pub suffix_ordered : (xs ys : List Cell) → Suffix xs ys → CellsOrdered ys → CellsOrdered xs
suffix_ordered xs ys s o = record { ascend = suffix_ascending cell_before xs ys s o.ascend; fit = suffix_all (λ c. cell_hi c ≤ 65535) xs ys s o.fit }
