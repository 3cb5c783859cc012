-- Lists of slots: how often a slot stands in one, and how many of a list pass a test.
use mathlib.Core.Path.{◌≡◌, refl, sym, ap, subst, ◌∙◌}
use mathlib.Core.Logic.{◌≢◌}
use mathlib.Core.Bool.{Bool, true, false, cond}
use mathlib.Core.List.{List, [], ◌∷◌}
use Prim.Native.Nat.{ℕ, ◌+◌, ◌≤◌}
use native.Mathlib.Omega.{arith}
use native.Mathlib.Decide.{ℕ_discrete}
use lib.Dec.{eqb}
use borrow.Author.Tests.{eqb-true}
use Rattle.lists.specs.Lists.{count}
use Rattle.lists.specs.All.{All}
use Rattle.tables.proofs.Cells.{times, times_other}

-- What all of a list have, each slot has that stands there.
pub all_there : (R : ℕ → Type 0) (ss : List ℕ) (i : ℕ) → All R ss → 1 ≤ times i ss → R i
unfolding count
all_there R [] i a h = absurd (omega arith)
all_there R (s ∷ ss) i a h = go (all_there R ss i a.1) (ℕ_discrete i s)
  where
    go : (1 ≤ times i ss → R i) → Dec (i ≡ s) → R i
    go ih (yes q) = subst R (sym q) a.0
    go ih (no q) = ih (omega (arith, times_other i s ss q))

module _ (t : ℕ → Bool) (i : ℕ) (ti : t i ≡ true) where
  -- A slot that passes is counted as often as it stands there; so are two.
  pub count_one : (ss : List ℕ) → times i ss ≤ count t ss
  unfolding count
  count_one [] = omega arith
  count_one (s ∷ ss) = go (eqb i s) refl (count_one ss)
    where
      go : (b : Bool) → eqb i s ≡ b → times i ss ≤ count t ss → cond b 1 0 + times i ss ≤ cond (t s) 1 0 + count t ss
      go true e ih = rw (ap t (sym (eqb-true i s e)) ∙ ti) (omega (arith, ih))
      go false e ih = omega (arith, ih)

  pub count_two : (j : ℕ) → t j ≡ true → i ≢ j → (ss : List ℕ) → times i ss + times j ss ≤ count t ss
  unfolding count
  count_two j tj ne [] = omega arith
  count_two j tj ne (s ∷ ss) = go (eqb i s) refl (eqb j s) refl (count_two j tj ne ss)
    where
      go : (b : Bool) → eqb i s ≡ b → (c : Bool) → eqb j s ≡ c → times i ss + times j ss ≤ count t ss
          → cond b 1 0 + times i ss + (cond c 1 0 + times j ss) ≤ cond (t s) 1 0 + count t ss
      go true e true f ih = absurd (ne (eqb-true i s e ∙ sym (eqb-true j s f)))
      go true e false f ih = rw (ap t (sym (eqb-true i s e)) ∙ ti) (omega (arith, ih))
      go false e true f ih = rw (ap t (sym (eqb-true j s f)) ∙ tj) (omega (arith, ih))
      go false e false f ih = omega (arith, ih)
