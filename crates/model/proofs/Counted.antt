-- What merges were counted before has no part in what follows: it is only added.
use mathlib.Core.Path.{◌≡◌, refl, sym, ap, ◌∙◌}
use mathlib.Core.Bool.{Bool, true, false, cond}
use Prim.Native.Nat.{ℕ, suc, ◌+◌}
use native.Mathlib.Omega.{arith}
use lib.Dec.{eqb}
use Rattle.lists.proofs.Bools.{cond_ap}
use Rattle.lists.proofs.Loops.{iterate_map}
use Rattle.model.specs.Records.{level, held}
use Rattle.model.specs.Steps.{Work, begin, merge_level, due, pass_level, pass}

counted : (k : ℕ) (b : Bool) (m : ℕ) → cond b (k + m) (suc (k + m)) ≡ k + cond b m (suc m)
counted k true m = refl
counted k false m = omega arith

module _ {S A : Type 0} (k : ℕ) where
  -- Work with k merges more.
  abbrev pub add : Work S A → Work S A
  add w = record { state = w.state; merges = k + w.merges }

  pub merge_level_adds : (i : ℕ) (w : Work S A) → merge_level i (add w) ≡ add (merge_level i w)
  unfolding merge_level
  merge_level_adds i w = rw (counted k (eqb (held (level i w.state)) 0) w.merges)

  pub pass_level_adds : (t i : ℕ) (w : Work S A) → pass_level t i (add w) ≡ add (pass_level t i w)
  unfolding pass_level
  pass_level_adds t i w = rw (merge_level_adds i w) (sym (cond_ap add (due w.state.settings t i (level i w.state)) (merge_level i w) w))

  pub pass_adds : (t : ℕ) (w : Work S A) → pass t (add w) ≡ add (pass t w)
  unfolding pass
  pass_adds t w = iterate_map add (pass_level t) (pass_level t) (pass_level_adds t) w.state.settings.deepest 0 w

-- The pass of some work is that of its state, with the merges before it.
pub pass_after : {S A : Type 0} (t : ℕ) (w : Work S A) → pass t w ≡ add w.merges (pass t (begin w.state))
pass_after t w = let none : w.merges + 0 ≡ w.merges = omega arith in ap (λ (m : ℕ). pass t (record { state = w.state; merges = m })) (sym none) ∙ pass_adds w.merges t (begin w.state)
