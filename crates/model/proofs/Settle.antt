-- After a pass no level from 0 to L−1 is due, whatever the state was: number 8 never comes.
use mathlib.Core.Path.{◌≡◌, refl, ap, ◌∙◌}
use mathlib.Core.Logic.{◌≢◌}
use mathlib.Core.Bool.{false}
use mathlib.Core.List.{List, [], ◌∷◌}
use Prim.Native.Nat.{ℕ, zero, suc, ◌+◌, ◌-◌, ◌≤◌, ◌<◌}
use native.Mathlib.Omega.{arith}
use native.Mathlib.Decide.{ℕ_discrete}
use lib.ListN.{get_or, set}
use lib.Seq.{get_or-set_other}
use borrow.Author.Tests.{le-ltb, lt-leb}
use Rattle.settings.specs.declared.Settings.{Settings}
use Rattle.settings.specs.Limits.{capacity}
use Rattle.lists.proofs.Bools.{cond_elim, or_false_intro}
use Rattle.lists.proofs.Loops.{iterate_holds}
use Rattle.model.specs.Records.{Level, State, empty, level}
use Rattle.model.specs.Merge.{joined}
use Rattle.model.specs.Steps.{Work, merge_state, merge_level, overfull, overdue, due, pass_level, pass, still_due}

get_set_default : {X : Type 0} (xs : List X) (i : ℕ) (d : X) → get_or (set xs i d) i d ≡ d
get_set_default [] i d = refl
get_set_default (x ∷ xs) zero d = refl
get_set_default (x ∷ xs) (suc i) d = get_set_default xs i d

module _ {S A : Type 0} where
  -- "All of row i becomes zero", and only rows i and i+1 change.
  pub merge_empties : (i : ℕ) (s : State S A) → level i (merge_state i s) ≡ empty
  unfolding merge_state
  merge_empties i s =
      get_or-set_other (set s.levels i empty) (suc i) i (joined _ (level i s) (level (suc i) s)) empty (omega arith)
      ∙ get_set_default s.levels i empty

  pub merge_other : (i k : ℕ) (s : State S A) → k ≢ i → k ≢ suc i → level k (merge_state i s) ≡ level k s
  unfolding merge_state
  merge_other i k s a b =
      get_or-set_other (set s.levels i empty) (suc i) k (joined _ (level i s) (level (suc i) s)) empty b
      ∙ get_or-set_other s.levels i k empty empty a

  -- An empty level is not due; for the buffer B must not be 0.
  pub due-empty : (settings : Settings) (t i : ℕ) (l : Level S A) → (i ≡ 0 → 0 < settings.buffer) → l ≡ empty → due settings t i l ≡ false
  unfolding due overfull overdue
  due-empty settings t zero l b e = rw (e, lt-leb settings.buffer 0 (b refl))
  due-empty settings t (suc i) l b e = rw (e, le-ltb (capacity settings (suc i)) 0 (omega arith))

  module _ (settings : Settings) (t : ℕ) where
    -- Level i is settled.
    abbrev SettledAt : ℕ → Work S A → Type 0
    SettledAt i w = (i ≡ 0 → 0 < settings.buffer) → due settings t i (level i w.state) ≡ false

    -- All levels before j are.
    Settled : ℕ → Work S A → Type 0
    Settled j w = (w.state.settings ≡ settings) × ((i : ℕ) → i < j → SettledAt i w)

    merged_settled : (j : ℕ) (w : Work S A) → Settled j w → Settled (suc j) (merge_level j w)
    unfolding Settled merge_level merge_state
    merged_settled j w p = (p.0, λ i a. go i a (ℕ_discrete i j))
      where
        go : (i : ℕ) → i < suc j → Dec (i ≡ j) → SettledAt i (merge_level j w)
        go i a (yes e) b = rw e (due-empty settings t j (level j (merge_state j w.state)) (rw e at b) (merge_empties j w.state))
        go i a (no e) b = rw (merge_other j i w.state e (omega arith)) (p.1 i (omega arith) b)

    kept_settled : (j : ℕ) (w : Work S A) → Settled j w → due settings t j (level j w.state) ≡ false → Settled (suc j) w
    unfolding Settled
    kept_settled j w p h = (p.0, λ i a. go i a (ℕ_discrete i j))
      where
        go : (i : ℕ) → i < suc j → Dec (i ≡ j) → SettledAt i w
        go i a (yes e) b = rw e h
        go i a (no e) b = p.1 i (omega arith) b

    pass_level_settled : (j : ℕ) (w : Work S A) → Settled j w → Settled (suc j) (pass_level t j w)
    unfolding pass_level Settled
    pass_level_settled j w p =
        cond_elim (Settled (suc j)) (due w.state.settings t j (level j w.state)) (merge_level j w) w
        (λ g. merged_settled j w p) (λ g. kept_settled j w p (rw p.0 at g))

  pass_settled : (t : ℕ) (w : Work S A) → Settled w.state.settings t (0 + w.state.settings.deepest) (pass t w)
  unfolding pass Settled
  pass_settled t w = iterate_holds (pass_level t) (Settled w.state.settings t) w.state.settings.deepest 0 w
      (λ j y a b. pass_level_settled w.state.settings t j y) (refl, λ i a b. absurd (omega arith))

  pub pass-settings : (t : ℕ) (w : Work S A) → (pass t w).state.settings ≡ w.state.settings
  unfolding Settled
  pass-settings t w = (pass_settled t w).0

  -- No level from 0 to L−1 is due after a pass at t.
  pub pass_leaves_none_due : (t : ℕ) (w : Work S A) (i : ℕ) → i < w.state.settings.deepest → (i ≡ 0 → 0 < w.state.settings.buffer)
      → due w.state.settings t i (level i (pass t w).state) ≡ false
  unfolding Settled
  pass_leaves_none_due t w i h b = (pass_settled t w).1 i (omega arith) b

  pub never_still_due : (t : ℕ) (w : Work S A) → still_due t (pass t w).state ≡ false
  unfolding still_due
  never_still_due t w = iterate_holds _ (λ i b. b ≡ false) _ 1 false (λ i b p q h. or_false_intro b _ h (at i p q)) refl
    where
      s : State S A
      s = (pass t w).state

      at : (i : ℕ) → 1 ≤ i → i < 1 + (s.settings.deepest - 1) → due s.settings t i (level i s) ≡ false
      at i p q =
          let same : s.settings ≡ w.state.settings = pass-settings t w in
          rw same (pass_leaves_none_due t w i (omega (arith, ap (λ (x : Settings). x.deepest) same)) (λ z. absurd (omega arith)))
