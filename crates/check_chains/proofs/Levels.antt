-- Laws of the loop over the levels and of what the chains ask before it, as the code asks them.
use mathlib.Core.Path.{◌≡◌, sym, ap, ◌∙◌}
use mathlib.Core.Bool.{true}
use mathlib.Core.List.{List}
use Prim.Native.Nat.{ℕ, zero, suc, ◌+◌, ◌-◌, ◌*◌, ◌<◌, ◌≤◌}
use native.Mathlib.Omega.{arith}
use native.Mathlib.Numerals.{sub-one, add-one}
use lib.Dec.{eqb}
use lib.ListN.{length}
use Rattle.lists.proofs.Bools.{and_right}
use Rattle.tables.specs.Slots.{slots_of, first_free}
use Rattle.tables.specs.Rows.{settings_of}
use Rattle.tables.specs.Sound.{chain_from, free_chain, level_sound}
use Rattle.std.specs.Prelude.{Option, Some, None, is_some}
use Rattle.check_forms.specs.Forms.{free_fits}
use Rattle.check_walk.specs.Walks.{Marked, after, walked, unmarked}
use Rattle.check_walk.proofs.Each.{unmarked_each}
use Rattle.check_walk.proofs.Passed.{passed_sum}
use Rattle.check_level.specs.Levels.{leveled, fitting}
use Rattle.check_level.proofs.Passed.{level_slots, level_passes}
use Rattle.check_chains.specs.Levels.{unfit, levels_checked, words_fit, chains_checked}
use Rattle.check_chains.proofs.Means.{level_nonzero, level_means}

-- The loop over the levels, at level i: the levels left give what all of them give.
pub record Levels (e l m₀ : List ℕ) (free : ℕ) (m : List ℕ) (total i : ℕ) : Type 0 where
  pub upto : i ≤ (settings_of l).deepest + 1
  pub len : length m ≡ length m₀
  pub sum : total + unmarked (slots_of e) m ≡ free + unmarked (slots_of e) m₀
  pub rest : levels_checked e l ((settings_of l).deepest + 1 - i) i m total ≡ levels_checked e l ((settings_of l).deepest + 1) 0 m₀ free

unroll : (e l : List ℕ) (j i : ℕ) (m : List ℕ) (total : ℕ) → 0 < j
    → levels_checked e l j i m total ≡ after (fitting (leveled e l i m)) (λ count marks. levels_checked e l (j - 1) (i + 1) marks (total + count)) unfit
unfolding levels_checked
unroll e l zero i m total h = absurd (omega arith)
unroll e l (suc j) i m total h = simp (sub-one, add-one)

pub level_sum : (e l : List ℕ) (i : ℕ) (m : List ℕ) {m' : List ℕ} {a : Option ℕ} {k : ℕ} → slots_of e < 8 * length m
    → record { answer = a; marks = m' } ≡ fitting (leveled e l i m) → a ≡ Some k → k + unmarked (slots_of e) m' ≡ unmarked (slots_of e) m
level_sum e l i m room w q =
    let ss = level_slots e l i in
    let fits = ap (λ (x : Marked (Option ℕ)). is_some x.answer) (sym w) ∙ ap is_some q in
    let blank = and_right (level_sound e l i) (unmarked_each (slots_of e) m ss) (sym (level_means e l i m) ∙ fits) in
    passed_sum (slots_of e) m ss room (level_nonzero e l i) blank (rw (← q) (w ∙ level_passes e l i m fits))

module _ {e l m₀ : List ℕ} {free : ℕ} where
  module _ {m : List ℕ} {total i : ℕ} (g : Levels e l m₀ free m total i) where
    pub levels_end : (settings_of l).deepest < i
        → record { answer = eqb total (slots_of e); marks = m } ≡ levels_checked e l ((settings_of l).deepest + 1) 0 m₀ free
    unfolding levels_checked
    levels_end h = rw none at g.rest
      where
        none : (settings_of l).deepest + 1 - i ≡ 0
        none = omega (arith, h)

    module _ (more : i ≤ (settings_of l).deepest) {m' : List ℕ} {a : Option ℕ} (w : record { answer = a; marks = m' } ≡ fitting (leveled e l i m)) where
      here : after (record { answer = a; marks = m' })
          (λ count marks. levels_checked e l ((settings_of l).deepest + 1 - i - 1) (i + 1) marks (total + count)) unfit
          ≡ levels_checked e l ((settings_of l).deepest + 1) 0 m₀ free
      here = rw (← w) at (sym (unroll e l ((settings_of l).deepest + 1 - i) i m total (omega arith)) ∙ g.rest)

      pub levels_fail : a ≡ None → unfit m' ≡ levels_checked e l ((settings_of l).deepest + 1) 0 m₀ free
      levels_fail q = rw q at here

      pub levels_go : {k : ℕ} → a ≡ Some k → slots_of e < 8 * length m → length m' ≡ length m → Levels e l m₀ free m' (total + k) (i + 1)
      levels_go q room len =
          let less : (settings_of l).deepest + 1 - (i + 1) ≡ (settings_of l).deepest + 1 - i - 1 = omega arith in
          record {
            upto = omega arith;
            len = len ∙ g.len;
            sum = omega (arith, g.sum, level_sum e l i m room w q);
            rest = rw less (rw q at here);
          }

-- The chains once the words beside them are right, after a walk along the free chain.
module _ (e l m : List ℕ) (words : words_fit e l ≡ true) {first : ℕ} (is : first ≡ first_free e) {m1 : List ℕ} {a : Option ℕ}
    (w : record { answer = a; marks = m1 } ≡ walked free_fits e 0 0 0 m (chain_from e first)) where
  free_walked : {b : Option ℕ} → a ≡ b → record { answer = b; marks = m1 } ≡ walked free_fits e 0 0 0 m (free_chain e)
  free_walked q = rw (← q) (rw is at w)

  pub chains_fail : a ≡ None → unfit m1 ≡ chains_checked e l m
  unfolding chains_checked
  chains_fail q = rw (words, ← (free_walked q))

  pub chains_go : {f : ℕ} → a ≡ Some f → levels_checked e l ((settings_of l).deepest + 1) 0 m1 f ≡ chains_checked e l m
  unfolding chains_checked
  chains_go q = rw (words, ← (free_walked q))
