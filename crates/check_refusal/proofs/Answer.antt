-- The four ways out of the check are the four cases of the definition.
use mathlib.Core.Path.{◌≡◌, sym, ap, ◌∙◌}
use mathlib.Core.Bool.{Bool, true, false}
use mathlib.Core.List.{List}
use Prim.Native.Nat.{ℕ, ◌*◌, ◌<◌}
use native.Mathlib.Omega.{arith}
use lib.ListN.{replicate, length-replicate}
use Rattle.check_marks.proofs.Marks.{mark_blank}
use Rattle.tables.specs.Slots.{slots_of}
use Rattle.tables.specs.Sound.{chains_sound, entries_fit, levels_fit, table_refusal}
use Rattle.check_walk.specs.Walks.{Marked}
use Rattle.check_chains.specs.Levels.{chains_checked}
use Rattle.check_chains.proofs.Means.{chains_mean}

module _ (e l : List ℕ) where
  pub answer_1 : entries_fit e ≡ false → 1 ≡ table_refusal e l
  unfolding table_refusal
  answer_1 a = rw a

  pub answer_2 : entries_fit e ≡ true → levels_fit l ≡ false → 2 ≡ table_refusal e l
  unfolding table_refusal
  answer_2 a b = rw (a, b)

  -- The marks are k bytes of zeros.
  module _ (k : ℕ) (room : slots_of e < 8 * k) (a : entries_fit e ≡ true) (b : levels_fit l ≡ true) {fits : Bool} {m : List ℕ}
      (w : record { answer = fits; marks = m } ≡ chains_checked e l (replicate k 0)) where
    said : chains_sound e l ≡ fits
    said =
        sym (chains_mean e l (replicate k 0) (rw length-replicate room) (λ s h. mark_blank k s (omega arith)))
        ∙ ap (λ (x : Marked Bool). x.answer) (sym w)

    pub answer_3 : fits ≡ false → 3 ≡ table_refusal e l
    unfolding table_refusal
    answer_3 d = rw (a, b, said ∙ d)

    pub answer_0 : fits ≡ true → 0 ≡ table_refusal e l
    unfolding table_refusal
    answer_0 d = rw (a, b, said ∙ d)
