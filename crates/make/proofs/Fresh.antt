-- A made store's tables are the words of the model's fresh state, whose free slots are 1, 2, .., n; so they are sound and read as it.
use mathlib.Core.Path.{◌≡◌, refl, sym, ap, ◌∙◌}
use mathlib.Core.Bool.{true, cond}
use mathlib.Core.List.{List, [], ◌∷◌, map, append-nil}
use Prim.Native.Nat.{ℕ, zero, suc, ◌+◌, ◌<◌, ◌≤◌}
use native.Mathlib.Omega.{arith}
use native.Mathlib.Decide.{ℕ_discrete}
use borrow.Author.Tests.{eq-eqb, ne_eqb}
use lib.Dec.{eqb}
use lib.ListN.{length, get_or, replicate, length-replicate}
use Rattle.settings.specs.declared.Settings.{Settings}
use Rattle.settings.specs.Limits.{allowed}
use Rattle.lists.specs.Lists.{count}
use Rattle.lists.proofs.Tests.{all_replicate}
use Rattle.model.specs.declared.Tally.{Tally}
use Rattle.model.specs.Records.{Level, empty, fresh}
use Rattle.tables.specs.Slots.{free_slot, top_slot}
use Rattle.tables.specs.Rows.{no_row, level_table}
use Rattle.tables.specs.Sound.{table_refusal}
use Rattle.tables.specs.Placed.{free_cell, head, level_chains, all_chains, row_of_level, entry_words, level_words, read_state, top_of}
use Rattle.tables.specs.Formed.{LevelFormed, levels_slots, Formed}
use Rattle.tables.proofs.Cells.{Chained, AllChained, Holds, times}
use Rattle.tables.proofs.Once.{facts_once}
use Rattle.tables.proofs.Back.{formed_words, holds_reads}
use Rattle.tables.proofs.FormedLevels.{empty_formed}
use Rattle.tables.proofs.FormedSound.{facts_sound, formed_sound}
use Rattle.make_fresh.specs.Fresh.{next_free, made_entries, made_levels}
use Rattle.make.specs.Make.{count_up, upto}
use Rattle.make_fresh.proofs.Entries.{length-made_entries, made_entries_first, made_entries_slot}

-- Each of 1, 2, .., n stands once in that list.
length-count_up : (k s : ℕ) → length (count_up s k) ≡ k
unfolding count_up
length-count_up zero s = refl
length-count_up (suc k) s = ap suc (length-count_up k (suc s))

pub length-upto : (n : ℕ) → length (upto n) ≡ n
length-upto n = length-count_up n 1

times_below : (x k s : ℕ) → x < s → times x (count_up s k) ≡ 0
unfolding count count_up
times_below x zero s h = refl
times_below x (suc k) s h = rw (ne_eqb x s (omega arith)) (omega (arith, times_below x k (suc s) (omega arith)))

times_within : (x k s : ℕ) → s ≤ x → x < s + k → times x (count_up s k) ≡ 1
unfolding count count_up
times_within x zero s low high = absurd (omega arith)
times_within x (suc k) s low high = go (ℕ_discrete x s) (times_within x k (suc s))
  where
    go : Dec (x ≡ s) → (suc s ≤ x → x < suc s + k → times x (count_up (suc s) k) ≡ 1) → cond (eqb x s) 1 0 + times x (count_up (suc s) k) ≡ 1
    go (yes q) ih = rw (eq-eqb x s q) (omega (arith, times_below x k (suc s) (omega arith)))
    go (no q) ih = rw (ne_eqb x s q) (omega (arith, ih (omega arith) (omega arith)))

-- Levels without records have neither slots nor chains.
no_slots : (k : ℕ) → levels_slots {S = ℕ} {A = Tally} (replicate k empty) ≡ []
no_slots zero = refl
no_slots (suc k) = no_slots k

no_chains : (n k : ℕ) (e : List ℕ) → AllChained n e (level_chains (replicate k empty))
no_chains n zero e = tt
no_chains n (suc k) e = (tt, (tt, no_chains n k e))

get_d_empty : (k i : ℕ) → get_or (replicate k (empty {S = ℕ} {A = Tally})) i empty ≡ empty
get_d_empty zero i = refl
get_d_empty (suc k) zero = refl
get_d_empty (suc k) (suc i) = get_d_empty k i

-- The slot that the chain from s on begins with follows the one before.
head_after : (n s k : ℕ) → s + k ≡ n → head (map free_cell (count_up (suc s) k)) ≡ next_free n s
unfolding count_up
head_after n s zero h = rw (eq-eqb s n (omega arith))
head_after n s (suc k) h = rw (ne_eqb s n (omega arith)) (omega arith)

free_chained : (n k s : ℕ) → 1 ≤ s → s + k ≡ n + 1 → Chained n (made_entries n) (map free_cell (count_up s k))
unfolding count_up
free_chained n zero s low end = tt
free_chained n (suc k) s low end = (
  low,
  omega arith,
  made_entries_slot n s low (omega arith) ∙ ap free_slot (omega (arith, head_after n s k (omega arith))),
  free_chained n k (suc s) (omega arith) (omega arith),
)

-- The rows of empty levels are zero.
empty_rows : (k : ℕ) → map row_of_level (replicate k empty) ≡ replicate k no_row
empty_rows zero = refl
empty_rows (suc k) = ap (λ rs. no_row ∷ rs) (empty_rows k)

pub made_level_words : (n : ℕ) (s : Settings) → made_levels s ≡ level_words (fresh s (upto n))
unfolding made_levels level_words fresh
made_level_words n s =
    let q : s.deepest + 1 ≡ suc s.deepest = omega arith in
    rw q (ap (level_table s) (sym (empty_rows (suc s.deepest))))

module _ (n : ℕ) (s : Settings) (low : 1 ≤ n) (high : n ≤ 65535) (a : allowed s ≡ true) where
  pub fresh_formed : Formed n (fresh s (upto n))
  unfolding fresh
  fresh_formed = record {
    few = low;
    many = high;
    settings_ok = a;
    size = length-replicate (suc s.deepest) empty;
    levels_ok = all_replicate (LevelFormed 0) (suc s.deepest) empty (empty_formed 0);
    deepest_owes_nothing = ap (λ (l : Level ℕ Tally). l.owed) (get_d_empty (suc s.deepest) s.deepest);
    slots_once =
        rw (no_slots (suc s.deepest), append-nil)
        (facts_once n (upto n) (record { number = length-count_up n 1; each = λ t b c. times_within t n 1 b (omega arith) }));
  }

  made_holds : Holds n (top_of (fresh s (upto n))) (all_chains (fresh s (upto n))) (made_entries n)
  unfolding fresh
  made_holds = record {
    room = length-made_entries n;
    first =
        made_entries_first n
        ∙ ap (λ (w : ℕ). top_slot w 0) (sym (head_after n 0 n (omega arith) ∙ rw (ne_eqb 0 n (omega arith))));
    each = (free_chained n n 1 (omega arith) (omega arith), no_chains n (suc s.deepest) (made_entries n));
  }

  pub made_entry_words : made_entries n ≡ entry_words n (fresh s (upto n))
  made_entry_words = formed_words n (fresh s (upto n)) fresh_formed (made_entries n) made_holds

  -- The tables of a made store read as the fresh state.
  pub made_reads : read_state (made_entries n) (made_levels s) ≡ fresh s (upto n)
  made_reads = rw (made_level_words n s) (holds_reads n (fresh s (upto n)) fresh_formed (made_entries n) made_holds)

  -- They meet none of the refusals 1 to 3.
  pub made_sound : table_refusal (made_entries n) (made_levels s) ≡ 0
  made_sound =
      rw (made_level_words n s)
      (facts_sound (made_entries n) (level_words (fresh s (upto n)))
      (formed_sound n (fresh s (upto n)) fresh_formed (made_entries n) made_holds))
