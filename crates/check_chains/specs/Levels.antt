-- What is asked of all levels and of all chains, in the order of the code, and what it marks.
use Rattle.std.specs.Prelude.{Bool, false, cond, ◌&&◌, List, ℕ, zero, suc, ◌+◌, eqb}
use Rattle.tables.specs.Slots.{slots_of}
use Rattle.tables.specs.Rows.{settings_of, level_row}
use Rattle.tables.specs.Sound.{free_chain, top_blank}
use Rattle.check_forms.specs.Forms.{free_fits}
use Rattle.check_walk.specs.Walks.{Marked, after, walked}
use Rattle.check_level.specs.Levels.{leveled, fitting}

-- What does not fit; the marks so far stay.
abbrev pub unfit : List ℕ → Marked Bool
unfit m = record { answer = false; marks = m }

-- j levels from level i on, where total slots have been passed.
unfoldable pub levels_checked : List ℕ → List ℕ → ℕ → ℕ → List ℕ → ℕ → Marked Bool
levels_checked e l zero i m total = record { answer = eqb total (slots_of e); marks = m }
levels_checked e l (suc j) i m total = after (fitting (leveled e l i m)) (λ count marks. levels_checked e l j (suc i) marks (total + count)) unfit

-- The words of slot 0 beside the first free slot and the clock, and what the deepest level owes are zero.
abbrev pub words_fit : List ℕ → List ℕ → Bool
words_fit e l = top_blank e && eqb (level_row l (settings_of l).deepest).owed 0

-- The words beside the chains, the free chain, then the levels over its marks.
unfoldable pub chains_checked : List ℕ → List ℕ → List ℕ → Marked Bool
chains_checked e l m =
    cond (words_fit e l)
    (after (walked free_fits e 0 0 0 m (free_chain e)) (λ free marks. levels_checked e l ((settings_of l).deepest + 1) 0 marks free) unfit)
    (unfit m)
