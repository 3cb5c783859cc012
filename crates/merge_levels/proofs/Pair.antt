-- Levels i and i+1 of a store, which a merge joins, and what it leaves in the two tables.
use mathlib.Core.Path.{◌≡◌, refl, sym, ap, ◌∙◌}
use mathlib.Core.Bool.{Bool}
use mathlib.Core.List.{List, ◌∷◌, map}
use Prim.Native.Nat.{ℕ, suc, ◌+◌, ◌<◌, ◌≤◌}
use native.Mathlib.Omega.{arith}
use lib.Dec.{eqb}
use lib.ListN.{set, length-map}
use borrow.Author.Tests.{eq-eqb, ne_eqb}
use Rattle.model.specs.declared.Tally.{Tally}
use Rattle.model.specs.Records as model
use Rattle.model.specs.Records.{State, empty, level, held}
use Rattle.model.specs.Merge.{joined}
use Rattle.model.specs.Steps.{begin, merge_state, merge_level}
use Rattle.model.specs.Calls.{timed}
use Rattle.tables.specs.Rows.{InRows, settings_of, Row, set_row, no_row}
use Rattle.tables.specs.Placed.{Cell, free_cell, point_cell, range_cell, level_chains, all_chains, level_words}
use Rattle.tables.specs.Formed.{Formed}
use Rattle.tables.proofs.Cells.{AllChained}
use Rattle.tables.proofs.Back.{formed_once}
use Rattle.tables.proofs.FormedSteps.{merge_at, formed_at, at_formed}
use Rattle.table_levels.specs.declared.Level.{Level}
use Rattle.merge_join.specs.Joining.{level_of, Levels, LevelsHeld, Joined}
use Rattle.merge_levels.specs.Laid.{Store, Laid, at_state, Worked}
use Rattle.table_levels.specs.Levels.{level_from, level_at, row_at}
use Rattle.chain_cells.proofs.Bounds.{first_head_fits, second_head_fits, two_few}
use Rattle.chain_cells.proofs.Frames.{SameSlots, still_once}
use Rattle.merge_levels.proofs.LevelChains.{without_pair, points_out, ranges_out, pair_out, level_in, weigh_pair_out}
use Rattle.merge_levels.proofs.LevelTable.{merged_level, merged_words}
use Rattle.merge_levels.proofs.Store.{laid_length, laid_deepest, laid_allowed, laid_row, laid_formed, held_read}

-- Levels i and i+1 of a store, and the chains of the others.
abbrev pub pair : Store → ℕ → Levels
pair g i = record {
  slots = g.slots;
  clock = g.state.clock;
  time = g.time;
  free = g.state.free;
  upper = level i g.state;
  lower = level (suc i) g.state;
  others = level_chains (without_pair i g.state.levels);
}

-- All chains of the store, those of the two levels before the others.
abbrev pair_chains : Store → ℕ → List (List Cell)
pair_chains g i =
    map free_cell g.state.free ∷ map point_cell (level (suc i) g.state).points ∷ map point_cell (level i g.state).points
    ∷ map range_cell (level i g.state).ranges ∷ map range_cell (level (suc i) g.state).ranges ∷ level_chains (without_pair i g.state.levels)

same_pair_slots : (g : Store) (i : ℕ) → SameSlots (all_chains g.state) (pair_chains g i)
same_pair_slots g i f = omega (arith, weigh_pair_out f g.state.levels i)

-- The row of a level, as the code reads it.
pub read_level : (g : Store) (e l : List ℕ) → Laid g e l → (i : ℕ) → i ≤ g.state.settings.deepest → level_at l i ≡ level_of (level i g.state)
read_level g e l laid i h = ap level_from (laid_row g e l laid i h)

-- What that row says fits a word.
module _ (deepest : Bool) (g : Levels) (e : List ℕ) (r : Level) (j : Joined deepest g e r) where
  abbrev left : model.Level ℕ Tally
  left = joined deepest g.upper g.lower

  pub row_small : (r.points ≤ 65535) × (r.ranges ≤ 65535) × (r.held ≤ 65535)
  row_small = rw j.level_is (
    first_head_fits j.held,
    second_head_fits j.held,
    omega (arith, two_few j.held, length-map left.points point_cell, length-map left.ranges range_cell),
  )

module _ (g : Store) (e l : List ℕ) (laid : Laid g e l) (i : ℕ) (deep : i < g.state.settings.deepest) where
  -- The rows of both levels are in the table, whose levels are few.
  pub rows_in : InRows l (i + 1)
  rows_in = omega (arith, laid_length g e l laid)

  pub shallow : i < 6
  shallow = omega (arith, laid_allowed g e l laid)

  -- The table holds the two levels that the code has read.
  pub pair_held : (upper lower : Level) → upper ≡ level_at l i → lower ≡ level_at l (i + 1) → LevelsHeld (pair g i) e upper lower
  pair_held upper lower u w =
      let p : State ℕ Tally = g.state in
      let chains : AllChained g.slots e (level_chains p.levels) = laid.entries.each.1 in
      record {
        held = record {
          small = laid.formed.many;
          holds = record {
            room = laid.entries.room;
            first = laid.entries.first;
            each = (
              laid.entries.each.0,
              (
                points_out g.slots e p.levels (suc i) chains,
                (
                  points_out g.slots e p.levels i chains,
                  (
                    ranges_out g.slots e p.levels i chains,
                    (ranges_out g.slots e p.levels (suc i) chains, pair_out g.slots e p.levels i chains),
                  ),
                ),
              ),
            );
          };
          once = still_once g.slots (all_chains p) (pair_chains g i) (same_pair_slots g i) (formed_once g.slots (timed g.time p) laid.formed);
        };
        upper_is = u ∙ read_level g e l laid i (omega arith);
        lower_is = w ∙ read_level g e l laid (i + 1) (omega arith) ∙ ap (λ k. level_of (level k p)) (omega arith);
        upper_formed = laid_formed g e l laid i;
        lower_formed = laid_formed g e l laid (suc i);
      }

  -- Whether the next level is the deepest, as the code asks it.
  pub next_deepest : (d : ℕ) → d ≡ (settings_of l).deepest → eqb (i + 1) d ≡ eqb (suc i) g.state.settings.deepest
  next_deepest d is = ap (eqb (i + 1)) (is ∙ laid_deepest g e l laid) ∙ ap (λ k. eqb k g.state.settings.deepest) (omega arith)

  -- So the code's join is that of the two.
  pub pair_joined : (upper lower : Level) → upper ≡ level_at l i → lower ≡ level_at l (i + 1) → (d : ℕ) → d ≡ (settings_of l).deepest → {last : Bool} → last ≡ eqb (i + 1) d
      → (e' : List ℕ) (r : Level) → ((h : Levels) → LevelsHeld h e upper lower → Joined last h e' r)
      → Joined (eqb (suc i) g.state.settings.deepest) (pair g i) e' r
  pair_joined upper lower u w d is here e' r joins = rw (here, next_deepest d is) at (joins (pair g i) (pair_held upper lower u w))

  merged_formed : Formed g.slots (timed g.time (merge_state i g.state))
  unfolding merge_state
  merged_formed =
      let p : State ℕ Tally = timed g.time g.state in
      at_formed g.slots g.time p (merge_state i p) laid.formed
      (merge_at g.time p i p deep (formed_at g.slots g.time p (omega arith) laid.formed)) refl

  -- The tables after a merge of level i hold the words of the merged state.
  merged_laid : (e' : List ℕ) (r : Level) → Joined (eqb (suc i) g.state.settings.deepest) (pair g i) e' r
      → Laid (at_state g (merge_state i g.state)) e' (set_row (set_row l i no_row) (i + 1) (row_at r))
  unfolding merge_state
  merged_laid e' r j =
      let p : State ℕ Tally = g.state in
      let cs = j.held.holds.each in
      record {
        formed = merged_formed;
        entries = record {
          room = j.held.holds.room;
          first = j.held.holds.first;
          each = (cs.0, level_in g.slots e' (merged_level i p) (set p.levels i empty) (suc i) cs.1.0 cs.1.1.0 cs.1.1.1);
        };
        levels =
            ap (λ ws. set_row (set_row ws i no_row) (i + 1) (row_at r)) laid.levels
            ∙ ap (λ (x : Level). set_row (set_row (level_words p) i no_row) (i + 1) (row_at x)) j.level_is
            ∙ sym (merged_words i p (omega (arith, laid.formed.size)));
      }

  -- So does the code's work, when it tells the merges that the model counts.
  pub merged_worked : (e' l' : List ℕ) (r : Level) (merges : ℕ) → Joined (eqb (suc i) g.state.settings.deepest) (pair g i) e' r
      → l' ≡ set_row (set_row l i no_row) (i + 1) (row_at r) → merges ≡ (merge_level i (begin g.state)).merges
      → Worked g (merge_level i (begin g.state)) e' l' merges
  unfolding merge_level
  merged_worked e' l' r merges j w m = record { laid = rw w (merged_laid e' r j); counts = m }

  upper-held : (upper : Level) → upper ≡ level_at l i → upper.held ≡ held (level i g.state)
  upper-held upper u = held_read upper l i u ∙ ap (λ (r : Row). r.held) (laid_row g e l laid i (omega arith))

  -- A merge counts where its upper level had a record.
  pub counts_none : (upper : Level) → upper ≡ level_at l i → upper.held ≡ 0 → 0 ≡ (merge_level i (begin g.state)).merges
  unfolding merge_level
  counts_none upper u z = rw (eq-eqb (held (level i g.state)) 0 (sym (upper-held upper u) ∙ z))

  pub counts_one : (upper : Level) → upper ≡ level_at l i → (upper.held ≡ 0 → ⊥) → 1 ≡ (merge_level i (begin g.state)).merges
  unfolding merge_level
  counts_one upper u z = rw (ne_eqb (held (level i g.state)) 0 (λ q. z (upper-held upper u ∙ q)))
