-- One level of a store: its chains before all others, and another level put in its place.
use mathlib.Core.Path.{◌≡◌, sym, ap, ◌∙◌}
use mathlib.Core.List.{List, ◌∷◌, map}
use Prim.Native.Nat.{ℕ, ◌≤◌, ◌<◌}
use native.Mathlib.Omega.{arith}
use lib.ListN.{length, set, length-map}
use lib.Seq.{map-set_same}
use Rattle.lists.proofs.Tests.{set-map}
use Rattle.model.specs.declared.Tally.{Tally}
use Rattle.model.specs.Records.{Level, State, empty, level, stored}
use Rattle.model.specs.Calls.{timed}
use Rattle.tables.proofs.Rows.{level_table-set}
use Rattle.tables.specs.Rows.{set_row, level_table}
use Rattle.tables.specs.Placed.{point_cell, range_cell, level_chains, row_of_level, level_words}
use Rattle.tables.specs.Formed.{Formed}
use Rattle.tables.proofs.Back.{formed_once}
use Rattle.chain_cells.specs.Held.{Held}
use Rattle.chain_cells.specs.Sifting.{Chain, OneHeld}
use Rattle.chain_cells.proofs.Laws.{rearranged, swapped}
use Rattle.merge_join.specs.Joining.{level_of}
use Rattle.table_levels.specs.declared.Level as level_row
use Rattle.merge_levels.specs.Laid.{Store, Laid, at_state}
use Rattle.table_levels.specs.Levels.{level_at}
use Rattle.merge_levels.proofs.LevelChains.{points_out, ranges_out, others_stay, level_in, weigh_out}
use Rattle.merge_levels.proofs.Pair.{read_level}

module _ (p : State ℕ Tally) (free : List ℕ) (i : ℕ) (v : Level ℕ Tally) where
  -- The level table with the row of another level at i.
  pub words_set : i < length p.levels → level_words (stored p free (set p.levels i v)) ≡ set_row (level_words p) i (row_of_level v)
  unfolding level_words
  words_set deep =
      ap (level_table p.settings) (sym (set-map row_of_level p.levels i v))
      ∙ level_table-set p.settings (map row_of_level p.levels) i (row_of_level v) (omega (arith, length-map p.levels row_of_level))

  -- Where its row is that of the old level, the level table stays.
  pub words_stay : row_of_level v ≡ row_of_level (level i p) → level_words (stored p free (set p.levels i v)) ≡ level_words p
  unfolding level_words
  words_stay same =
      ap (level_table p.settings) (map-set_same row_of_level p.levels i v empty same)

module _ {g : Store} {e l : List ℕ} (laid : Laid g e l) (i : ℕ) where
  -- The chains of level i come first, those of the others after them.
  pub level_out : Held g.slots g.state.clock g.state.free
      (map point_cell (level i g.state).points ∷ map range_cell (level i g.state).ranges ∷ level_chains (set g.state.levels i empty)) e
  level_out =
      let p : State ℕ Tally = g.state in
      rearranged g.slots p.clock p.free (level_chains p.levels)
      (map point_cell (level i p).points ∷ map range_cell (level i p).ranges ∷ level_chains (set p.levels i empty)) e
      (λ f. omega (arith, weigh_out f p.levels i))
      (λ a. (points_out g.slots e p.levels i a, (ranges_out g.slots e p.levels i a, others_stay g.slots e p.levels i a)))
      (record { small = laid.formed.many; holds = laid.entries; once = formed_once g.slots (timed g.time p) laid.formed })

  -- A table that holds another level's chains in their place is that of the state with that level at i.
  pub level_back : (v : Level ℕ Tally) (free : List ℕ) {e' l' : List ℕ}
      → Held g.slots g.state.clock free (map point_cell v.points ∷ map range_cell v.ranges ∷ level_chains (set g.state.levels i empty)) e'
      → Formed g.slots (timed g.time (stored g.state free (set g.state.levels i v)))
      → l' ≡ level_words (stored g.state free (set g.state.levels i v))
      → Laid (at_state g (stored g.state free (set g.state.levels i v))) e' l'
  level_back v free {e'} h f words = record {
    formed = f;
    entries = record {
      room = h.holds.room;
      first = h.holds.first;
      each = (h.holds.each.0, level_in g.slots e' v g.state.levels i h.holds.each.1.0 h.holds.each.1.1.0 h.holds.each.1.1.1);
    };
    levels = words;
  }

-- The chains of a level, each as the one that is sieved or searched.
abbrev pub points_of : Store → ℕ → Chain
points_of g i = record {
  slots = g.slots;
  clock = g.state.clock;
  free = g.state.free;
  cells = map point_cell (level i g.state).points;
  others = map range_cell (level i g.state).ranges ∷ level_chains (set g.state.levels i empty);
}

abbrev pub ranges_of : Store → ℕ → Chain
ranges_of g i = record {
  slots = g.slots;
  clock = g.state.clock;
  free = g.state.free;
  cells = map range_cell (level i g.state).ranges;
  others = map point_cell (level i g.state).points ∷ level_chains (set g.state.levels i empty);
}

module _ {g : Store} {e l : List ℕ} (laid : Laid g e l) (i : ℕ) (deep : i ≤ g.state.settings.deepest) {r : level_row.Level} (row : r ≡ level_at l i) where
  -- What the code has read of the level's row, and what a walk of its chains asks for.
  pub row_is : r ≡ level_of (level i g.state)
  row_is = row ∙ read_level g e l laid i deep

  pub points_asked : OneHeld (points_of g i) e r.points
  points_asked = record { held = level_out laid i; head_is = ap (λ (x : level_row.Level). x.points) row_is }

  pub ranges_asked : OneHeld (ranges_of g i) e r.ranges
  ranges_asked = record {
    held = swapped g.slots g.state.clock g.state.free (map point_cell (level i g.state).points) (map range_cell (level i g.state).ranges)
        (level_chains (set g.state.levels i empty)) e (level_out laid i);
    head_is = ap (λ (x : level_row.Level). x.ranges) row_is;
  }
