-- The deletes wiped, call by call, and what a merge leaves at the deepest level and above it.
use mathlib.Core.Path.{◌≡◌, refl, ap, ◌∙◌}
use mathlib.Core.Bool.{true, false}
use mathlib.Core.List.{List, [], ◌∷◌, map}
use Prim.Native.Nat.{ℕ, ◌+◌, ◌-◌}
use native.Mathlib.Omega.{arith}
use lib.ListN.{length, length-map}
use Rattle.lists.specs.Lists.{select, reject}
use Rattle.lists.proofs.Tests.{select_never}
use Rattle.model.specs.Records.{is_put, held}
use Rattle.model.specs.Merge.{gone, release, settled, merged, joined, freed, delete_slots, point_slots, range_slots}
use Rattle.tables.specs.Placed.{Cell, point_cell, range_cell, head}
use Rattle.tables.proofs.Back.{point_cell_slots, range_cell_slots}
use Rattle.chain_cells.specs.Sifting.{Chain, OneHeld, Sifted}
use Rattle.chain_sieve.specs.Doomed.{is_delete}
use Rattle.chain_cells.specs.declared.Cursor.{Cursor}
use Rattle.table_levels.specs.declared.Level.{Level}
use Rattle.merge_join.specs.Joining.{Levels, Merged, MergedHeld, Settled, Joined, merging}
use Rattle.merge_join.proofs.Points.{delete_cells, put_cells}
use Rattle.merge_join.proofs.Levels.{release_append}
use Rattle.merge_join.proofs.Counts.{held-settled}
use Rattle.chain_cells.proofs.Laws.{swapped}

-- The chains of the two calls.
abbrev pub point_chain : Merged → Chain
point_chain g = record {
  slots = g.slots;
  clock = g.clock;
  free = g.free;
  cells = map point_cell g.level.points;
  others = map range_cell g.level.ranges ∷ g.others;
}

abbrev pub range_chain : Merged → Chain
range_chain g = record {
  slots = g.slots;
  clock = g.clock;
  free = release (point_slots (reject (λ p. is_put p.entry) g.level.points)) g.free;
  cells = map range_cell g.level.ranges;
  others = map point_cell (settled g.level).points ∷ g.others;
}

-- All cells go.
all_go : (cs : List Cell) → select (λ c. true) cs ≡ cs
unfolding select
all_go [] = refl
all_go (c ∷ cs) = ap (◌∷◌ c) (all_go cs)

none_stay : (cs : List Cell) → reject (λ c. true) cs ≡ []
none_stay cs = select_never _ (λ c. refl) cs

module _ {g : Merged} {e : List ℕ} {level : Level} (h : MergedHeld g e level) where
  -- What each call asks for.
  pub sieve_points_asks : OneHeld (point_chain g) e level.points
  sieve_points_asks = record { held = h.held; head_is = ap (λ (v : Level). v.points) h.level_is }

  module _ {e₁ : List ℕ} {m : Cursor} (s : Sifted is_delete (point_chain g) e₁ m) where
    pub sieve_ranges_asks : OneHeld (range_chain g) e₁ level.ranges
    unfolding settled
    sieve_ranges_asks =
        let points = g.level.points in
        let slots = point_cell_slots (reject (λ p. is_put p.entry) points) in
        let wiped = rw (delete_cells points, put_cells points, slots) at s.held in
        record {
          held = swapped g.slots g.clock _ (map point_cell (settled g.level).points) (map range_cell g.level.ranges) g.others e₁ wiped;
          head_is = ap (λ (v : Level). v.ranges) h.level_is;
        }

    module _ {e₂ : List ℕ} {k : Cursor} (r : Sifted (λ c. true) (range_chain g) e₂ k) where
      -- What the settled level holds and what has gone are all that it held.
      pub held_rest : held (settled g.level) + m.gone + k.gone ≡ level.held
      held_rest = omega (
        arith,
        held-settled g.level,
        ap (λ (v : Level). v.held) h.level_is,
        s.counts ∙ ap length (delete_cells g.level.points),
        length-map (reject (λ p. is_put p.entry) g.level.points) point_cell,
        r.counts ∙ ap length (all_go (map range_cell g.level.ranges)),
        length-map g.level.ranges range_cell,
      )

      -- The level that the calls leave is the settled one.
      pub settle_leaves : Settled g e₂ (record { points = m.head; ranges = 0; held = level.held - m.gone - k.gone; owed = 0 })
      unfolding settled
      settle_leaves =
          let deletes : List ℕ = point_slots (reject (λ p. is_put p.entry) g.level.points) in
          let frees = release_append deletes (range_slots g.level.ranges) g.free in
          let first : m.head ≡ head (map point_cell (settled g.level).points) = s.head_is ∙ ap head (put_cells g.level.points) in
          let rest : level.held - m.gone - k.gone ≡ held (settled g.level) = omega (arith, held_rest) in
          let ranges = map range_cell g.level.ranges in
          let wiped = rw (all_go ranges, none_stay ranges, range_cell_slots g.level.ranges, ← frees) at r.held in
          record {
            held =
                swapped g.slots g.clock (release (delete_slots g.level) g.free) [] (map point_cell (settled g.level).points) g.others e₂
                wiped;
            level_is = rw (first, rest);
          }

-- What a join leaves: the merged level, or at the deepest the settled one.
module _ {g : Levels} {e : List ℕ} {r : Level} where
  pub joins_above : MergedHeld (merging g) e r → Joined false g e r
  unfolding joined freed
  joins_above h = record { held = h.held; level_is = h.level_is }

  pub joins_deepest : Settled (merging g) e r → Joined true g e r
  unfolding joined freed
  joins_deepest s = record {
    held = rw (release_append (gone g.upper g.lower) (delete_slots (merged g.upper g.lower)) g.free) s.held;
    level_is = s.level_is;
  }
