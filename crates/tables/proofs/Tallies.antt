-- What a state writes where each tally is seen through a mask: the same level table, and its own cells with those of puts seen so.
use mathlib.Core.Path.{◌≡◌, refl, ap}
use mathlib.Core.Bool.{cond}
use mathlib.Core.List.{List, [], ◌∷◌, map}
use Prim.Native.Nat.{ℕ}
use lib.Dec.{eqb}
use lib.ListN.{length-map}
use Rattle.lists.proofs.Tests.{map_id}
use Rattle.model.specs.declared.Tally.{Tally}
use Rattle.model.specs.Records.{Entry, value, tombstone, Point, Range, Level, State}
use Rattle.model.specs.Renaming.{map_entry, map_point, map_range, map_level, map_state}
use Rattle.tables.specs.Rows.{level_table}
use Rattle.tables.specs.Placed.{Cell, free_cell, entry_kind, entry_tally, point_cell, range_cell, head, level_chains, all_chains, top_of, row_of_level, level_words}

module _ (mask : Tally → Tally) where
  -- The state with every tally behind the mask.
  abbrev pub aside : State ℕ Tally → State ℕ Tally
  aside p = map_state (λ s. s) mask p

  abbrev pub point_aside : Point ℕ Tally → Point ℕ Tally
  point_aside p = map_point (λ s. s) mask p

  abbrev pub range_aside : Range ℕ → Range ℕ
  range_aside r = map_range (λ s. s) mask r

  abbrev pub level_aside : Level ℕ Tally → Level ℕ Tally
  level_aside l = map_level (λ s. s) mask l

  -- The cell, behind the mask if it is a put's; a range's date stays.
  abbrev pub blank : Cell → Cell
  blank c = record { slot = c.slot; kind = c.kind; span = c.span; tally = cond (eqb c.kind 1) (mask c.tally) c.tally; stamp = c.stamp }

  pub head-blank : (cs : List Cell) → head (map blank cs) ≡ head cs
  head-blank [] = refl
  head-blank (c ∷ cs) = refl

  -- The cells of a state behind the mask are its own behind it.
  kind_aside : (x : Entry Tally) → entry_kind (map_entry mask x) ≡ entry_kind x
  kind_aside (value a) = refl
  kind_aside tombstone = refl

  tally_aside : (x : Entry Tally) → entry_tally (map_entry mask x) ≡ cond (eqb (entry_kind x) 1) (mask (entry_tally x)) (entry_tally x)
  tally_aside (value a) = refl
  tally_aside tombstone = refl

  points_blank : (ps : List (Point ℕ Tally)) → map point_cell (map point_aside ps) ≡ map blank (map point_cell ps)
  points_blank [] = refl
  points_blank (p ∷ ps) = rw (kind_aside p.entry, tally_aside p.entry, points_blank ps)

  ranges_blank : (rs : List (Range ℕ)) → map range_cell (map range_aside rs) ≡ map blank (map range_cell rs)
  ranges_blank [] = refl
  ranges_blank (r ∷ rs) = rw (ranges_blank rs)

  free_blank : (ss : List ℕ) → map free_cell (map (λ s. s) ss) ≡ map blank (map free_cell ss)
  free_blank [] = refl
  free_blank (s ∷ ss) = rw (free_blank ss)

  levels_blank : (ls : List (Level ℕ Tally)) → level_chains (map level_aside ls) ≡ map (map blank) (level_chains ls)
  levels_blank [] = refl
  levels_blank (l ∷ ls) = rw (points_blank l.points, ranges_blank l.ranges, levels_blank ls)

  rows_aside : (ls : List (Level ℕ Tally)) → map row_of_level (map level_aside ls) ≡ map row_of_level ls
  rows_aside [] = refl
  rows_aside (l ∷ ls) = rw (
    points_blank l.points,
    ranges_blank l.ranges,
    head-blank (map point_cell l.points),
    head-blank (map range_cell l.ranges),
    length-map l.points point_aside,
    length-map l.ranges range_aside,
    rows_aside ls,
  )

  module _ (p : State ℕ Tally) where
    pub level_words-aside : level_words (aside p) ≡ level_words p
    unfolding level_words
    level_words-aside = ap (level_table p.settings) (rows_aside p.levels)

    pub chains_aside : all_chains (aside p) ≡ map (map blank) (all_chains p)
    chains_aside = rw (free_blank p.free, levels_blank p.levels)

    pub top_aside : top_of (aside p) ≡ top_of p
    top_aside = rw (map_id p.free)
