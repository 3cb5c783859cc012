-- Reading what was written gives the state back, and so a formed state has one pair of tables.
use mathlib.Core.Path.{◌≡◌, refl, sym, ap, ◌∙◌}
use mathlib.Core.List.{List, [], ◌∷◌, ◌++◌, map, append_assoc}
use Prim.Native.Nat.{ℕ, suc, ◌+◌, ◌<◌, ◌≤◌}
use native.Mathlib.Omega.{arith}
use lib.ListN.{length, get_or, length-append, length-map}
use Rattle.settings.specs.declared.Settings.{Settings}
use Rattle.lists.specs.All.{All}
use Rattle.lists.proofs.Tests.{all_left, all_right}
use Rattle.model.specs.declared.Tally.{Tally}
use Rattle.model.specs.Records.{Point, Range, Level, State, empty}
use Rattle.model.specs.Merge.{point_slots, range_slots}
use Rattle.tables.specs.Slots.{Slot, first_free, clock_of}
use Rattle.tables.specs.Rows.{settings_of, Row, level_row}
use Rattle.tables.specs.Sound.{chain_from}
use Rattle.tables.specs.Placed.{Cell, free_cell, point_cell, range_cell, level_chains, all_chains, entry_words, level_words, row_of_level}
use Rattle.tables.specs.Placed.{read_point, read_range, read_level, read_levels, read_state, top_of, levels_as, state_as}
use Rattle.tables.specs.Formed.{LevelFormed, levels_slots, Formed}
use Rattle.tables.proofs.Cells.{Chained, AllChained, cell_slots, chain_slots, Holds, Slots, AllSlots, holds_one}
use Rattle.tables.proofs.Once.{OnceFacts, once_facts, Inside, once_inside, once_most}
use Rattle.tables.proofs.Lay.{words_hold}
use Rattle.tables.proofs.Reading.{chain_reads, free_slots_back, points_back, ranges_back}
use Rattle.tables.proofs.Rows.{settings_back, level_row_at}

-- The slots of a state's chains are its free slots and its records'.
pub point_cell_slots : (ps : List (Point ℕ Tally)) → cell_slots (map point_cell ps) ≡ point_slots ps
point_cell_slots [] = refl
point_cell_slots (p ∷ ps) = ap (◌∷◌ p.slot) (point_cell_slots ps)

pub range_cell_slots : (rs : List (Range ℕ)) → cell_slots (map range_cell rs) ≡ range_slots rs
range_cell_slots [] = refl
range_cell_slots (r ∷ rs) = ap (◌∷◌ r.slot) (range_cell_slots rs)

level_chain_slots : (ls : List (Level ℕ Tally)) → chain_slots (level_chains ls) ≡ levels_slots ls
level_chain_slots [] = refl
level_chain_slots (l ∷ ls) =
    rw (point_cell_slots l.points, range_cell_slots l.ranges, level_chain_slots ls)
    (sym (append_assoc (point_slots l.points) (range_slots l.ranges) (levels_slots ls)))

pub all_chain_slots : (p : State ℕ Tally) → chain_slots (all_chains p) ≡ p.free ++ levels_slots p.levels
all_chain_slots p = rw (free_slots_back p.free, level_chain_slots p.levels)

-- All slots inside the table, chain by chain.
slots_inside : (n : ℕ) (cs : List Cell) → All (Inside n) (cell_slots cs) → Slots n cs
slots_inside n [] a = tt
slots_inside n (c ∷ cs) a = (a.0.0, a.0.1, slots_inside n cs a.1)

all_slots_inside : (n : ℕ) (cs : List (List Cell)) → All (Inside n) (chain_slots cs) → AllSlots n cs
all_slots_inside n [] a = tt
all_slots_inside n (c ∷ cs) a =
    (slots_inside n c (all_left (Inside n) (cell_slots c) (chain_slots cs) a), all_slots_inside n cs (all_right (Inside n) (cell_slots c) (chain_slots cs) a))

module _ (n : ℕ) (p : State ℕ Tally) (f : Formed n p) where
  pub formed_once : OnceFacts n (chain_slots (all_chains p))
  formed_once = rw (all_chain_slots p) (once_facts n (p.free ++ levels_slots p.levels) f.slots_once)

  -- The words of a formed state hold its chains.
  pub formed_holds : Holds n (top_of p) (all_chains p) (entry_words n p)
  formed_holds =
      let ss = chain_slots (all_chains p) in
      words_hold n p (all_slots_inside n (all_chains p) (once_inside n ss formed_once)) (once_most n ss formed_once)

  -- And no other entry table does.
  pub formed_words : (e : List ℕ) → Holds n (top_of p) (all_chains p) e → e ≡ entry_words n p
  formed_words e h = holds_one n (top_of p) (all_chains p) e (entry_words n p) formed_once.each h formed_holds

-- A chain is no longer than all of them.
abbrev pub Short : ℕ → List (List Cell) → Type 0
Short k [] = Unit {0}
Short k (c ∷ cs) = (length c ≤ k) × Short k cs

short_all : (k : ℕ) (cs : List (List Cell)) → length (chain_slots cs) ≤ k → Short k cs
short_all k [] h = tt
short_all k (c ∷ cs) h = (
  omega (arith, length-append (cell_slots c) (chain_slots cs), length-map c (λ (x : Cell). x.slot)),
  short_all k cs (omega (arith, length-append (cell_slots c) (chain_slots cs))),
)

-- Reading a level, and all levels, of a table that holds their chains.
module _ (n : ℕ) (small : n < 65536) (clock : ℕ) (e l : List ℕ) where
  level_back : (i : ℕ) (v : Level ℕ Tally) → LevelFormed clock v → level_row l i ≡ row_of_level v → Chained n e (map point_cell v.points)
      → Chained n e (map range_cell v.ranges)
      → length (map point_cell v.points) ≤ length e → length (map range_cell v.ranges) ≤ length e → read_level e l i ≡ v
  level_back i v f r cp cr lp lr =
      let ps : map (read_point e) (chain_from e (level_row l i).points) ≡ v.points =
      ap (λ (x : Row). map (read_point e) (chain_from e x.points)) r
      ∙ ap (map (read_point e)) (chain_reads n (length e) e (map point_cell v.points) small cp lp) ∙ points_back n e small v.points f.keys cp in
      let rs : map (read_range e) (chain_from e (level_row l i).ranges) ≡ v.ranges =
      ap (λ (x : Row). map (read_range e) (chain_from e x.ranges)) r
      ∙ ap (map (read_range e)) (chain_reads n (length e) e (map range_cell v.ranges) small cr lr) ∙ ranges_back n e small v.ranges f.spans cr in
      rw (ps, rs, ap (λ (x : Row). x.owed) r)

  levels_back : (vs : List (Level ℕ Tally)) (i : ℕ) → ((m : ℕ) → m < length vs → level_row l (i + m) ≡ row_of_level (get_or vs m empty)) → All (LevelFormed clock) vs
      → AllChained n e (level_chains vs) → Short (length e) (level_chains vs) → read_levels e l (length vs) i ≡ vs
  unfolding levels_as
  levels_back [] i rows f c s = refl
  levels_back (v ∷ vs) i rows f c s =
      let here : level_row l i ≡ row_of_level v = ap (level_row l) (omega arith) ∙ rows 0 (omega arith) in
      let rest : read_levels e l (length vs) (suc i) ≡ vs =
      levels_back vs (suc i) (λ m h. ap (level_row l) (omega arith) ∙ rows (suc m) (omega arith)) f.1 c.1.1 s.1.1 in
      rw (level_back i v f.0 here c.0 c.1.0 s.0 s.1.0, rest)

module _ (n : ℕ) (p : State ℕ Tally) (f : Formed n p) where
  -- A table that holds a formed state's chains, with its level table, reads as that state.
  pub holds_reads : (e : List ℕ) → Holds n (top_of p) (all_chains p) e → read_state e (level_words p) ≡ p
  unfolding state_as
  holds_reads e h =
      let small : n < 65536 = omega (arith, f.many) in
      let short : Short (length e) (all_chains p) = short_all (length e) (all_chains p) (omega (arith, (formed_once n p f).number, h.room)) in
      let free≡ : chain_from e (first_free e) ≡ p.free =
      ap (λ (r : Slot). chain_from e r.link) h.first
      ∙ chain_reads n (length e) e (map free_cell p.free) small h.each.0 short.0 ∙ free_slots_back p.free in
      let clock≡ : clock_of e ≡ p.clock = ap (λ (r : Slot). r.span) h.first in
      let levels≡ : read_levels e (level_words p) (suc (settings_of (level_words p)).deepest) 0 ≡ p.levels =
      ap (λ k. read_levels e (level_words p) k 0) (ap (λ (s : Settings). suc s.deepest) (settings_back p) ∙ sym f.size)
      ∙ levels_back n small p.clock e (level_words p) p.levels 0
      (λ m b. ap (level_row (level_words p)) (omega arith) ∙ level_row_at p m b) f.levels_ok h.each.1 short.1 in
      rw (levels≡, settings_back p, free≡, clock≡)

  -- "Reading what was written gives the state back".
  pub written_reads : read_state (entry_words n p) (level_words p) ≡ p
  written_reads = holds_reads (entry_words n p) (formed_holds n p f)
