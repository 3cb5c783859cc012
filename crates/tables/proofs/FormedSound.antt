-- Sound exactly when the tables are the words of a formed state.
use mathlib.Core.Path.{◌≡◌, refl, sym, ap, ◌∙◌}
use mathlib.Core.Bool.{true, false}
use mathlib.Core.List.{List, [], ◌∷◌, ◌++◌, map}
use Prim.Native.Nat.{ℕ, zero, suc, ◌+◌, ◌<◌, ◌≤◌}
use native.Mathlib.Omega.{arith}
use lib.Dec.{eqb}
use lib.ListN.{length, get_or, length-append, length-map}
use borrow.Author.Tests.{eq-eqb, le-leb}
use Rattle.settings.specs.declared.Settings.{Settings}
use Rattle.lists.specs.All.{All}
use Rattle.lists.proofs.Bools.{and_intro}
use Rattle.lists.proofs.Tests.{length_of_none, all_every-true, all_append, all_every, all_both}
use Rattle.model.specs.declared.Tally.{Tally}
use Rattle.model.specs.Records.{Entry, value, tombstone, Point, Range, Level, State, empty, is_put, held}
use Rattle.model.specs.Merge.{point_slots, range_slots}
use Rattle.tables.proofs.Linked.{top_written, top_form}
use Rattle.tables.specs.Slots.{slot_at, entry_length, slots_of, Slot, first_free, clock_of}
use Rattle.tables.specs.Rows.{level_length, settings_of, Row, level_row}
use Rattle.tables.specs.Words.{Fits32}
use Rattle.tables.specs.Sound.{free_chain, point_chain, range_chain, is_free, level_sound, levels_sound, record_slots, chains_sound, entries_fit, levels_fit, table_refusal}
use Rattle.tables.specs.Placed.{cell_slot, free_cell, entry_kind, point_cell, range_cell, level_chains, all_chains}
use Rattle.tables.specs.Placed.{row_of_level, entry_words, level_words, read_level, read_state, top_of, state_as}
use Rattle.tables.specs.Formed.{LevelFormed, levels_slots, Formed}
use Rattle.tables.proofs.Cells.{Chained, AllChained, cell_slots, Holds}
use Rattle.tables.proofs.Once.{once_facts, facts_once}
use Rattle.tables.proofs.Rows.{length-level_words, settings_back, level_row_at}
use Rattle.tables.proofs.Reading.{free_slots_back}
use Rattle.tables.proofs.Back.{formed_holds, holds_reads, point_cell_slots, range_cell_slots}
use Rattle.tables.proofs.LevelSound.{LevelSound, facts_level}
use Rattle.tables.proofs.SoundWords.{Sound, sound_facts, read_slots, point_read_slots, range_read_slots, read_state_level, sound_formed, sound_entries, sound_levels}
use Rattle.tables.proofs.WordsSound.{chained_all, free_form, point_form, range_form, stamp_form, owed_form, points_order, ranges_order}

-- The facts give refusal 0 back.
levels_all : (e l : List ℕ) (j i : ℕ) → ((m : ℕ) → i ≤ m → m < i + j → LevelSound e l m) → levels_sound e l j i ≡ true
unfolding levels_sound
levels_all e l zero i h = refl
levels_all e l (suc j) i h =
    and_intro (level_sound e l i) (levels_sound e l j (suc i)) (facts_level e l i (h i (omega arith) (omega arith)))
    (levels_all e l j (suc i) (λ m a b. h m (omega arith) (omega arith)))

pub facts_sound : (e l : List ℕ) → Sound e l → table_refusal e l ≡ 0
unfolding table_refusal entries_fit levels_fit chains_sound
facts_sound e l f =
    let n : ℕ = slots_of e in
    let d : ℕ = (settings_of l).deepest in
    rw (
      eq-eqb (length e) (entry_length n) f.length_entries,
      le-leb 1 n f.few,
      le-leb n 65535 f.many,
      eq-eqb (length l) (level_length d) f.length_levels,
      f.settings_ok,
      top_form e (first_free e) (clock_of e) f.top,
      all_every-true (is_free e) (free_chain e) f.free_forms,
      levels_all e l (suc d) 0 (λ m a b. f.levels m (omega arith)),
      f.deepest_owes_nothing,
      facts_once n (free_chain e ++ record_slots e l (suc d) 0) f.once,
    )

-- The chains of level i.
chained_at : (n : ℕ) (e : List ℕ) (ls : List (Level ℕ Tally)) (i : ℕ) → AllChained n e (level_chains ls)
    → (Chained n e (map point_cell (get_or ls i empty).points)) × (Chained n e (map range_cell (get_or ls i empty).ranges))
chained_at n e [] i c = (tt, tt)
chained_at n e (l ∷ ls) zero c = (c.0, c.1.0)
chained_at n e (l ∷ ls) (suc i) c = chained_at n e ls i c.1.1

formed_at : (clock : ℕ) (ls : List (Level ℕ Tally)) (i : ℕ) → i < length ls → All (LevelFormed clock) ls → LevelFormed clock (get_or ls i empty)
formed_at clock [] i h a = absurd (omega arith)
formed_at clock (l ∷ ls) zero h a = a.0
formed_at clock (l ∷ ls) (suc i) h a = formed_at clock ls i (omega arith) a.1

module _ (n : ℕ) (p : State ℕ Tally) (f : Formed n p) (e : List ℕ) (h : Holds n (top_of p) (all_chains p) e) where
  abbrev words : List ℕ
  words = level_words p

  small : n < 65536
  small = omega (arith, f.many)

  reads : read_state e words ≡ p
  reads = holds_reads n p f e h

  clock≡ : clock_of e ≡ p.clock
  clock≡ = ap (λ (r : Slot). r.span) h.first

  deepest≡ : (settings_of words).deepest ≡ p.settings.deepest
  deepest≡ = ap (λ (s : Settings). s.deepest) (settings_back p)

  module _ (i : ℕ) (b : i ≤ p.settings.deepest) where
    v : Level ℕ Tally
    v = get_or p.levels i empty

    in_range : i < length p.levels
    in_range = omega (arith, f.size)

    level≡ : read_level e words i ≡ v
    unfolding v
    level≡ = sym (read_state_level e words i (rw deepest≡ b)) ∙ ap (λ (s : State ℕ Tally). get_or s.levels i empty) reads

    row≡ : level_row words i ≡ row_of_level v
    unfolding v
    row≡ = level_row_at p i in_range

    owed≡ : (level_row words i).owed ≡ v.owed
    owed≡ = ap (λ (r : Row). r.owed) row≡

    number≡ : (level_row words i).held ≡ held v
    number≡ = ap (λ (r : Row). r.held) row≡

    points≡ : point_chain e words i ≡ cell_slots (map point_cell v.points)
    points≡ = sym (point_read_slots e (point_chain e words i)) ∙ ap (λ (x : Level ℕ Tally). point_slots x.points) level≡ ∙ sym (point_cell_slots v.points)

    ranges≡ : range_chain e words i ≡ cell_slots (map range_cell v.ranges)
    ranges≡ = sym (range_read_slots e (range_chain e words i)) ∙ ap (λ (x : Level ℕ Tally). range_slots x.ranges) level≡ ∙ sym (range_cell_slots v.ranges)

    cp : Chained n e (map point_cell v.points)
    unfolding v
    cp = (chained_at n e p.levels i h.each.1).0

    cr : Chained n e (map range_cell v.ranges)
    unfolding v
    cr = (chained_at n e p.levels i h.each.1).1

    g : LevelFormed p.clock v
    unfolding v
    g = formed_at p.clock p.levels i in_range f.levels_ok

    lengths : length (cell_slots (map point_cell v.points) ++ cell_slots (map range_cell v.ranges)) ≡ held v
    lengths =
        let points = length-map v.points (λ (q : Point ℕ Tally). q.slot) in
        let ranges = length-map v.ranges (λ (r : Range ℕ). r.slot) in
        rw (point_cell_slots v.points, range_cell_slots v.ranges)
        (omega (arith, length-append (point_slots v.points) (range_slots v.ranges), points, ranges))

    put_one : (x : Entry Tally) → eqb (entry_kind x) 1 ≡ false → is_put x ≡ false
    put_one (value a) q = q
    put_one tombstone q = refl

    -- What holds of the row of every point, or of every range, holds along its chain.
    along_points : (P : ℕ → Type 0) (Q : Point ℕ Tally → Type 0)
        → ((q : Point ℕ Tally) (next : ℕ) → next ≤ n → Q q → slot_at e q.slot ≡ cell_slot next (point_cell q) → P q.slot)
        → All Q v.points → All P (cell_slots (map point_cell v.points))
    along_points P Q each all = chained_all n e small point_cell P Q each v.points all cp

    along_ranges : (P : ℕ → Type 0) (Q : Range ℕ → Type 0)
        → ((r : Range ℕ) (next : ℕ) → next ≤ n → Q r → slot_at e r.slot ≡ cell_slot next (range_cell r) → P r.slot)
        → All Q v.ranges → All P (cell_slots (map range_cell v.ranges))
    along_ranges P Q each all = chained_all n e small range_cell P Q each v.ranges all cr

    pub level_is_sound : LevelSound e (level_words p) i
    level_is_sound = record {
      point_forms = rw points≡ (along_points _ (λ q. q.key ≤ 65535) (λ q k l m r. point_form n e small q k l m r) g.keys);
      point_order = rw points≡ (points_order n e small v.points 0 g.keys g.points_ascend (all_every _ (λ q. omega arith) v.points) cp);
      range_forms = rw ranges≡ (along_ranges _ (λ r. ((r.lo ≤ r.hi) × (r.hi ≤ 65535)) × ((1 ≤ r.date) × (r.date ≤ r.stamp)))
          (λ q k l m r. range_form n e small q k l m r) (all_both _ _ _ (λ r a d. (a, d)) v.ranges g.spans g.range_dates));
      range_order = rw ranges≡ (ranges_order n e small v.ranges 0 g.spans g.ranges_ascend (all_every _ (λ r. omega arith) v.ranges) cr);
      stamps = rw (points≡, ranges≡) (all_append _ (cell_slots (map point_cell v.points)) (cell_slots (map range_cell v.ranges))
          (along_points _ (λ q. (1 ≤ q.stamp) × (q.stamp ≤ p.clock))
          (λ q k l m r. stamp_form n e small (point_cell q) k l (m.0, rw clock≡ m.1) r) g.point_stamps)
          (along_ranges _ (λ q. (1 ≤ q.stamp) × (q.stamp ≤ p.clock))
          (λ q k l m r. stamp_form n e small (range_cell q) k l (m.0, rw clock≡ m.1) r) g.range_stamps));
      owes = rw (points≡, ranges≡, owed≡) (all_append _ (cell_slots (map point_cell v.points)) (cell_slots (map range_cell v.ranges))
          (along_points _ (λ q. is_put q.entry ≡ false → (1 ≤ v.owed) × (v.owed ≤ q.stamp))
          (λ q k l m r. owed_form n e small (point_cell q) v.owed k l (λ z. m (put_one q.entry z)) r) g.owed_points)
          (along_ranges _ (λ q. (1 ≤ v.owed) × (v.owed ≤ q.stamp))
          (λ q k l m r. owed_form n e small (range_cell q) v.owed k l (λ z. m) r) g.owed_ranges));
      number = number≡ ∙ sym lengths ∙ rw (points≡, ranges≡);
      owed_clock = rw (owed≡, clock≡) g.owed_clock;
      owed_empty = rw (points≡, ranges≡, owed≡)
          (λ q. g.owed_empty (sym lengths ∙ length_of_none (cell_slots (map point_cell v.points) ++ cell_slots (map range_cell v.ranges)) q));
    }

  slots≡ : slots_of e ≡ n
  slots≡ = omega (arith, h.room)

  free≡ : free_chain e ≡ p.free
  free≡ = unfold state_as in ap (λ (s : State ℕ Tally). s.free) reads

  records≡ : record_slots e words (suc (settings_of words).deepest) 0 ≡ levels_slots p.levels
  records≡ = sym (read_slots e words (suc (settings_of words).deepest) 0) ∙ (unfold state_as in ap (λ (s : State ℕ Tally). levels_slots s.levels) reads)

  -- Tables that hold a formed state's chains are sound.
  pub formed_sound : Sound e (level_words p)
  formed_sound = record {
    length_entries = h.room ∙ ap entry_length (sym slots≡);
    few = rw slots≡ f.few;
    many = rw slots≡ f.many;
    length_levels = length-level_words p ∙ omega (arith, f.size, deepest≡);
    settings_ok = rw (settings_back p) f.settings_ok;
    top = top_written e (top_form e _ _ h.first);
    free_forms = rw (free≡ ∙ sym (free_slots_back p.free))
        (chained_all n e small free_cell _ (λ s. Unit {0}) (λ s k l m r. free_form n e small s k l r) p.free (all_every _ (λ s. tt) p.free) h.each.0);
    levels = λ i b. level_is_sound i (rw deepest≡ at b);
    deepest_owes_nothing = ap (λ k. (level_row words k).owed) deepest≡
        ∙ ap (λ (r : Row). r.owed) (level_row_at p p.settings.deepest (omega (arith, f.size))) ∙ f.deepest_owes_nothing;
    once = rw (slots≡, free≡, records≡) (once_facts n (p.free ++ levels_slots p.levels) f.slots_once);
  }

-- The words of a formed state meet no refusal.
pub words_sound : (n : ℕ) (p : State ℕ Tally) → Formed n p → table_refusal (entry_words n p) (level_words p) ≡ 0
words_sound n p f = facts_sound (entry_words n p) (level_words p) (formed_sound n p f (entry_words n p) (formed_holds n p f))

-- Tables that meet no refusal are the words of a formed state, the one that they read as.
pub record WordsOf (e l : List ℕ) (p : State ℕ Tally) : Type 0 where
  pub formed : Formed (slots_of e) p
  pub entries : e ≡ entry_words (slots_of e) p
  pub levels : l ≡ level_words p

pub sound_words : (e l : List ℕ) → Fits32 e → table_refusal e l ≡ 0 → WordsOf e l (read_state e l)
sound_words e l w h =
    let f = sound_facts e l h in
    record { formed = sound_formed e l w f; entries = sound_entries e l w f; levels = sound_levels e l w f }

-- Two pairs of sound tables of the same length that read as the same state are equal word for word.
pub same_state_same_words : (e l e' l' : List ℕ) → Fits32 e → Fits32 e' → table_refusal e l ≡ 0 → table_refusal e' l' ≡ 0 → slots_of e ≡ slots_of e'
    → read_state e l ≡ read_state e' l' → (e ≡ e') × (l ≡ l')
same_state_same_words e l e' l' w w' h h' n p =
    let a = sound_words e l w h in
    let b = sound_words e' l' w' h' in
    let entries = a.entries ∙ ap (λ k. entry_words k (read_state e l)) n ∙ ap (entry_words (slots_of e')) p ∙ sym b.entries in
    (entries, a.levels ∙ ap level_words p ∙ sym b.levels)
