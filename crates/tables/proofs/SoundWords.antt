-- Sound tables are the words of the formed state that they read as.
use mathlib.Core.Path.{◌≡◌, refl, sym, ap, ◌∙◌}
use mathlib.Core.Bool.{Bool, true, false, cond, ◌&&◌}
use mathlib.Core.List.{List, [], ◌∷◌, ◌++◌, map}
use Prim.Native.Nat.{ℕ, zero, suc, ◌+◌, ◌<◌, ◌≤◌}
use native.Mathlib.Omega.{arith}
use native.Mathlib.Decide.{ℕ_discrete}
use lib.Dec.{eqb, leb}
use lib.ListN.{length, get_or, length-append, length-map}
use borrow.Author.Tests.{eqb-true, leb-true}
use Rattle.settings.specs.Limits.{within, allowed}
use Rattle.lists.specs.Lists.{every}
use Rattle.lists.specs.All.{All}
use Rattle.lists.proofs.Bools.{and_left, and_right}
use Rattle.lists.proofs.Tests.{map-map, every_all, all_left, all_right, all_weaken}
use Rattle.model.specs.declared.Tally.{Tally}
use Rattle.model.specs.Records.{Level, State, empty}
use Rattle.model.specs.Merge.{point_slots, range_slots}
use Rattle.tables.specs.Slots.{entry_length, slots_of, slot_at, next_of, top_slot, first_free, clock_of}
use Rattle.tables.specs.Rows.{level_length, settings_of, Row, level_row}
use Rattle.tables.specs.Words.{Fits32}
use Rattle.tables.specs.Sound.{chain_from, free_chain, point_chain, range_chain, is_free, level_sound, levels_sound, record_slots}
use Rattle.tables.specs.Sound.{every_slot_once, chains_sound, entries_fit, levels_fit, table_refusal, top_blank}
use Rattle.tables.specs.Placed.{Cell, free_cell, point_cell, range_cell, head, level_chains, all_chains, row_of_level, entry_words, level_words}
use Rattle.tables.specs.Placed.{read_point, read_range, read_level, read_levels, read_state, cell_slot, top_of, levels_as, state_as}
use Rattle.tables.specs.Formed.{LevelFormed, levels_slots, Formed}
use Rattle.tables.proofs.Rows.{rows_equal, length-level_words, settings_back, level_row_at}
use Rattle.tables.proofs.Cells.{Chained, AllChained, Holds}
use Rattle.tables.proofs.Once.{OnceFacts, once_facts, facts_once, Inside, once_inside}
use Rattle.tables.proofs.Back.{formed_words}
use Rattle.tables.proofs.Linked.{chain_linked, linked_chained, free_written, point_written, range_written, top_written}
use Rattle.tables.proofs.LevelSound.{LevelSound, level_facts, level_reads_formed}

-- What refusal 0 says, sentence by sentence.
pub record Sound (e l : List ℕ) : Type 0 where
  pub length_entries : length e ≡ entry_length (slots_of e)
  pub few : 1 ≤ slots_of e
  pub many : slots_of e ≤ 65535
  pub length_levels : length l ≡ level_length (settings_of l).deepest
  pub settings_ok : allowed (settings_of l) ≡ true
  pub top : slot_at e 0 ≡ top_slot (first_free e) (clock_of e)
  pub free_forms : All (λ s. is_free e s ≡ true) (free_chain e)
  pub levels : (i : ℕ) → i ≤ (settings_of l).deepest → LevelSound e l i
  pub deepest_owes_nothing : (level_row l (settings_of l).deepest).owed ≡ 0
  pub once : OnceFacts (slots_of e) (free_chain e ++ record_slots e l (suc (settings_of l).deepest) 0)

levels_at : (e l : List ℕ) (j i m : ℕ) → levels_sound e l j i ≡ true → i ≤ m → m < i + j → level_sound e l m ≡ true
unfolding levels_sound
levels_at e l zero i m h a b = absurd (omega arith)
levels_at e l (suc j) i m h a b =
    let here = level_sound e l i in
    let rest = levels_sound e l j (suc i) in
    go (levels_at e l j (suc i) m (and_right here rest h)) (and_left here rest h) (ℕ_discrete m i)
  where
    go : (suc i ≤ m → m < suc i + j → level_sound e l m ≡ true) → level_sound e l i ≡ true → Dec (m ≡ i) → level_sound e l m ≡ true
    go ih here (yes q) = rw q here
    go ih here (no q) = ih (omega arith) (omega arith)

refusal_parts : (a b c : Bool) → ◌≡◌ {A = ℕ} (cond a (cond b (cond c 0 3) 2) 1) 0 → (a ≡ true) × (b ≡ true) × (c ≡ true)
refusal_parts true true true h = (refl, refl, refl)
refusal_parts true true false h = absurd (omega arith)
refusal_parts true false c h = absurd (omega arith)
refusal_parts false b c h = absurd (omega arith)

pub sound_facts : (e l : List ℕ) → table_refusal e l ≡ 0 → Sound e l
unfolding table_refusal entries_fit levels_fit chains_sound
sound_facts e l h =
    let n : ℕ = slots_of e in
    let d : ℕ = (settings_of l).deepest in
    let parts = refusal_parts (entries_fit e) (levels_fit l) (chains_sound e l) h in
    let b2 : Bool = top_blank e in
    let b3 : Bool = every (is_free e) (free_chain e) in
    let b4 : Bool = levels_sound e l (suc d) 0 in
    let b5 : Bool = eqb (level_row l d).owed 0 in
    let b6 : Bool = every_slot_once n (free_chain e ++ record_slots e l (suc d) 0) in
    let c5 = and_left (b2 && b3 && b4 && b5) b6 parts.2 in
    let c4 = and_left (b2 && b3 && b4) b5 c5 in
    let c3 = and_left (b2 && b3) b4 c4 in
    let c2 = and_left b2 b3 c3 in
    let sizes = and_right (eqb (length e) (entry_length n)) (within 1 n 65535) parts.0 in
    record {
      length_entries = eqb-true (length e) (entry_length n) (and_left (eqb (length e) (entry_length n)) (within 1 n 65535) parts.0);
      few = leb-true 1 n (and_left (leb 1 n) (leb n 65535) sizes);
      many = leb-true n 65535 (and_right (leb 1 n) (leb n 65535) sizes);
      length_levels = eqb-true (length l) (level_length d) (and_left (eqb (length l) (level_length d)) (allowed (settings_of l)) parts.1);
      settings_ok = and_right (eqb (length l) (level_length d)) (allowed (settings_of l)) parts.1;
      top = top_written e c2;
      free_forms = every_all (is_free e) (free_chain e) (and_right b2 b3 c3);
      levels = λ i k. level_facts e l i (levels_at e l (suc d) 0 i (and_right (b2 && b3) b4 c4) (omega arith) (omega arith));
      deepest_owes_nothing = eqb-true (level_row l d).owed 0 (and_right (b2 && b3 && b4) b5 c5);
      once = once_facts n (free_chain e ++ record_slots e l (suc d) 0) (and_right (b2 && b3 && b4 && b5) b6 parts.2);
    }

-- The slots of what is read are the slots of the chains.
pub point_read_slots : (e ss : List ℕ) → point_slots (map (read_point e) ss) ≡ ss
point_read_slots e [] = refl
point_read_slots e (s ∷ ss) = ap (◌∷◌ s) (point_read_slots e ss)

pub range_read_slots : (e ss : List ℕ) → range_slots (map (read_range e) ss) ≡ ss
range_read_slots e [] = refl
range_read_slots e (s ∷ ss) = ap (◌∷◌ s) (range_read_slots e ss)

pub read_slots : (e l : List ℕ) (j i : ℕ) → levels_slots (read_levels e l j i) ≡ record_slots e l j i
unfolding levels_as record_slots
read_slots e l zero i = refl
read_slots e l (suc j) i = rw (point_read_slots e (point_chain e l i), range_read_slots e (range_chain e l i), read_slots e l j (suc i))

pub length-read_levels : (e l : List ℕ) (j i : ℕ) → length (read_levels e l j i) ≡ j
unfolding levels_as
length-read_levels e l zero i = refl
length-read_levels e l (suc j) i = ap suc (length-read_levels e l j (suc i))

pub read_levels_at : (e l : List ℕ) (j i m : ℕ) → m < j → get_or (read_levels e l j i) m empty ≡ read_level e l (i + m)
unfolding levels_as
read_levels_at e l zero i m h = absurd (omega arith)
read_levels_at e l (suc j) i zero h = ap (read_level e l) (omega arith)
read_levels_at e l (suc j) i (suc m) h = read_levels_at e l j (suc i) m (omega arith) ∙ ap (read_level e l) (omega arith)

pub length_state_levels : (e l : List ℕ) → length (read_state e l).levels ≡ suc (settings_of l).deepest
unfolding state_as
length_state_levels e l = length-read_levels e l (suc (settings_of l).deepest) 0

pub read_state_level : (e l : List ℕ) (i : ℕ) → i ≤ (settings_of l).deepest → get_or (read_state e l).levels i empty ≡ read_level e l i
unfolding state_as
read_state_level e l i h =
    let nothing : 0 + i ≡ i = omega arith in
    read_levels_at e l (suc (settings_of l).deepest) 0 i (omega arith) ∙ ap (read_level e l) nothing

module _ (e l : List ℕ) (w : Fits32 e) (f : Sound e l) where
  n : ℕ
  n = slots_of e

  deepest : ℕ
  deepest = (settings_of l).deepest

  -- All chains are short, so all end, and all their slots are in the table.
  inside : All (Inside n) (free_chain e ++ record_slots e l (suc deepest) 0)
  unfolding n deepest
  inside = once_inside (slots_of e) (free_chain e ++ record_slots e l (suc (settings_of l).deepest) 0) f.once

  total : length (free_chain e) + length (record_slots e l (suc deepest) 0) ≡ n
  unfolding n deepest
  total = sym (length-append (free_chain e) (record_slots e l (suc (settings_of l).deepest) 0)) ∙ f.once.number

  levels_formed : (j i : ℕ) → i + j ≤ suc deepest → All (LevelFormed (clock_of e)) (read_levels e l j i)
  unfolding levels_as deepest
  levels_formed zero i h = tt
  levels_formed (suc j) i h = (level_reads_formed e l i w (f.levels i (omega arith)), levels_formed j (suc i) (omega arith))

  pub sound_formed : Formed (slots_of e) (read_state e l)
  unfolding state_as deepest
  sound_formed = record {
    few = f.few;
    many = f.many;
    settings_ok = f.settings_ok;
    size = length-read_levels e l (suc (settings_of l).deepest) 0;
    levels_ok = levels_formed (suc (settings_of l).deepest) 0 (omega arith);
    deepest_owes_nothing =
        ap (λ (v : Level ℕ Tally). v.owed) (read_levels_at e l (suc (settings_of l).deepest) 0 (settings_of l).deepest (omega arith))
        ∙ ap (λ k. (level_row l k).owed) (omega arith) ∙ f.deepest_owes_nothing;
    slots_once = rw (read_slots e l (suc (settings_of l).deepest) 0)
        (facts_once (slots_of e) (free_chain e ++ record_slots e l (suc (settings_of l).deepest) 0) f.once);
  }

  -- A chain of the table, with the cells that it reads as.
  chain_held : (cell : ℕ → Cell) → ((s : ℕ) → (cell s).slot ≡ s) → (h : ℕ) → length (chain_from e h) ≤ n → All (Inside n) (chain_from e h)
      → All (λ s. slot_at e s ≡ cell_slot (next_of e s) (cell s)) (chain_from e h)
      → (Chained n e (map cell (chain_from e h))) × (head (map cell (chain_from e h)) ≡ h)
  unfolding n
  chain_held cell own h short i r =
      linked_chained (slots_of e) e cell own h (chain_from e h) (chain_linked (length e) e h (omega (arith, f.length_entries))) i r

  free_held : (Chained n e (map free_cell (free_chain e))) × (head (map free_cell (free_chain e)) ≡ first_free e)
  free_held =
      chain_held free_cell (λ s. refl) (first_free e) (omega (arith, total)) (all_left (Inside n) (free_chain e) (record_slots e l (suc deepest) 0) inside)
      (all_weaken _ _ (λ s. free_written e s) (free_chain e) f.free_forms)

  points_held : (i : ℕ) → i ≤ (settings_of l).deepest → length (point_chain e l i) ≤ n → All (Inside n) (point_chain e l i)
      → let cells = map point_cell (map (read_point e) (point_chain e l i)) in (Chained n e cells) × (head cells ≡ (level_row l i).points)
  points_held i k short a =
      rw (map-map (read_point e) point_cell (point_chain e l i))
      (chain_held (λ s. point_cell (read_point e s)) (λ s. refl) (level_row l i).points short a
      (all_weaken _ _ (λ s. point_written e s) (point_chain e l i) (f.levels i k).point_forms))

  ranges_held : (i : ℕ) → i ≤ (settings_of l).deepest → length (range_chain e l i) ≤ n → All (Inside n) (range_chain e l i)
      → let cells = map range_cell (map (read_range e) (range_chain e l i)) in (Chained n e cells) × (head cells ≡ (level_row l i).ranges)
  ranges_held i k short a =
      rw (map-map (read_range e) range_cell (range_chain e l i))
      (chain_held (λ s. range_cell (read_range e s)) (λ s. refl) (level_row l i).ranges short a
      (all_weaken _ _ (λ s. range_written e s) (range_chain e l i) (f.levels i k).range_forms))

  -- A level's two chains, and its row.
  record LevelHeld (i : ℕ) : Type 0 where
    points : Chained n e (map point_cell (map (read_point e) (point_chain e l i)))
    ranges : Chained n e (map range_cell (map (read_range e) (range_chain e l i)))
    row : level_row l i ≡ row_of_level (read_level e l i)

  level_held : (i : ℕ) → i ≤ (settings_of l).deepest → length (point_chain e l i ++ range_chain e l i) ≤ n
      → All (Inside n) (point_chain e l i ++ range_chain e l i) → LevelHeld i
  level_held i k short a =
      let ps : List ℕ = point_chain e l i in
      let rs : List ℕ = range_chain e l i in
      let p = points_held i k (omega (arith, length-append ps rs)) (all_left (Inside n) ps rs a) in
      let r = ranges_held i k (omega (arith, length-append ps rs)) (all_right (Inside n) ps rs a) in
      record {
        points = p.0;
        ranges = r.0;
        row = row_is (level_row l i) (row_of_level (read_level e l i)) (sym p.1) (sym r.1)
            ((f.levels i k).number ∙ omega (arith, length-append ps rs, length-map ps (read_point e), length-map rs (read_range e))) refl;
      }
    where
      row_is : (x y : Row) → x.points ≡ y.points → x.ranges ≡ y.ranges → x.held ≡ y.held → x.owed ≡ y.owed → x ≡ y
      row_is x y a b c d = rw (a, b, c, d)

  all_held : (j i : ℕ) → i + j ≤ suc (settings_of l).deepest → length (record_slots e l j i) ≤ n → All (Inside n) (record_slots e l j i)
      → (AllChained n e (level_chains (read_levels e l j i))) × ((m : ℕ) → i ≤ m → m < i + j → level_row l m ≡ row_of_level (read_level e l m))
  unfolding levels_as record_slots
  all_held zero i k short a = (tt, λ m x y. absurd (omega arith))
  all_held (suc j) i k short a =
      let here : List ℕ = point_chain e l i ++ range_chain e l i in
      let rest : List ℕ = record_slots e l j (suc i) in
      let h : LevelHeld i = level_held i (omega arith) (omega (arith, length-append here rest)) (all_left (Inside n) here rest a) in
      let t = all_held j (suc i) (omega arith) (omega (arith, length-append here rest)) (all_right (Inside n) here rest a) in
      ((h.points, (h.ranges, t.0)), λ m x y. at m x y h.row t.1 (ℕ_discrete m i))
    where
      at : (m : ℕ) → i ≤ m → m < i + suc j → level_row l i ≡ row_of_level (read_level e l i)
          → ((m : ℕ) → suc i ≤ m → m < suc i + j → level_row l m ≡ row_of_level (read_level e l m))
          → Dec (m ≡ i) → level_row l m ≡ row_of_level (read_level e l m)
      at m x y here rest (yes q) = rw q here
      at m x y here rest (no q) = rest m (omega arith) (omega arith)

  held_here : (AllChained n e (level_chains (read_levels e l (suc (settings_of l).deepest) 0))) ×
      ((m : ℕ) → 0 ≤ m → m < 0 + suc (settings_of l).deepest → level_row l m ≡ row_of_level (read_level e l m))
  unfolding deepest
  held_here =
      all_held (suc (settings_of l).deepest) 0 (omega arith) (omega (arith, total))
      (all_right (Inside n) (free_chain e) (record_slots e l (suc (settings_of l).deepest) 0) inside)

  pub sound_holds : Holds (slots_of e) (top_of (read_state e l)) (all_chains (read_state e l)) e
  unfolding state_as n
  sound_holds = record {
    room = f.length_entries;
    first = rw free_held.1 f.top;
    each = (free_held.0, held_here.0);
  }

  -- The tables are the words of what they read as.
  pub sound_entries : e ≡ entry_words (slots_of e) (read_state e l)
  sound_entries = formed_words (slots_of e) (read_state e l) sound_formed e sound_holds

  pub sound_levels : l ≡ level_words (read_state e l)
  sound_levels =
      let p : State ℕ Tally = read_state e l in
      rows_equal ((settings_of l).deepest + 1) l (level_words p) (f.length_levels ∙ omega arith) (length-level_words p ∙ omega (arith, length_state_levels e l))
      (unfold state_as in sym (settings_back (read_state e l))) at
    where
      at : (i : ℕ) → i < (settings_of l).deepest + 1 → level_row l i ≡ level_row (level_words (read_state e l)) i
      at i b =
          let p : State ℕ Tally = read_state e l in
          held_here.1 i (omega arith) (omega arith) ∙ ap row_of_level (sym (read_state_level e l i (omega arith)))
          ∙ sym (level_row_at p i (omega (arith, length_state_levels e l)))
