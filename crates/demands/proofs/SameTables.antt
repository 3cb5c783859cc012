-- Tables that differ in words of puts' tallies alone meet the same refusals, since no test of soundness asks for such a word, and read as states that differ so.
use mathlib.Core.Path.{◌≡◌, refl, sym, ap, ◌∙◌}
use mathlib.Core.Logic.{◌≢◌}
use mathlib.Core.Bool.{Bool, true, false, cond}
use mathlib.Core.List.{List, [], ◌∷◌, ◌++◌, map}
use Prim.Native.Nat.{ℕ, zero, suc, ◌+◌, ◌*◌, ◌/◌, ◌%◌, ◌≤◌}
use native.Mathlib.Omega.{arith}
use lib.Dec.{eqb}
use lib.ListN.{length, get_or}
use borrow.Author.Tests.{eqb-true, eqb-false, eq-eqb, ne_eqb}
use Rattle.lists.specs.Lists.{every}
use Rattle.lists.specs.All.{All}
use Rattle.lists.proofs.Bools.{by_cases, both_false}
use Rattle.model.specs.declared.Tally.{Tally}
use Rattle.tables.specs.Slots.{slot_size, slot_at, next_of, kind_of, tally_of, count_of, price_of, first_free}
use Rattle.tables.specs.Rows.{settings_of, level_row}
use Rattle.tables.specs.Sound.{order_key, chain, chain_from, free_chain, point_chain, range_chain, is_free, is_point, is_range, ascend, is_stamped}
use Rattle.tables.specs.Sound.{owed_before, level_sound, levels_sound, record_slots, chains_sound, entries_fit, table_refusal}
use Rattle.tables.specs.Placed.{read_range, point_as, level_as, levels_as, state_as, read_state}
use Rattle.tables.proofs.Linked.{range_parts}
use Rattle.tables.proofs.SoundWords.{Sound, sound_facts}
use Rattle.tables.proofs.Shown.{state_less}
use Rattle.tables.proofs.Tallies.{aside}
use Rattle.demands.specs.Hidden.{tally_word, price_word, SameEntries, masked}

every_same : {X : Type 0} (t u : X → Bool) → ((x : X) → t x ≡ u x) → (xs : List X) → every t xs ≡ every u xs
unfolding every
every_same t u h [] = refl
every_same t u h (x ∷ xs) = rw (h x, every_same t u h xs)

tally_same : {count count' price price' : ℕ} → count ≡ count' → price ≡ price'
    → ◌≡◌ {A = Tally} (record { count = count; price = price }) (record { count = count'; price = price' })
tally_same c p = rw (c, p)

-- Only words of tallies may differ, of the five of a slot.
pub record OnlyTallies (hides : ℕ → Bool) : Type 0 where
  pub link : hides 0 ≡ false
  pub span : hides 1 ≡ false
  pub stamp : hides 3 ≡ false

pub tallies_only : OnlyTallies tally_word
tallies_only = record { link = refl; span = refl; stamp = refl }

pub prices_only : OnlyTallies price_word
prices_only = record { link = refl; span = refl; stamp = refl }

module _ (hides : ℕ → Bool) (only : OnlyTallies hides) (e f : List ℕ) (h : SameEntries hides e f) where
  -- A word at a place that may not differ.
  pub shown_same : (i place : ℕ) → i % slot_size ≡ place → hides place ≡ false → get_or e i 0 ≡ get_or f i 0
  shown_same i place at shown = h.words i (λ t. both_false t.2 (ap hides at ∙ shown))

  link_same : (s : ℕ) → (slot_at e s).link ≡ (slot_at f s).link
  link_same s = shown_same (slot_size * s) 0 (omega arith) only.link

  span_same : (s : ℕ) → (slot_at e s).span ≡ (slot_at f s).span
  span_same s = shown_same (slot_size * s + 1) 1 (omega arith) only.span

  stamp_same : (s : ℕ) → (slot_at e s).stamp ≡ (slot_at f s).stamp
  stamp_same s = shown_same (slot_size * s + 3) 3 (omega arith) only.stamp

  -- Any word of a slot that is no put.
  other_same : (i s : ℕ) → i / slot_size ≡ s → kind_of e s ≢ 1 → get_or e i 0 ≡ get_or f i 0
  other_same i s at n = h.words i (λ t. n (ap (kind_of e) (sym at) ∙ t.1))

  count_same : (s : ℕ) → kind_of e s ≢ 1 → count_of e s ≡ count_of f s
  count_same s = other_same (slot_size * s + 2) s (omega arith)

  price_same : (s : ℕ) → kind_of e s ≢ 1 → price_of e s ≡ price_of f s
  price_same s = other_same (slot_size * s + 4) s (omega arith)

  -- And of slot 0.
  top_count_same : count_of e 0 ≡ count_of f 0
  top_count_same = h.words 2 (λ t. omega (arith, t.0))

  top_price_same : price_of e 0 ≡ price_of f 0
  top_price_same = h.words 4 (λ t. omega (arith, t.0))

  -- What is asked of a slot's words, where a put's tally is not, has the same answer.
  form_same : (test : List ℕ → ℕ → Bool) (s : ℕ) → (kind_of e s ≡ 1 → test e s ≡ test f s)
      → (count_of e s ≡ count_of f s → price_of e s ≡ price_of f s → test e s ≡ test f s) → test e s ≡ test f s
  form_same test s put other = by_cases (eqb (kind_of e s) 1)
      (λ q. put (eqb-true (kind_of e s) 1 q))
      (λ q. let n = eqb-false (kind_of e s) 1 q in other (count_same s n) (price_same s n))

  free_same : (s : ℕ) → is_free e s ≡ is_free f s
  free_same s = form_same is_free s
      (λ q. rw (link_same s, ne_eqb (kind_of f s) 0 (omega (arith, q, link_same s))))
      (λ count price. rw (link_same s, span_same s, count, price, stamp_same s))

  point_form_same : (s : ℕ) → is_point e s ≡ is_point f s
  point_form_same s = form_same is_point s
      (λ q. rw (link_same s, span_same s, eq-eqb (kind_of f s) 1 (omega (arith, q, link_same s))))
      (λ count price. rw (link_same s, span_same s, count, price))

  range_form_same : (s : ℕ) → is_range e s ≡ is_range f s
  range_form_same s = form_same is_range s
      (λ q. rw (link_same s, span_same s, ne_eqb (kind_of f s) 3 (omega (arith, q, link_same s))))
      (λ count price. rw (link_same s, span_same s, count, price, stamp_same s))

  chain_same : (k s : ℕ) → chain k e s ≡ chain k f s
  unfolding chain
  chain_same zero s = refl
  chain_same (suc k) s = rw (link_same s, chain_same k (next_of f s))

  from_same : (s : ℕ) → chain_from e s ≡ chain_from f s
  from_same s = ap (λ k. chain k e s) h.size ∙ chain_same (length f) s

  free_chain_same : free_chain e ≡ free_chain f
  free_chain_same = ap (chain_from e) (link_same 0) ∙ from_same (first_free f)

  ascend_same : (least : ℕ) (ss : List ℕ) → ascend e least ss ≡ ascend f least ss
  unfolding ascend
  ascend_same least [] = refl
  ascend_same least (s ∷ ss) = rw (span_same s, ascend_same (order_key f s + 1) ss)

  module _ (l : List ℕ) where
    level_sound_same : (i : ℕ) → level_sound e l i ≡ level_sound f l i
    unfolding level_sound
    level_sound_same i =
        let ps : List ℕ = point_chain f l i in
        let rs : List ℕ = range_chain f l i in
        rw (
          from_same (level_row l i).points,
          from_same (level_row l i).ranges,
          every_same (is_point e) (is_point f) point_form_same ps,
          every_same (is_range e) (is_range f) range_form_same rs,
          ascend_same 0 ps,
          ascend_same 0 rs,
          every_same (is_stamped e) (is_stamped f) (λ s. rw (stamp_same s, span_same 0)) (ps ++ rs),
          every_same (owed_before e (level_row l i).owed) (owed_before f (level_row l i).owed) (λ s. rw (link_same s, stamp_same s)) (ps ++ rs),
          span_same 0,
        )

    levels_sound_same : (j i : ℕ) → levels_sound e l j i ≡ levels_sound f l j i
    unfolding levels_sound
    levels_sound_same zero i = refl
    levels_sound_same (suc j) i = rw (level_sound_same i, levels_sound_same j (suc i))

    record_slots_same : (j i : ℕ) → record_slots e l j i ≡ record_slots f l j i
    unfolding record_slots
    record_slots_same zero i = refl
    record_slots_same (suc j) i = rw (from_same (level_row l i).points, from_same (level_row l i).ranges, record_slots_same j (suc i))

    pub refusal_same : table_refusal e l ≡ table_refusal f l
    unfolding table_refusal entries_fit chains_sound
    refusal_same =
        let d : ℕ = suc (settings_of l).deepest in
        rw (
          free_chain_same,
          h.size,
          top_count_same,
          top_price_same,
          stamp_same 0,
          every_same (is_free e) (is_free f) free_same (free_chain f),
          levels_sound_same d 0,
          record_slots_same d 0,
        )

    -- What sound tables read as to whom each slot shows the same: chains hang on words 0, points on words 0, 1 and 3, and ranges on their dates too.
    module _ {A : Type 0} (shown : List ℕ → ℕ → A) (alike : (s : ℕ) → shown e s ≡ shown f s) (sound : table_refusal e l ≡ 0) where
      facts : Sound e l
      facts = sound_facts e l sound

      points_same : (ss : List ℕ) → map (point_as shown e) ss ≡ map (point_as shown f) ss
      points_same [] = refl
      points_same (s ∷ ss) = rw (link_same s, span_same s, stamp_same s, alike s, points_same ss)

      ranges_same : (ss : List ℕ) → All (λ s. is_range e s ≡ true) ss → map (read_range e) ss ≡ map (read_range f) ss
      ranges_same [] a = refl
      ranges_same (s ∷ ss) a = rw (span_same s, stamp_same s, count_same s (omega (arith, (range_parts e s a.0).kind)), ranges_same ss a.1)

      level_same : (i : ℕ) → i ≤ (settings_of l).deepest → level_as shown e l i ≡ level_as shown f l i
      level_same i b =
          let ps : map (point_as shown e) (point_chain e l i) ≡ map (point_as shown f) (point_chain f l i) =
          points_same (point_chain e l i) ∙ ap (map (point_as shown f)) (from_same (level_row l i).points) in
          let rs : map (read_range e) (range_chain e l i) ≡ map (read_range f) (range_chain f l i) =
          ranges_same (range_chain e l i) (facts.levels i b).range_forms ∙ ap (map (read_range f)) (from_same (level_row l i).ranges) in
          rw (ps, rs)

      levels_same : (j i : ℕ) → i + j ≤ suc (settings_of l).deepest → levels_as shown e l j i ≡ levels_as shown f l j i
      unfolding levels_as
      levels_same zero i b = refl
      levels_same (suc j) i b =
          ap (λ x. x ∷ levels_as shown e l j (suc i)) (level_same i (omega (arith, b)))
          ∙ ap (◌∷◌ (level_as shown f l i)) (levels_same j (suc i) (omega (arith, b)))

      pub state_same : state_as shown e l ≡ state_as shown f l
      unfolding state_as
      state_same = rw (free_chain_same, span_same 0, levels_same (suc (settings_of l).deepest) 0 (omega arith))

    -- Behind the mask all tallies are shown the same.
    masked_word : (i place : ℕ) → i % slot_size ≡ place → (b : Bool) → hides place ≡ b → cond b 0 (get_or e i 0) ≡ cond b 0 (get_or f i 0)
    masked_word i place at true q = refl
    masked_word i place at false q = shown_same i place at q

    masked_same : (s : ℕ) → masked hides (tally_of e s) ≡ masked hides (tally_of f s)
    masked_same s =
        tally_same (masked_word (slot_size * s + 2) 2 (omega arith) (hides 2) refl) (masked_word (slot_size * s + 4) 4 (omega arith) (hides 4) refl)

    pub aside_same : table_refusal e l ≡ 0 → aside (masked hides) (read_state e l) ≡ aside (masked hides) (read_state f l)
    aside_same sound =
        sym (state_less tally_of (masked hides) e l) ∙ state_same (λ e s. masked hides (tally_of e s)) masked_same sound
        ∙ state_less tally_of (masked hides) f l
