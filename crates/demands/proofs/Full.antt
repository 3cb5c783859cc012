-- A put is refused 7 exactly when every slot holds a different live docket and its own is not among them, on every pair of sound tables.
use mathlib.Core.Path.{◌≡◌, refl, sym, ap, subst, ◌∙◌}
use mathlib.Core.Logic.{◌↔◌, ◌≢◌}
use mathlib.Core.Bool.{Bool, true, false, cond, ◌||◌, false≢true}
use mathlib.Core.List.{List, [], ◌∷◌, ◌++◌, map}
use Prim.Native.Nat.{ℕ, zero, suc, ◌+◌, ◌≤◌}
use native.Mathlib.Omega.{arith}
use native.Mathlib.Decide.{ℕ_discrete}
use lib.Dec.{eqb}
use lib.ListN.{length, length-map}
use borrow.Author.Tests.{eqb-true, eq-eqb, ne_eqb, le-ltb}
use Rattle.lists.specs.Lists.{any, count}
use Rattle.lists.specs.All.{All}
use Rattle.lists.proofs.Bools.{by_cases, eqb_sym}
use Rattle.lists.proofs.Tests.{all_weaken, any-map, any_same}
use Rattle.lists.proofs.Counts.{count_map, none_counted}
use Rattle.lists.proofs.Counting.{Distinct, pigeonhole}
use Rattle.model.specs.declared.Tally.{Tally}
use Rattle.model.specs.Records.{Point, State}
use Rattle.model.specs.Merge.{names, point_slots}
use Rattle.model.specs.Steps.{put, no_slot}
use Rattle.model.specs.Calls.{written, bad_clock}
use Rattle.model.specs.Lookup as model
use Rattle.model.specs.Lookup.{absent, find, lookup}
use Rattle.model.specs.Live.{all_points}
use Rattle.model.proofs.Slots.{Whole}
use Rattle.model.proofs.Passing.{merge_all_counts}
use Rattle.model.proofs.Aged.{Stamped}
use Rattle.model.proofs.Puts.{PutsOnly, all_put, lookup_points, merge_all-lookup_puts, full_puts, full_free, full_once, full_lacks}
use Rattle.model.proofs.Full.{AllPuts, points_all, bottom, found_named, live_slots, live_full}
use Rattle.tables.specs.Words.{Fits32}
use Rattle.tables.specs.Slots.{Slot, slots_of, kind_of, lo_of, stamp_of, clock_of}
use Rattle.tables.specs.Rows.{settings_of}
use Rattle.tables.specs.Sound.{free_chain, point_chain, range_chain, is_range, table_refusal}
use Rattle.tables.specs.Placed.{read_point, read_range, read_levels, read_state, levels_as, state_as}
use Rattle.tables.specs.Formed.{levels_slots, Formed}
use Rattle.tables.proofs.Cells.{times, times_head}
use Rattle.tables.proofs.Once.{Inside, OnceFacts, once_facts, once_inside, once_most}
use Rattle.tables.proofs.Linked.{range_parts}
use Rattle.tables.proofs.Remains.{free_slots_blank}
use Rattle.tables.proofs.SoundWords.{Sound, sound_facts}
use Rattle.tables.proofs.SoundChains.{free_ends, points_end, ranges_end}
use Rattle.tables.proofs.Whole.{whole}
use Rattle.tables.proofs.SlotLists.{all_there, count_one, count_two}
use Rattle.tables.proofs.ReadPoints.{slots_points, own_levels, own_back, kind_put, put_kinds, find_own}
use Rattle.tables.proofs.FormedSound.{sound_words}
use Rattle.lookup.specs.Lookup.{Answer, Refused, Absent, Found, answered, lookup_tables}
use Rattle.call_tables.specs.Calls.{Tables, call_tables}
use Rattle.call_tables.proofs.Refusals.{refused_exactly}
use Rattle.demands.specs.Full.{IsSlot, HoldsLive, SlotsLive}

finds : Answer Tally → Bool
finds (Refused n) = false
finds Absent = false
finds (Found tally stamp) = true

found_is : (f : model.Found Tally) → finds (answered f) ≡ model.is_found f
unfolding finds
found_is model.absent = refl
found_is (model.found a t) = refl

module _ (w : Tables) (sound : table_refusal w.entries w.levels ≡ 0) (formed : Formed (slots_of w.entries) (read_state w.entries w.levels)) where
  abbrev e : List ℕ
  e = w.entries

  abbrev n : ℕ
  n = slots_of w.entries

  abbrev p : State ℕ Tally
  p = read_state w.entries w.levels

  abbrev points : List (Point ℕ Tally)
  points = all_points p.levels

  abbrev ss : List ℕ
  ss = point_slots points

  look : (k : ℕ) → k ≤ 65535 → lookup_tables e w.levels k ≡ answered (lookup p.levels k)
  unfolding lookup_tables
  look k h = rw (sound, le-ltb 65535 k h, le-ltb k k (omega arith))

  lo_small : (s : ℕ) → lo_of e s ≤ 65535
  lo_small s = omega arith

  own : map (read_point e) ss ≡ points
  unfolding state_as
  own = own_back e points (own_levels e w.levels (suc (settings_of w.levels).deepest) 0)

  keys_counted : (k : ℕ) → count (λ (x : Point ℕ Tally). eqb x.key k) points ≡ count (λ s. eqb (lo_of e s) k) ss
  keys_counted k = ap (count (λ (x : Point ℕ Tally). eqb x.key k)) (sym own) ∙ count_map (read_point e) (λ (x : Point ℕ Tally). eqb x.key k) ss

  form : Whole n p
  form = whole n p formed

  stamps : All (Stamped p.clock) p.levels
  stamps = all_weaken _ _ (λ l f. f.point_stamps) p.levels formed.levels_ok

  stamps_of : (rs : List ℕ) → All (λ (x : Point ℕ Tally). (1 ≤ x.stamp) × (x.stamp ≤ p.clock)) (map (read_point e) rs) → All (λ s. 1 ≤ stamp_of e s) rs
  stamps_of [] a = tt
  stamps_of (s ∷ rs) a = (a.0.0, stamps_of rs a.1)

  stamped : All (λ s. 1 ≤ stamp_of e s) ss
  stamped = stamps_of ss (rw own (points_all _ p.levels stamps))

  -- Where no slot is free and all records are puts, every slot is a put's.
  module _ (free : p.free ≡ []) (puts : All PutsOnly p.levels) where
    once : OnceFacts n ss
    once =
        subst (OnceFacts n) (ap (λ f. f ++ levels_slots p.levels) free ∙ slots_points p.levels puts)
        (once_facts n (p.free ++ levels_slots p.levels) formed.slots_once)

    stands : (i : ℕ) → IsSlot w i → 1 ≤ times i ss
    stands i h = omega (arith, once.each i (omega (arith, h.0)) h.1)

    slots_inside : All (Inside n) ss
    slots_inside = once_inside n ss once

  -- Refused 7: every slot holds a different live docket.
  module _ (t k : ℕ) (a : Tally) (full : no_slot t (put k a) p ≡ true) where
    puts : All PutsOnly p.levels
    puts = full_puts n p form t k a full

    free : p.free ≡ []
    free = full_free n p form t k a full

    kind : (i : ℕ) → IsSlot w i → kind_of e i ≡ 1
    kind i h = all_there (λ s. kind_of e s ≡ 1) ss i (put_kinds e ss (subst AllPuts (sym own) (all_put p.levels puts))) (stands free puts i h)

    single : (j : ℕ) → count (λ s. eqb (lo_of e s) j) ss ≤ 1
    single j = omega (arith, keys_counted j, full_once n p form t k a full j)

    holds : (i : ℕ) → IsSlot w i → HoldsLive w i
    holds i h = record {
      is_put = kind i h;
      found = look (lo_of e i) (lo_small i)
          ∙ ap answered (lookup_points p.levels (lo_of e i) puts ∙ ap (λ ps. find 0 ps (lo_of e i) absent) (sym own)
          ∙ find_own e i ss (kind i h) (all_there _ ss i stamped (stands free puts i h)) (stands free puts i h) (single (lo_of e i)));
    }

    apart : (i j : ℕ) → IsSlot w i → IsSlot w j → lo_of e i ≡ lo_of e j → Dec (i ≡ j) → i ≡ j
    apart i j h g q (yes r) = r
    apart i j h g q (no r) =
        let same : ℕ → Bool = λ s. eqb (lo_of e s) (lo_of e i) in
        absurd (omega (
          arith,
          count_two same i (eq-eqb (lo_of e i) (lo_of e i) refl) j (eq-eqb (lo_of e j) (lo_of e i) (sym q)) r ss,
          single (lo_of e i),
          stands free puts i h,
          stands free puts j g,
        ))

    pub full_slots : SlotsLive k w
    full_slots = record {
      every = holds;
      different = λ i j h g q. apart i j h g q (ℕ_discrete i j);
      without = λ i h q.
          omega (arith, count_one (λ s. eqb (lo_of e s) k) i (eq-eqb (lo_of e i) k q) ss, stands free puts i h, keys_counted k, full_lacks n p form t k a full);
    }

  -- And back: merging frees nothing.
  module _ (k : ℕ) (live : SlotsLive k w) where
    facts : Sound e w.levels
    facts = sound_facts e w.levels sound

    no_chain : (rs : List ℕ) → All (Inside n) rs → All (λ s. kind_of e s ≢ 1) rs → rs ≡ []
    no_chain [] i a = refl
    no_chain (s ∷ rs) i a = absurd (a.0 (live.every s i.0).is_put)

    none_free : p.free ≡ []
    unfolding state_as
    none_free =
        no_chain (free_chain e) (free_ends e w.levels facts).inside
        (all_weaken _ _ (λ s g q. omega (arith, ap (λ (r : Slot). r.link) g, q)) (free_chain e) (free_slots_blank e w.levels sound))

    range_kind : (s : ℕ) → is_range e s ≡ true → kind_of e s ≢ 1
    range_kind s h q = omega (arith, q, (range_parts e s h).kind)

    no_ranges : (i : ℕ) → i ≤ (settings_of w.levels).deepest → range_chain e w.levels i ≡ []
    no_ranges i h =
        no_chain (range_chain e w.levels i) (ranges_end e w.levels facts i h).inside
        (all_weaken _ _ range_kind (range_chain e w.levels i) (facts.levels i h).range_forms)

    chain_puts : (rs : List ℕ) → All (Inside n) rs → AllPuts (map (read_point e) rs)
    chain_puts [] i = tt
    chain_puts (s ∷ rs) i = (kind_put e s (live.every s i.0).is_put, chain_puts rs i.1)

    levels_puts : (j i : ℕ) → i + j ≤ suc (settings_of w.levels).deepest → All PutsOnly (read_levels e w.levels j i)
    unfolding levels_as
    levels_puts zero i h = tt
    levels_puts (suc j) i h =
        let deep : i ≤ (settings_of w.levels).deepest = omega (arith, h) in (
          (chain_puts (point_chain e w.levels i) (points_end e w.levels facts i deep).inside, ap (map (read_range e)) (no_ranges i deep)),
          levels_puts j (suc i) (omega (arith, h)),
        )

    all_puts : All PutsOnly p.levels
    unfolding state_as
    all_puts = levels_puts (suc (settings_of w.levels).deepest) 0 (omega arith)

    repeated : (s : ℕ) (rs : List ℕ) → Inside n s → All (Inside n) rs → any (eqb (lo_of e s)) (map (lo_of e) rs) ≡ true → 1 ≤ times s rs
    unfolding any count
    repeated s [] i a h = absurd (false≢true h)
    repeated s (r ∷ rs) i a h = go (eqb (lo_of e s) (lo_of e r)) refl h (repeated s rs i a.1)
      where
        go : (b : Bool) → eqb (lo_of e s) (lo_of e r) ≡ b → b || (any (eqb (lo_of e s)) (map (lo_of e) rs)) ≡ true
            → (any (eqb (lo_of e s)) (map (lo_of e) rs) ≡ true → 1 ≤ times s rs) → 1 ≤ times s (r ∷ rs)
        go true g m ih =
            let q : s ≡ r = live.different s r i a.0 (eqb-true (lo_of e s) (lo_of e r) g) in
            omega (arith, ap (λ x. times s (x ∷ rs)) q, times_head s rs)
        go false g m ih = omega (arith, ih m)

    -- The dockets of the slots, each another.
    distinct : (rs : List ℕ) → All (Inside n) rs → ((s : ℕ) → times s rs ≤ 1) → Distinct (map (lo_of e) rs)
    unfolding count
    distinct [] a o = tt
    distinct (s ∷ rs) a o = (
      by_cases (any (eqb (lo_of e s)) (map (lo_of e) rs)) (λ y. absurd (omega (arith, repeated s rs a.0 a.1 y, o s, times_head s rs))) (λ x. x),
      distinct rs a.1 (λ r. omega (arith, o r)),
    )

    -- What merging leaves.
    abbrev left : List (Point ℕ Tally)
    left = (bottom n p form).points

    abbrev left_keys : List ℕ
    left_keys = map (λ (q : Point ℕ Tally). q.key) left

    -- A lookup finds each of them, before merging and after.
    named : (s : ℕ) → Inside n s → names left (lo_of e s) ≡ true
    named s i =
        let before : model.is_found (lookup p.levels (lo_of e s)) ≡ true =
        sym (found_is (lookup p.levels (lo_of e s))) ∙ ap finds (sym (look (lo_of e s) (lo_small s)) ∙ (live.every s i).found) ∙ (unfold finds in refl) in
        found_named left (lo_of e s)
        (ap model.is_found (sym ((bottom n p form).finds (lo_of e s)) ∙ merge_all-lookup_puts p (lo_of e s) form.formed all_puts) ∙ before)

    all_named : (rs : List ℕ) → All (Inside n) rs
        → All (λ x. any (eqb x) left_keys ≡ true) (map (lo_of e) rs)
    all_named [] a = tt
    all_named (s ∷ rs) a = (
      any-map (λ (q : Point ℕ Tally). q.key) (eqb (lo_of e s)) left
          ∙ any_same (λ q. eqb (lo_of e s) q.key) (λ q. eqb q.key (lo_of e s)) (λ q. eqb_sym (lo_of e s) q.key) left ∙ named s a.0,
      all_named rs a.1,
    )

    remain : n ≤ length left
    remain =
        let o = once none_free all_puts in
        let inside = slots_inside none_free all_puts in
        omega (
          arith,
          pigeonhole (map (lo_of e) ss) left_keys (distinct ss inside (once_most n ss o)) (all_named ss inside),
          length-map ss (lo_of e),
          length-map left (λ (q : Point ℕ Tally). q.key),
          o.number,
        )

    uncounted : (rs : List ℕ) → All (Inside n) rs → count (λ s. eqb (lo_of e s) k) rs ≡ 0
    unfolding count
    uncounted [] a = refl
    uncounted (s ∷ rs) a = rw (ne_eqb (lo_of e s) k (live.without s a.0)) (omega (arith, uncounted rs a.1))

    lacking : names left k ≡ false
    lacking =
        let test : Point ℕ Tally → Bool = λ q. eqb q.key k in
        none_counted test left (omega (
          arith,
          merge_all_counts test p form.formed,
          ap (count test) (bottom n p form).are,
          keys_counted k,
          uncounted ss (slots_inside none_free all_puts),
        ))

    pub slots_full : (t : ℕ) (a : Tally) → no_slot t (put k a) p ≡ true
    slots_full t a = live_full n p form k (live_slots n p form stamps k (omega (arith, remain, (bottom n p form).counted)) lacking) t a

  -- The clock of what the tables read as is their own.
  clock_is : p.clock ≡ clock_of e
  unfolding state_as
  clock_is = refl

  seven : (b : Bool) → ◌≡◌ {A = ℕ} (cond b 7 0) 7 → b ≡ true
  seven true q = refl
  seven false q = absurd (omega arith)

  pub full_of_formed : (t k : ℕ) (a : Tally) → k ≤ 65535 → bad_clock t (clock_of w.entries) ≡ false
      → ((call_tables w (record { clock = t; op = written (put k a) })).answer.refusal ≡ 7) ↔ SlotsLive k w
  full_of_formed t k a h b =
      let number : (call_tables w (record { clock = t; op = written (put k a) })).answer.refusal ≡ cond (no_slot t (put k a) p) 7 0 =
      refused_exactly w (record { clock = t; op = written (put k a) }) ∙ rw (sound, le-ltb 65535 k h, clock_is, b) in (
        λ q. full_slots t k a (seven (no_slot t (put k a) p) (sym number ∙ q)),
        λ live. number ∙ ap (λ x. cond x 7 0) (slots_full k live t a),
      )

pub full_exactly : (w : Tables) → Fits32 w.entries → table_refusal w.entries w.levels ≡ 0
    → (t k : ℕ) (a : Tally) → k ≤ 65535 → bad_clock t (clock_of w.entries) ≡ false
    → ((call_tables w (record { clock = t; op = written (put k a) })).answer.refusal ≡ 7) ↔ SlotsLive k w
full_exactly w fits sound = full_of_formed w sound (sound_words w.entries w.levels fits sound).formed
