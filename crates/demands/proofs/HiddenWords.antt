-- No word but the hidden ones of puts hangs on what they hold: states whose tallies are the same behind a mask write tables that differ behind it alone.
use mathlib.Core.Path.{◌≡◌, sym, ap, ◌∙◌}
use mathlib.Core.Bool.{Bool, true, false}
use mathlib.Core.List.{List, [], ◌∷◌, map}
use Prim.Native.Nat.{ℕ, ◌+◌, ◌-◌, ◌*◌, ◌/◌, ◌%◌, ◌<◌, ◌≤◌}
use native.Mathlib.Omega.{arith}
use native.Mathlib.Decide.{ℕ_discrete, dec_lt}
use lib.Dec.{eqb}
use lib.ListN.{get_or, get_or-eq_default}
use borrow.Author.Tests.{eqb-true}
use Rattle.lists.specs.Lists.{count}
use Rattle.lists.proofs.Bools.{by_cases}
use Rattle.lists.proofs.Tests.{map-map}
use Rattle.model.specs.declared.Tally.{Tally}
use Rattle.model.specs.Records.{State}
use Rattle.model.specs.Calls.{Call, Answer, refusing, run, answers}
use Rattle.model.proofs.Demands as model
use Rattle.tables.specs.Words.{Fits32}
use Rattle.tables.specs.Slots.{slot_size, slots_of, Slot, slot_at, kind_of}
use Rattle.tables.specs.Sound.{table_refusal}
use Rattle.tables.specs.Placed.{Cell, head, cell_slot, all_chains, top_of, entry_words, level_words, read_state}
use Rattle.tables.specs.Formed.{Formed}
use Rattle.tables.proofs.Cells.{Chained, AllChained, cell_slots, chain_slots, times, times_append, times_other}
use Rattle.tables.proofs.Back.{formed_once, formed_holds}
use Rattle.tables.proofs.FormedSound.{sound_words}
use Rattle.tables.proofs.FormedSteps.{run_formed}
use Rattle.tables.proofs.Tallies.{aside, blank, head-blank, level_words-aside, chains_aside, top_aside}
use Rattle.call_tables.specs.Calls.{Tables, words, run_tables, answers_tables}
use Rattle.call_tables.proofs.Runs.{run_sound, answers_sound, run_unsound, answers_unsound}
use Rattle.demands.specs.Hidden.{IsHidden, SameBut, masked, without}
use Rattle.demands.proofs.SameTables.{OnlyTallies, refusal_same, aside_same}

-- Word place of slot s may differ.
abbrev HiddenIn : (ℕ → Bool) → List ℕ → ℕ → ℕ → Type 0
HiddenIn hides e s place = (1 ≤ s) × (kind_of e s ≡ 1) × (hides place ≡ true)

-- Slot s has the same words in both tables, but for the hidden ones of a put.
record SameSlot (hides : ℕ → Bool) (e f : List ℕ) (s : ℕ) : Type 0 where
  link : (slot_at e s).link ≡ (slot_at f s).link
  span : (slot_at e s).span ≡ (slot_at f s).span
  count : (HiddenIn hides e s 2 → ⊥) → (slot_at e s).tally.count ≡ (slot_at f s).tally.count
  stamp : (slot_at e s).stamp ≡ (slot_at f s).stamp
  price : (HiddenIn hides e s 4 → ⊥) → (slot_at e s).tally.price ≡ (slot_at f s).tally.price

-- Tables of n slots that hold chains which are the same behind the mask.
module _ (hides : ℕ → Bool) (n : ℕ) (small : n ≤ 65535) (e f : List ℕ) where
  abbrev mask : Tally → Tally
  mask a = masked hides a

  abbrev veil : Cell → Cell
  veil c = blank (masked hides) c

  head_small : (cs : List Cell) → Chained n e cs → head cs ≤ 65535
  head_small [] c = omega arith
  head_small (k ∷ cs) c = omega (arith, c.1)

  count_shown : (x y : Tally) → mask x ≡ mask y → hides 2 ≡ false → x.count ≡ y.count
  count_shown x y q shown = rw shown at (ap (λ (a : Tally). a.count) q)

  price_shown : (x y : Tally) → mask x ≡ mask y → hides 4 ≡ false → x.price ≡ y.price
  price_shown x y q shown = rw shown at (ap (λ (a : Tally). a.price) q)

  -- A part of a cell's tally that the mask shows, or of a cell that is no put's.
  part_same : (part : Tally → ℕ) (place : ℕ) → ((x y : Tally) → mask x ≡ mask y → hides place ≡ false → part x ≡ part y)
      → (c d : Cell) → veil c ≡ veil d → (c.kind ≡ 1 → hides place ≡ true → ⊥) → part c.tally ≡ part d.tally
  part_same part place shown c d same other = by_cases (eqb c.kind 1)
      (λ put. by_cases (hides place)
      (λ yes. absurd (other (eqb-true c.kind 1 put) yes))
      (shown c.tally d.tally (rw (← kinds, put) at (ap (λ (x : Cell). x.tally) same))))
      (λ put. ap part (rw (← kinds, put) at (ap (λ (x : Cell). x.tally) same)))
    where
      kinds : c.kind ≡ d.kind
      kinds = ap (λ (x : Cell). x.kind) same

  cell_same : (s next : ℕ) (c d : Cell) → 1 ≤ s → next ≤ 65535 → veil c ≡ veil d → slot_at e s ≡ cell_slot next c → slot_at f s ≡ cell_slot next d
      → SameSlot hides e f s
  cell_same s next c d low fits same ec fd = record {
    link = ap (λ (r : Slot). r.link) ec ∙ ap (λ (x : Cell). next + 65536 * x.kind) same ∙ sym (ap (λ (r : Slot). r.link) fd);
    span = ap (λ (r : Slot). r.span) ec ∙ ap (λ (x : Cell). x.span) same ∙ sym (ap (λ (r : Slot). r.span) fd);
    count = λ other.
        ap (λ (r : Slot). r.tally.count) ec ∙ part_same (λ a. a.count) 2 count_shown c d same (λ k y. other (low, kind k, y))
        ∙ sym (ap (λ (r : Slot). r.tally.count) fd);
    stamp = ap (λ (r : Slot). r.stamp) ec ∙ ap (λ (x : Cell). x.stamp) same ∙ sym (ap (λ (r : Slot). r.stamp) fd);
    price = λ other.
        ap (λ (r : Slot). r.tally.price) ec ∙ part_same (λ a. a.price) 4 price_shown c d same (λ k y. other (low, kind k, y))
        ∙ sym (ap (λ (r : Slot). r.tally.price) fd);
  }
    where
      kind : c.kind ≡ 1 → kind_of e s ≡ 1
      kind k = omega (arith, ap (λ (r : Slot). r.link) ec, k, fits)

  chain_same : (cs ds : List Cell) → map veil cs ≡ map veil ds → Chained n e cs → Chained n f ds → (s : ℕ) → 0 < times s (cell_slots cs) → SameSlot hides e f s
  unfolding count
  chain_same [] ds q a b s t = absurd (omega arith)
  chain_same (c ∷ cs) [] q a b s t = let no : ◌≡◌ {A = ℕ} 0 1 = cc q in absurd (omega arith)
  chain_same (c ∷ cs) (d ∷ ds) q a b s t = go (chain_same cs ds rest a.3 b.3 s) (ℕ_discrete s c.slot)
    where
      first : veil c ≡ veil d
      first = cc q

      rest : map veil cs ≡ map veil ds
      rest = cc q

      next : head ds ≡ head cs
      next = sym (head-blank mask ds) ∙ ap head (sym rest) ∙ head-blank mask cs

      place : s ≡ c.slot → slot_at f s ≡ cell_slot (head cs) d
      place r = ap (slot_at f) (r ∙ ap (λ (x : Cell). x.slot) first) ∙ b.2 ∙ ap (λ k. cell_slot k d) next

      go : (0 < times s (cell_slots cs) → SameSlot hides e f s) → Dec (s ≡ c.slot) → SameSlot hides e f s
      go ih (yes r) = cell_same s (head cs) c d (omega (arith, a.0)) (head_small cs a.3) first (ap (slot_at e) r ∙ a.2) (place r)
      go ih (no r) = ih (omega (arith, times_other s c.slot (cell_slots cs) r))

  chains_same : (cs ds : List (List Cell)) → map (map veil) cs ≡ map (map veil) ds → AllChained n e cs → AllChained n f ds
      → (s : ℕ) → 0 < times s (chain_slots cs) → SameSlot hides e f s
  unfolding count
  chains_same [] ds q a b s t = absurd (omega arith)
  chains_same (c ∷ cs) [] q a b s t = let no : ◌≡◌ {A = ℕ} 0 1 = cc q in absurd (omega arith)
  chains_same (c ∷ cs) (d ∷ ds) q a b s t = go (chains_same cs ds rest a.1 b.1 s) (dec_lt 0 (times s (cell_slots c)))
    where
      first : map veil c ≡ map veil d
      first = cc q

      rest : map (map veil) cs ≡ map (map veil) ds
      rest = cc q

      go : (0 < times s (chain_slots cs) → SameSlot hides e f s) → Dec (0 < times s (cell_slots c)) → SameSlot hides e f s
      go ih (yes r) = chain_same c d first a.0 b.0 s r
      go ih (no r) = ih (omega (arith, times_append s (cell_slots c) (chain_slots cs)))

-- A word is one of its slot's.
word_same : (hides : ℕ → Bool) (e f : List ℕ) (i : ℕ) → SameSlot hides e f (i / slot_size) → (IsHidden hides e i → ⊥) → get_or e i 0 ≡ get_or f i 0
word_same hides e f i same other =
    go (ℕ_discrete (i % slot_size) 0) (ℕ_discrete (i % slot_size) 1) (ℕ_discrete (i % slot_size) 2) (ℕ_discrete (i % slot_size) 3)
  where
    at : {k : ℕ} → i ≡ k → get_or e k 0 ≡ get_or f k 0 → get_or e i 0 ≡ get_or f i 0
    at q w = rw q w

    shown : (place : ℕ) → i % slot_size ≡ place → HiddenIn hides e (i / slot_size) place → ⊥
    shown place q t = other (t.0, t.1, ap hides q ∙ t.2)

    go : Dec (i % slot_size ≡ 0) → Dec (i % slot_size ≡ 1) → Dec (i % slot_size ≡ 2) → Dec (i % slot_size ≡ 3) → get_or e i 0 ≡ get_or f i 0
    go (yes a) b c d = at (omega arith) same.link
    go (no a) (yes b) c d = at (omega arith) same.span
    go (no a) (no b) (yes c) d = at (omega arith) (same.count (shown 2 c))
    go (no a) (no b) (no c) (yes d) = at (omega arith) same.stamp
    go (no a) (no b) (no c) (no d) = at (omega arith) (same.price (shown 4 (omega arith)))

-- States that are the same behind the mask write tables that differ behind it alone.
module _ (hides : ℕ → Bool) (n : ℕ) (p q : State ℕ Tally) (fp : Formed n p) (fq : Formed n q) (h : aside (masked hides) p ≡ aside (masked hides) q) where
  abbrev e : List ℕ
  e = entry_words n p

  abbrev f : List ℕ
  f = entry_words n q

  abbrev hidden : Tally → Tally
  hidden a = masked hides a

  abbrev cells : List Cell → List Cell
  cells cs = map (blank (masked hides)) cs

  top : slot_at e 0 ≡ slot_at f 0
  top = (formed_holds n p fp).first ∙ sym (top_aside hidden p) ∙ ap top_of h ∙ top_aside hidden q ∙ sym (formed_holds n q fq).first

  chains : map cells (all_chains p) ≡ map cells (all_chains q)
  chains = sym (chains_aside hidden p) ∙ ap all_chains h ∙ chains_aside hidden q

  slot_same : (s : ℕ) → s ≤ n → Dec (s ≡ 0) → SameSlot hides e f s
  slot_same s b (yes z) =
      let same : slot_at e s ≡ slot_at f s = rw z top in
      record {
        link = ap (λ (r : Slot). r.link) same;
        span = ap (λ (r : Slot). r.span) same;
        count = λ other. ap (λ (r : Slot). r.tally.count) same;
        stamp = ap (λ (r : Slot). r.stamp) same;
        price = λ other. ap (λ (r : Slot). r.tally.price) same;
      }
  slot_same s b (no z) =
      chains_same hides n fp.many e f (all_chains p) (all_chains q) chains (formed_holds n p fp).each (formed_holds n q fq).each s
      (omega (arith, (formed_once n p fp).each s (omega arith) b))

  pub words_same : SameBut hides (words n p) (words n q)
  words_same = record {
    levels = sym (level_words-aside hidden p) ∙ ap level_words h ∙ level_words-aside hidden q;
    entries = record { size = (formed_holds n p fp).room ∙ sym (formed_holds n q fq).room; words = λ i other. go i other (dec_lt n (i / slot_size)) };
  }
    where
      go : (i : ℕ) → (IsHidden hides e i → ⊥) → Dec (n < i / slot_size) → get_or e i 0 ≡ get_or f i 0
      go i other (yes b) =
          get_or-eq_default e 0 (omega (arith, (formed_holds n p fp).room)) ∙ sym (get_or-eq_default f 0 (omega (arith, (formed_holds n q fq).room)))
      go i other (no b) = word_same hides e f i (slot_same (i / slot_size) (omega arith) (ℕ_discrete (i / slot_size) 0)) other

-- States that are the same behind the mask, and lists of calls that are, give the same answers and states that are.
module _ (hides : ℕ → Bool) (p q : State ℕ Tally) (states : aside (masked hides) p ≡ aside (masked hides) q)
    (cs ds : List (Call Tally)) (alike : map (without hides) cs ≡ map (without hides) ds) where
  pub runs_alike : aside (masked hides) (run p cs) ≡ aside (masked hides) (run q ds)
  runs_alike =
      sym (model.run_blind (λ s. s) (masked hides) p cs) ∙ ap (λ x. run x (map (without hides) cs)) states ∙ ap (run (aside (masked hides) q)) alike
      ∙ model.run_blind (λ s. s) (masked hides) q ds

  pub answers_alike : answers p cs ≡ answers q ds
  answers_alike =
      sym (model.answers_blind (λ s. s) (masked hides) p cs) ∙ ap (λ x. answers x (map (without hides) cs)) states ∙ ap (answers (aside (masked hides) q)) alike
      ∙ model.answers_blind (λ s. s) (masked hides) q ds

-- Two pairs of tables that differ in words of puts' tallies alone, and two lists of calls that differ so.
module _ (hides : ℕ → Bool) (only : OnlyTallies hides) (w v : Tables) (fits : Fits32 w.entries) (fits' : Fits32 v.entries) (same : SameBut hides w v)
    (cs ds : List (Call Tally)) (alike : map (without hides) cs ≡ map (without hides) ds) where
  abbrev p : State ℕ Tally
  p = read_state w.entries w.levels

  abbrev q : State ℕ Tally
  q = read_state v.entries v.levels

  -- The refusal that they meet, or 0.
  abbrev t : ℕ
  t = table_refusal w.entries w.levels

  check : t ≡ table_refusal v.entries v.levels
  check = refusal_same hides only w.entries v.entries same.entries w.levels ∙ ap (table_refusal v.entries) same.levels

  slots : slots_of w.entries ≡ slots_of v.entries
  slots = ap (λ k. k / slot_size - 1) same.entries.size

  -- Sound tables read as states that are the same behind the mask.
  module _ (sound : t ≡ 0) where
    sound' : table_refusal v.entries v.levels ≡ 0
    sound' = sym check ∙ sound

    states : aside (masked hides) p ≡ aside (masked hides) q
    states =
        aside_same hides only w.entries v.entries same.entries w.levels sound
        ∙ ap (λ l. aside (masked hides) (read_state v.entries l)) same.levels

    after : Formed (slots_of w.entries) (run p cs)
    after = run_formed (slots_of w.entries) p cs (sound_words w.entries w.levels fits sound).formed

    after' : Formed (slots_of w.entries) (run q ds)
    after' = rw slots (run_formed (slots_of v.entries) q ds (sound_words v.entries v.levels fits' sound').formed)

    sound_words_blind : SameBut hides (run_tables w cs) (run_tables v ds)
    sound_words_blind =
        rw (run_sound w sound fits cs, run_sound v sound' fits' ds, ← slots)
        (words_same hides (slots_of w.entries) (run p cs) (run q ds) after after' (runs_alike hides p q states cs ds alike))

    sound_answers_blind : answers_tables w cs ≡ answers_tables v ds
    sound_answers_blind = answers_sound w sound fits cs ∙ answers_alike hides p q states cs ds alike ∙ sym (answers_sound v sound' fits' ds)

  refused_alike : (r : Answer) → map (λ (c : Call Tally). r) cs ≡ map (λ (c : Call Tally). r) ds
  refused_alike r = sym (map-map (without hides) (λ c. r) cs) ∙ ap (map (λ (c : Call Tally). r)) alike ∙ map-map (without hides) (λ c. r) ds

  pub words_blind : SameBut hides (run_tables w cs) (run_tables v ds)
  words_blind = by_cases (eqb t 0) (λ yes. sound_words_blind (eqb-true t 0 yes))
      (λ no. rw (run_unsound w no cs, run_unsound v (ap (λ x. eqb x 0) (sym check) ∙ no) ds) same)

  pub answers_blind : answers_tables w cs ≡ answers_tables v ds
  answers_blind = by_cases (eqb t 0) (λ yes. sound_answers_blind (eqb-true t 0 yes))
      (λ no.
      answers_unsound w no cs ∙ refused_alike (refusing t) ∙ ap (λ x. map (λ (c : Call Tally). refusing x) ds) check
      ∙ sym (answers_unsound v (ap (λ x. eqb x 0) (sym check) ∙ no) ds))
