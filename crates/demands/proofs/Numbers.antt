-- What an accepted call counts and leaves, by the rows of the level table: they are those of the state that the tables read as.
use mathlib.Core.Path.{◌≡◌, refl, sym, ap, ◌∙◌}
use mathlib.Core.Logic.{◌≢◌}
use mathlib.Core.Bool.{true, false, ◌&&◌, not}
use mathlib.Core.List.{List, [], ◌∷◌}
use Prim.Native.Nat.{ℕ, zero, suc, ◌+◌, ◌-◌, ◌*◌, ◌^◌, ◌<◌, ◌≤◌}
use native.Mathlib.Omega.{arith}
use lib.Dec.{eqb, leb}
use lib.ListN.{length, get_or}
use borrow.Author.Tests.{ltb-false, leb-false, eq-eqb, ne_eqb}
use Rattle.lists.specs.Lists.{sum, iterate}
use Rattle.lists.proofs.Bools.{or_false_left, or_false_right, and_second_false}
use Rattle.settings.specs.declared.Settings.{Settings}
use Rattle.settings.specs.Limits.{allowed, capacity, limit}
use Rattle.settings.proofs.Allowed.{allowed_bounds}
use Rattle.settings.proofs.Facts.{limit_facts}
use Rattle.model.specs.declared.Tally.{Tally}
use Rattle.model.specs.Records.{Level, State, empty, level, held, held_all}
use Rattle.model.specs.Steps.{overfull, overdue, due}
use Rattle.model.specs.Calls.{Call, count_written, step, run}
use Rattle.model.specs.Erasure.{accepted}
use Rattle.model.proofs.Numbers.{purged_sum, run-settings}
use Rattle.model.proofs.Demands as model
use Rattle.tables.specs.Words.{Fits32}
use Rattle.tables.specs.Slots.{slots_of}
use Rattle.tables.specs.Rows.{settings_of, Row, level_row}
use Rattle.tables.specs.Sound.{table_refusal}
use Rattle.tables.specs.Placed.{read_state, row_of_level, level_words, state_as}
use Rattle.tables.specs.Formed.{Formed}
use Rattle.tables.proofs.Rows.{settings_back, level_row_at}
use Rattle.tables.proofs.FormedSound.{sound_words}
use Rattle.tables.proofs.FormedSteps.{step_formed}
use Rattle.tables.proofs.Whole.{whole}
use Rattle.call_tables.specs.Calls.{Tables, Called, wrote, call_tables}
use Rattle.call_tables.proofs.Runs.{called_sound}
use Rattle.call_tables.proofs.Refusals.{accepted_sound}
use Rattle.demands.specs.Numbers.{records_of, Settled}

-- A number of each level from i on, which is that of its records, added up to what stood before.
levels_add : (f : ℕ → ℕ) (vs : List (Level ℕ Tally)) (i k before : ℕ) → k ≡ length vs → ((m : ℕ) → m < length vs → f (i + m) ≡ held (get_or vs m empty))
    → iterate (λ j n. n + f j) i k before ≡ before + held_all vs
unfolding iterate sum
levels_add f [] i zero before size each = omega arith
levels_add f [] i (suc k) before size each = absurd (omega arith)
levels_add f (v ∷ vs) i zero before size each = absurd (omega arith)
levels_add f (v ∷ vs) i (suc k) before size each =
    let here : f i ≡ held v = ap f (omega arith) ∙ each 0 (omega arith) in
    let rest = levels_add f vs (suc i) k (before + f i) (omega arith) (λ m b. ap f (omega arith) ∙ each (suc m) (omega arith)) in
    omega (arith, here, rest)

records_held : (p : State ℕ Tally) → length p.levels ≡ suc p.settings.deepest → records_of (level_words p) ≡ held_all p.levels
unfolding records_of
records_held p size =
    levels_add _ p.levels _ _ _ (omega (arith, ap (λ (s : Settings). s.deepest) (settings_back p)))
    (λ m b. ap (λ j. (level_row (level_words p) j).held) (omega arith) ∙ ap (λ (r : Row). r.held) (level_row_at p m b))
    ∙ omega arith

-- A level that is not due has no more records than it may have, and is not over its limit.
not_overfull : (s : Settings) (i n : ℕ) → overfull s i n ≡ false → (i ≡ 0 → n < s.buffer) × (1 ≤ i → n ≤ capacity s i)
unfolding overfull
not_overfull s zero n h = ((λ z. leb-false s.buffer n h), λ p. absurd (omega arith))
not_overfull s (suc i) n h = ((λ z. absurd (omega arith)), λ p. ltb-false (capacity s (suc i)) n h)

not_due : (s : Settings) (t i : ℕ) (v : Level ℕ Tally) → due s t i v ≡ false → Settled s t i (row_of_level v)
unfolding due overdue
not_due s t i v h =
    let over = overfull s i (held v) in
    let late = leb (limit s i) (t - v.owed) in
    let owes = not (eqb v.owed 0) in
    let few = not_overfull s i (held v) (or_false_left over (owes && late) h) in
    record {
      in_buffer = few.0;
      in_capacity = few.1;
      in_limit = λ z. leb-false (limit s i) (t - v.owed) (and_second_false owes late (or_false_right over (owes && late) h) (rw (ne_eqb v.owed 0 z)));
    }

-- A call that was answered 0, on any tables of 32-bit words: they were sound.
module _ (w : Tables) (c : Call Tally) (fits : Fits32 w.entries) (ok : (call_tables w c).answer.refusal ≡ 0) where
  abbrev pub n : ℕ
  n = slots_of w.entries

  abbrev pub p : State ℕ Tally
  p = read_state w.entries w.levels

  abbrev pub after : State ℕ Tally
  after = (step p c).state

  sound : table_refusal w.entries w.levels ≡ 0
  sound = accepted_sound w c ok

  pub called : call_tables w c ≡ wrote n (step p c)
  called = called_sound w sound c

  formed : Formed n p
  formed = (sound_words w.entries w.levels fits sound).formed

  pub after_formed : Formed n after
  after_formed = step_formed n p c formed

  pub accept : accepted p c ≡ true
  unfolding accepted
  accept = eq-eqb (step p c).answer.refusal 0 (ap (λ (r : Called). r.answer.refusal) (sym called) ∙ ok)

  records_before : records_of w.levels ≡ held_all p.levels
  records_before = ap records_of (sound_words w.entries w.levels fits sound).levels ∙ records_held p formed.size

  pub purged_adds_up : (call_tables w c).answer.purged + records_of (call_tables w c).tables.levels ≡ records_of w.levels + count_written c.op
  purged_adds_up = rw (called, records_held after after_formed.size, records_before) (purged_sum n p c (whole n p formed) accept)

  pub deep : 0 < p.settings.deepest
  deep = omega (arith, (allowed_bounds p.settings formed.settings_ok).deepest_low)

  pub some : 0 < p.settings.buffer
  some = omega (arith, (allowed_bounds p.settings formed.settings_ok).buffer_low)

  same_settings : p.settings ≡ settings_of w.levels
  unfolding state_as
  same_settings = refl

  pub settings_stay : after.settings ≡ p.settings
  unfolding run
  settings_stay = run-settings p (c ∷ []) deep

  pub accepted_settles : (i : ℕ) → i < (settings_of w.levels).deepest
      → Settled (settings_of w.levels) c.clock i (level_row (call_tables w c).tables.levels i)
  accepted_settles i high =
      let below : i < p.settings.deepest = rw same_settings high in
      let inside : i < length after.levels = omega (arith, below, after_formed.size, ap (λ (s : Settings). s.deepest) settings_stay) in
      let row : level_row (call_tables w c).tables.levels i ≡ row_of_level (level i after) =
      ap (λ (r : Called). level_row r.tables.levels i) called ∙ level_row_at after i inside in
      rw (row, ← same_settings) (not_due p.settings c.clock i (level i after) (model.accepted_settles p c deep accept i below (λ z. some)))

  -- With limit 0 nothing waits in the buffer.
  pub leaves_at_once : (settings_of w.levels).term * ((settings_of w.levels).ratio - 1) < (settings_of w.levels).ratio ^ (settings_of w.levels).deepest - 1
      → (level_row (call_tables w c).tables.levels 0).owed ≡ 0
  leaves_at_once short =
      let settled = accepted_settles 0 (omega (arith, deep, ap (λ (s : Settings). s.deepest) same_settings)) in
      let none = (limit_facts (settings_of w.levels) (sym (ap allowed same_settings) ∙ formed.settings_ok)).none short in
      by_zero (level_row (call_tables w c).tables.levels 0).owed (λ z. omega (arith, settled.in_limit z, none))
    where
      by_zero : (k : ℕ) → (k ≢ 0 → ⊥) → k ≡ 0
      by_zero zero h = refl
      by_zero (suc k) h = absurd (h (omega arith))
