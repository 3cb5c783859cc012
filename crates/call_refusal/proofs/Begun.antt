-- Sound tables at the start of a call: the store that they hold, and the calls that are refused at once.
use mathlib.Core.Path.{◌≡◌, refl, sym, ap, ◌∙◌}
use mathlib.Core.Logic.{◌≢◌}
use mathlib.Core.Bool.{Bool, true, false, cond}
use mathlib.Core.List.{List}
use Prim.Native.Nat.{ℕ, ◌<◌, ◌≤◌}
use native.Mathlib.Omega.{arith}
use lib.Dec.{eqb, ltb}
use borrow.Author.Tests.{eq-eqb, ne_eqb, eqb-true, eqb-false, ltb-false}
use Rattle.settings.proofs.Allowed.{allowed_bounds}
use Rattle.lists.proofs.Bools.{or_false_left, or_false_right}
use Rattle.model.specs.declared.Tally.{Tally}
use Rattle.model.specs.Calls.{Op, Call, refusing, bad_clock, early_refusal, step}
use Rattle.model.proofs.StepView.{let_in_docket, let_in_time, let_in_date}
use Rattle.tables.specs.Slots.{slots_of, InTable, clock_of}
use Rattle.tables.specs.Words.{Fits32}
use Rattle.tables.specs.Sound.{table_refusal}
use Rattle.tables.specs.Placed.{read_state, state_as}
use Rattle.tables.specs.Formed.{Formed}
use Rattle.tables.proofs.Back.{formed_holds}
use Rattle.tables.proofs.FormedSound.{sound_words}
use Rattle.tables.proofs.SoundWords.{sound_facts}
use Rattle.tables.proofs.FormedSteps.{timed_formed}
use Rattle.call_tables.specs.Calls.{Tables, Called, lent, call_tables}
use Rattle.call_tables.proofs.Runs.{rewritten}
use Rattle.merge_levels.specs.Laid.{Laid}
use Rattle.call_refusal.specs.Began.{call_refusal, Began, store}

module _ {e l : List ℕ} {t : ℕ} {op : Op Tally} (b : Began e l t op) where
  from_1 : t ≢ 0
  from_1 = eqb-false t 0 (or_false_left (eqb t 0) (ltb t (clock_of e)) b.time)

  pub begun_low : 1 ≤ t
  begun_low = let n = from_1 in omega arith

  not_before : clock_of e ≤ t
  not_before = ltb-false t (clock_of e) (or_false_right (eqb t 0) (ltb t (clock_of e)) b.time)

  pub begun_time : bad_clock t (read_state e l).clock ≡ false
  unfolding state_as
  begun_time = b.time

  pub begun_formed : Formed (slots_of e) (read_state e l)
  begun_formed = (sound_words e l b.fits b.sound).formed

  pub begun_deep : 0 < (read_state e l).settings.deepest
  begun_deep = omega (arith, (allowed_bounds (read_state e l).settings begun_formed.settings_ok).deepest_low)

  pub begun_laid : Laid (store e l t) e l
  unfolding state_as
  begun_laid = record {
    formed = timed_formed (slots_of e) t (read_state e l) not_before begun_formed;
    entries = rw (sym (sound_words e l b.fits b.sound).entries) at (formed_holds (slots_of e) (read_state e l) begun_formed);
    levels = (sound_words e l b.fits b.sound).levels;
  }

-- Sound tables have a slot 0.
pub sound_slot_zero : (e l : List ℕ) → table_refusal e l ≡ 0 → InTable e 0
sound_slot_zero e l h = let f = sound_facts e l h in omega (arith, f.length_entries, f.few)

-- The number n was found for a call.
pub record Asked (e l : List ℕ) (t : ℕ) (op : Op Tally) (n : ℕ) : Type 0 where
  pub fits : Fits32 e
  pub number : n ≡ call_refusal e l (record { clock = t; op = op })

module _ {e l : List ℕ} {t : ℕ} {op : Op Tally} {n : ℕ} (a : Asked e l t op n) where
  abbrev asked : Call Tally
  asked = record { clock = t; op = op }

  abbrev early : ℕ
  early = early_refusal (clock_of e) asked

  -- Where it is 0 the call begins.
  pub begun : n ≡ 0 → Began e l t op
  begun none = go (eqb (table_refusal e l) 0) refl (sym a.number ∙ none)
    where
      go : (sound : Bool) → eqb (table_refusal e l) 0 ≡ sound → cond sound early (table_refusal e l) ≡ 0 → Began e l t op
      go true q h =
          let met : eqb early 0 ≡ true = eq-eqb early 0 h in
          record {
            sound = eqb-true (table_refusal e l) 0 q;
            fits = a.fits;
            dockets = let_in_docket (clock_of e) asked met;
            time = let_in_time (clock_of e) asked met;
            dated = let_in_date (clock_of e) asked met;
          }
      go false q h = absurd (eqb-false (table_refusal e l) 0 q h)

  -- What a call answers that is refused by the number m: no word changes.
  abbrev kept : ℕ → Called
  kept m = record { tables = lent e l; answer = refusing m }

  -- On sound tables the step turns it away, and what they read as is written as it was.
  turned_sound : table_refusal e l ≡ 0 → early ≢ 0 → call_tables (lent e l) asked ≡ kept early
  unfolding call_tables step state_as
  turned_sound sound some =
      rw (sound, ne_eqb early 0 some) (ap (λ (w : Tables). record { tables = w; answer = refusing early }) (rewritten (lent e l) a.fits sound))

  turned_unsound : eqb (table_refusal e l) 0 ≡ false → call_tables (lent e l) asked ≡ kept (table_refusal e l)
  unfolding call_tables
  turned_unsound unsound = rw unsound

  -- Else it is what the call answers.
  pub turned_away : n ≢ 0 → call_tables (lent e l) asked ≡ kept n
  turned_away some = rw a.number (go (eqb (table_refusal e l) 0) refl (λ z. some (a.number ∙ z)))
    where
      go : (sound : Bool) → eqb (table_refusal e l) 0 ≡ sound → cond sound early (table_refusal e l) ≢ 0
          → call_tables (lent e l) asked ≡ kept (cond sound early (table_refusal e l))
      go true q h = turned_sound (eqb-true (table_refusal e l) 0 q) h
      go false q h = turned_unsound q
