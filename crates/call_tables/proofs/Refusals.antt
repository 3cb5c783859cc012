-- Refusals of a call on tables of any content: their numbers, and what they leave.
use mathlib.Core.Path.{◌≡◌, refl, sym, ap, ◌∙◌}
use mathlib.Core.Logic.{◌≢◌}
use mathlib.Core.Bool.{Bool, true, false, cond}
use Prim.Native.Nat.{ℕ}
use native.Mathlib.Omega.{arith}
use lib.Dec.{eqb}
use borrow.Author.Tests.{eqb-true, ne_eqb}
use Rattle.settings.proofs.Allowed.{allowed_bounds}
use Rattle.lists.proofs.Bools.{by_cases, cond_ap}
use Rattle.model.specs.declared.Tally.{Tally}
use Rattle.model.specs.Records.{State}
use Rattle.model.specs.Steps.{delete, delete_range, merge_all, no_slot}
use Rattle.model.specs.Calls.{Call, Outcome, written, early_refusal, out_of_slots, refusing, step}
use Rattle.model.specs.Erasure.{accepted}
use Rattle.model.proofs.StepView.{early_other, StepView, turned_away, refused_7, passed, step_view, accepted_outcome}
use Rattle.model.proofs.Timed.{merge_all-clock}
use Rattle.model.proofs.Demands as model
use Rattle.tables.specs.Words.{Fits32}
use Rattle.tables.specs.Slots.{slots_of, clock_of}
use Rattle.tables.specs.Sound.{table_refusal}
use Rattle.tables.specs.Placed.{read_state, entry_words, state_as}
use Rattle.tables.proofs.Numbers.{tables_refuse_low}
use Rattle.tables.proofs.FormedSound.{words_sound, sound_words}
use Rattle.tables.proofs.Back.{written_reads}
use Rattle.tables.proofs.FormedSteps.{step_formed, merge_all_formed}
use Rattle.call_tables.specs.Calls.{Tables, Called, words, wrote, call_tables, refusal_number, merged_tables}

module _ (w : Tables) (c : Call Tally) where
  abbrev p : State ℕ Tally
  p = read_state w.entries w.levels

  abbrev t : ℕ
  t = table_refusal w.entries w.levels

  -- What the call comes to, by whether the tables are sound.
  abbrev choice : Bool → Called
  choice b = cond b (wrote (slots_of w.entries) (step p c)) (record { tables = w; answer = refusing t })

  -- Each call is refused in exactly the listed cases.
  pub refused_exactly : (call_tables w c).answer.refusal ≡ refusal_number w c
  unfolding call_tables
  refused_exactly =
      cond_ap (λ (r : Called). r.answer.refusal) (eqb t 0) (wrote (slots_of w.entries) (step p c)) (record { tables = w; answer = refusing t })
      ∙ ap (λ k. cond (eqb t 0) k t) (model.refused_exactly p c)

  step-answer : (step p c).answer.refusal ≢ 0 → (step p c).answer ≡ refusing (step p c).answer.refusal
  unfolding accepted
  step-answer h = model.refused_answer p c (ne_eqb (step p c).answer.refusal 0 h) ∙ ap refusing (sym (model.refused_exactly p c))

  -- "A refusal gives its number and zeros."
  pub refused_zeros : (call_tables w c).answer.refusal ≢ 0 → (call_tables w c).answer ≡ refusing (call_tables w c).answer.refusal
  unfolding call_tables
  refused_zeros = go (eqb t 0)
    where
      go : (b : Bool) → (choice b).answer.refusal ≢ 0 → (choice b).answer ≡ refusing (choice b).answer.refusal
      go true h = step-answer h
      go false h = refl

  step_full : (step p c).answer.refusal ≡ 7 → (step p c).state ≡ (merge_all p).state
  unfolding accepted_outcome
  step_full = go (step p c) (step_view p c)
    where
      go : (r : Outcome ℕ Tally) → StepView p c r → r.answer.refusal ≡ 7 → r.state ≡ (merge_all p).state
      go r (turned_away e) h = absurd ((early_other p.clock c).0 h)
      go r (refused_7 e f) h = refl
      go r (passed e f) h = absurd (omega arith)

  -- Under 7 "tables stay merged, clock as before".
  pub refused_7_leaves : (call_tables w c).answer.refusal ≡ 7 → (call_tables w c).tables ≡ merged_tables w
  unfolding call_tables
  refused_7_leaves = go (eqb t 0)
    where
      go : (b : Bool) → (choice b).answer.refusal ≡ 7 → (choice b).tables ≡ merged_tables w
      go true h = ap (words (slots_of w.entries)) (step_full h)
      go false h = absurd (omega (arith, tables_refuse_low w.entries w.levels))

  -- A call is accepted on sound tables only.
  pub accepted_sound : (call_tables w c).answer.refusal ≡ 0 → t ≡ 0
  accepted_sound h = by_cases (eqb t 0) (λ yes. eqb-true t 0 yes) (λ no. rw no at (sym refused_exactly ∙ h))

  -- And it is refused 7 on sound tables only.
  pub refused_7_sound : (call_tables w c).answer.refusal ≡ 7 → t ≡ 0
  refused_7_sound h =
      by_cases (eqb t 0) (λ yes. eqb-true t 0 yes)
      (λ no. absurd (omega (arith, tables_refuse_low w.entries w.levels, rw no at (sym refused_exactly ∙ h))))

  -- And its clock word is as before.
  pub refused_7_clock : Fits32 w.entries → (call_tables w c).answer.refusal ≡ 7 → clock_of (call_tables w c).tables.entries ≡ clock_of w.entries
  unfolding state_as
  refused_7_clock fits h =
      let n = slots_of w.entries in
      let f = (sound_words w.entries w.levels fits (refused_7_sound h)).formed in
      let q = (merge_all p).state in
      let deep = (allowed_bounds p.settings f.settings_ok).deepest_low in
      let back : clock_of (entry_words n q) ≡ q.clock = ap (λ (s : State ℕ Tally). s.clock) (written_reads n q (merge_all_formed n p f)) in
      ap (λ (x : Tables). clock_of x.entries) (refused_7_leaves h) ∙ back ∙ merge_all-clock p (omega (arith, deep))

  -- A delete is never refused for lack of a slot, nor is anything but a put.
  pub never_full : out_of_slots c.clock c.op p ≡ false → (call_tables w c).answer.refusal ≢ 7
  never_full f h = go (eqb t 0) (eqb (early_refusal p.clock c) 0) (rw f at (sym refused_exactly ∙ h))
    where
      go : (a b : Bool) → cond a (cond b (cond false 7 0) (early_refusal p.clock c)) t ≡ 7 → ⊥
      go true true q = absurd (omega arith)
      go true false q = (early_other p.clock c).0 q
      go false b q = absurd (omega (arith, tables_refuse_low w.entries w.levels))

module _ (w : Tables) where
  pub delete_never_full : (t k : ℕ) → (call_tables w (record { clock = t; op = written (delete k) })).answer.refusal ≢ 7
  unfolding no_slot
  delete_never_full t k = never_full w (record { clock = t; op = written (delete k) }) refl

  pub delete_range_never_full : (t lo hi date : ℕ) → (call_tables w (record { clock = t; op = written (delete_range lo hi date) })).answer.refusal ≢ 7
  unfolding no_slot
  delete_range_never_full t lo hi date = never_full w (record { clock = t; op = written (delete_range lo hi date) }) refl

  -- A call on sound tables, accepted or refused, leaves sound tables.
  pub stays_sound : Fits32 w.entries → (c : Call Tally) → table_refusal w.entries w.levels ≡ 0
      → table_refusal (call_tables w c).tables.entries (call_tables w c).tables.levels ≡ 0
  unfolding call_tables
  stays_sound fits c h =
      let p = read_state w.entries w.levels in
      let n = slots_of w.entries in
      rw h (words_sound n (step p c).state (step_formed n p c (sound_words w.entries w.levels fits h).formed))
