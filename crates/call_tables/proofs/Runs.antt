-- Calls on the words of a formed state are the model's steps of that state.
use mathlib.Core.Path.{◌≡◌, refl, sym, ap, ◌∙◌}
use mathlib.Core.Bool.{Bool, true, false, cond}
use mathlib.Core.Logic.{◌≢◌}
use mathlib.Core.List.{List, [], ◌∷◌, map}
use Prim.Native.Nat.{ℕ}
use native.Mathlib.Omega.{arith}
use lib.Dec.{eqb}
use borrow.Author.Tests.{eqb-true, ne_eqb}
use Rattle.model.specs.declared.Tally.{Tally}
use Rattle.model.specs.Records.{State}
use Rattle.model.specs.Calls.{Call, refusing, step, run, answers}
use Rattle.model.specs.Erasure.{accepted}
use Rattle.model.proofs.Demands.{refused_unchanged}
use Rattle.tables.specs.Words.{Fits32}
use Rattle.tables.specs.Slots.{slots_of}
use Rattle.tables.specs.Sound.{table_refusal}
use Rattle.tables.specs.Placed.{read_state, entry_words, level_words}
use Rattle.tables.specs.Formed.{Formed}
use Rattle.tables.proofs.Back.{formed_holds, written_reads}
use Rattle.tables.proofs.FormedSound.{words_sound, sound_words}
use Rattle.tables.proofs.FormedSteps.{step_formed}
use Rattle.call_tables.specs.Calls.{Tables, Called, lent, words, wrote, call_tables, run_tables, answers_tables}

module _ (n : ℕ) where
  pub words_slots : (p : State ℕ Tally) → Formed n p → slots_of (entry_words n p) ≡ n
  words_slots p f = omega (arith, (formed_holds n p f).room)

  pub called_words : (p : State ℕ Tally) (c : Call Tally) → Formed n p → call_tables (words n p) c ≡ wrote n (step p c)
  unfolding call_tables
  called_words p c f = rw (words_sound n p f, written_reads n p f, words_slots p f)

  -- So for every list.
  pub run-words : (p : State ℕ Tally) (cs : List (Call Tally)) → Formed n p → run_tables (words n p) cs ≡ words n (run p cs)
  unfolding run_tables run
  run-words p [] f = refl
  run-words p (c ∷ cs) f = rw (called_words p c f) (run-words (step p c).state cs (step_formed n p c f))

  pub answers-words : (p : State ℕ Tally) (cs : List (Call Tally)) → Formed n p → answers_tables (words n p) cs ≡ answers p cs
  unfolding answers_tables answers
  answers-words p [] f = refl
  answers-words p (c ∷ cs) f = rw (called_words p c f, answers-words (step p c).state cs (step_formed n p c f))

-- Sound tables are the words of what they read as.
pub rewritten : (w : Tables) → Fits32 w.entries → table_refusal w.entries w.levels ≡ 0
    → words (slots_of w.entries) (read_state w.entries w.levels) ≡ w
rewritten w fits h =
    let p : State ℕ Tally = read_state w.entries w.levels in
    let f = sound_words w.entries w.levels fits h in
    ap (λ (e : List ℕ). lent e (level_words p)) (sym f.entries) ∙ ap (lent w.entries) (sym f.levels)

-- Calls on sound tables are the steps of what they read as.
module _ (w : Tables) (sound : table_refusal w.entries w.levels ≡ 0) where
  pub called_sound : (c : Call Tally) → call_tables w c ≡ wrote (slots_of w.entries) (step (read_state w.entries w.levels) c)
  unfolding call_tables
  called_sound c = rw sound

  module _ (fits : Fits32 w.entries) (cs : List (Call Tally)) where
    pub run_sound : run_tables w cs ≡ words (slots_of w.entries) (run (read_state w.entries w.levels) cs)
    run_sound =
        ap (λ (x : Tables). run_tables x cs) (sym (rewritten w fits sound))
        ∙ run-words (slots_of w.entries) (read_state w.entries w.levels) cs (sound_words w.entries w.levels fits sound).formed

    pub answers_sound : answers_tables w cs ≡ answers (read_state w.entries w.levels) cs
    answers_sound =
        ap (λ (x : Tables). answers_tables x cs) (sym (rewritten w fits sound))
        ∙ answers-words (slots_of w.entries) (read_state w.entries w.levels) cs (sound_words w.entries w.levels fits sound).formed

-- Tables that are not sound stay as they are, and every call on them meets the same refusal.
module _ (w : Tables) (unsound : eqb (table_refusal w.entries w.levels) 0 ≡ false) where
  called_unsound : (c : Call Tally) → call_tables w c ≡ record { tables = w; answer = refusing (table_refusal w.entries w.levels) }
  unfolding call_tables
  called_unsound c = rw unsound

  pub run_unsound : (cs : List (Call Tally)) → run_tables w cs ≡ w
  unfolding run_tables
  run_unsound [] = refl
  run_unsound (c ∷ cs) = ap (λ (r : Called). run_tables r.tables cs) (called_unsound c) ∙ run_unsound cs

  pub answers_unsound : (cs : List (Call Tally)) → answers_tables w cs ≡ map (λ (c : Call Tally). refusing (table_refusal w.entries w.levels)) cs
  unfolding answers_tables
  answers_unsound [] = refl
  answers_unsound (c ∷ cs) =
      ap (λ (r : Called). r.answer ∷ answers_tables r.tables cs) (called_unsound c)
      ∙ ap (◌∷◌ (refusing (table_refusal w.entries w.levels))) (answers_unsound cs)

-- "Tables … are unchanged, save under 7", for tables of any content.
module _ (w : Tables) (fits : Fits32 w.entries) (c : Call Tally) where
  abbrev p : State ℕ Tally
  p = read_state w.entries w.levels

  abbrev t : ℕ
  t = table_refusal w.entries w.levels

  not_accepted : (step p c).answer.refusal ≢ 0 → accepted p c ≡ false
  unfolding accepted
  not_accepted h = ne_eqb (step p c).answer.refusal 0 h

  pub refused_words : (call_tables w c).answer.refusal ≢ 0 → (call_tables w c).answer.refusal ≢ 7 → (call_tables w c).tables ≡ w
  unfolding call_tables
  refused_words = go (eqb t 0) refl
    where
      choice : Bool → Called
      choice b = cond b (wrote (slots_of w.entries) (step p c)) (record { tables = w; answer = refusing t })

      go : (b : Bool) → eqb t 0 ≡ b → (choice b).answer.refusal ≢ 0 → (choice b).answer.refusal ≢ 7 → (choice b).tables ≡ w
      go false q h k = refl
      go true q h k = ap (words (slots_of w.entries)) (refused_unchanged p c (not_accepted h) k) ∙ rewritten w fits (eqb-true t 0 q)
