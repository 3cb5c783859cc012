-- What an accepted making left, and what any list of timed calls makes of it: the words of the model's states.
use mathlib.Core.Path.{◌≡◌, refl, sym, ap, subst, ◌∙◌}
use mathlib.Core.Bool.{Bool, true, false}
use mathlib.Core.List.{List, map}
use mathlib.Core.Logic.{◌↔◌, ◌≢◌}
use native.Mathlib.Omega.{arith}
use Prim.Native.Nat.{ℕ, ◌<◌, ◌≤◌}
use lib.Dec.{eqb, ltb}
use lib.ListN.{length}
use borrow.Author.Tests.{eqb-false, ne_eqb, le-ltb}
use Rattle.lists.proofs.Bools.{or_false_left}
use Rattle.settings.specs.declared.Settings.{Settings}
use Rattle.settings.specs.Limits.{allowed}
use Rattle.settings.proofs.Allowed.{allowed_bounds}
use Rattle.model.specs.declared.Tally.{Tally}
use Rattle.model.specs.Records.{State, fresh, slotless}
use Rattle.model.specs.Steps.{put, delete_range, no_slot}
use Rattle.model.specs.Calls.{Call, Answer, written, bad_clock, run, answers}
use Rattle.model.specs.Lookup.{scan}
use Rattle.model.specs.PlainMap.{get, map_run, map_refusals, no_rows}
use Rattle.model.specs.Erasure.{retally, Erased}
use Rattle.model.proofs.Demands as model
use Rattle.model.proofs.Numbers.{run-settings}
use Rattle.model_history.specs.History.{came, earliest, history}
use Rattle.model_history.proofs.Owed.{owed_without_slots}
use Rattle.tables.proofs.Rows.{settings_back, level_row_at}
use Rattle.tables.specs.Slots.{slots_of, clock_of}
use Rattle.tables.specs.Rows.{Row as Row', settings_of, level_row}
use Rattle.tables.specs.Sound.{table_refusal}
use Rattle.tables.specs.Placed.{read_state, state_as}
use Rattle.tables.proofs.Back.{written_reads}
use Rattle.tables.proofs.FormedSound.{words_sound}
use Rattle.tables.proofs.FormedSteps.{run_formed}
use Rattle.tables.specs.Formed.{Formed}
use Rattle.make.specs.Make.{upto}
use Rattle.make.proofs.Fresh.{length-upto, fresh_formed, made_entry_words, made_level_words}
use Rattle.lookup.specs.Lookup.{answered, lookup_tables}
use Rattle.lookup.proofs.Refused.{looked_up_words}
use Rattle.scan.specs.declared.Row.{Row}
use Rattle.scan.specs.Scan.{filled, written as written_row, scan_tables}
use Rattle.scan.proofs.Words.{scanned_words}
use Rattle.call_tables.specs.Calls.{Tables, words, call_tables, made_tables, tables_after, answers_tables}
use Rattle.demands.specs.Full.{SlotsLive}
use Rattle.demands.specs.Hidden.{SameBut, without}
use Rattle.call_tables.proofs.Runs.{words_slots, run-words, answers-words}
use Rattle.call_tables.proofs.Refusals.{refused_exactly}
use Rattle.demands.proofs.Full.{full_of_formed}
use Rattle.demands.proofs.HiddenWords.{words_same, runs_alike, answers_alike}

module _ (n : ℕ) (s : Settings) (low : 1 ≤ n) (high : n ≤ 65535) (ok : allowed s ≡ true) where
  made_words : made_tables n s ≡ words n (fresh s (upto n))
  made_words = rw (made_entry_words n s low high ok, made_level_words n s)

  -- A list of calls on the words is the list of steps on the state that they read as.
  pub runs : (cs : List (Call Tally)) → tables_after n s cs ≡ words n (run (fresh s (upto n)) cs)
  runs cs = rw made_words (run-words n (fresh s (upto n)) cs (fresh_formed n s low high ok))

  pub formed : (cs : List (Call Tally)) → Formed n (run (fresh s (upto n)) cs)
  formed cs = run_formed n (fresh s (upto n)) cs (fresh_formed n s low high ok)

  -- No list leaves tables that are refused.
  pub always_sound : (cs : List (Call Tally)) → table_refusal (tables_after n s cs).entries (tables_after n s cs).levels ≡ 0
  always_sound cs = rw (runs cs) (words_sound n (run (fresh s (upto n)) cs) (formed cs))

  pub settings_stay : (cs : List (Call Tally)) → settings_of (tables_after n s cs).levels ≡ s
  unfolding fresh
  settings_stay cs =
      let deep : 0 < s.deepest = omega (arith, (allowed_bounds s ok).deepest_low) in
      rw (runs cs) (settings_back (run (fresh s (upto n)) cs) ∙ run-settings (fresh s (upto n)) cs deep)

  -- The state after the list is what its words read as.
  abbrev after : List (Call Tally) → State ℕ Tally
  after cs = run (fresh s (upto n)) cs

  slots_are : (cs : List (Call Tally)) → slots_of (tables_after n s cs).entries ≡ n
  slots_are cs = rw (runs cs) (words_slots n (after cs) (formed cs))

  reads : (cs : List (Call Tally)) → read_state (tables_after n s cs).entries (tables_after n s cs).levels ≡ after cs
  reads cs = rw (runs cs) (written_reads n (after cs) (formed cs))

  clock_is : (cs : List (Call Tally)) → (after cs).clock ≡ clock_of (tables_after n s cs).entries
  unfolding state_as
  clock_is cs = ap (λ (p : State ℕ Tally). p.clock) (sym (reads cs))

  -- 'Full' on the words after a list, whose tallies and clocks may be any numbers.
  pub full_after : (cs : List (Call Tally)) (t k : ℕ) (a : Tally) → k ≤ 65535 → bad_clock t (clock_of (tables_after n s cs).entries) ≡ false
      → ((call_tables (tables_after n s cs) (record { clock = t; op = written (put k a) })).answer.refusal ≡ 7) ↔ SlotsLive k (tables_after n s cs)
  full_after cs = full_of_formed (tables_after n s cs) (always_sound cs) (rw (slots_are cs, reads cs) (formed cs))

  -- Nothing but the clock and the date can turn away a delete of all dockets.
  pub widest_dated_accepted : (cs : List (Call Tally)) (t date : ℕ) → bad_clock t (clock_of (tables_after n s cs).entries) ≡ false → 1 ≤ date → date ≤ t
      → (call_tables (tables_after n s cs) (record { clock = t; op = written (delete_range 0 65535 date) })).answer.refusal ≡ 0
  unfolding no_slot
  widest_dated_accepted cs t date b some past =
      refused_exactly (tables_after n s cs) (record { clock = t; op = written (delete_range 0 65535 date) })
      ∙ rw (always_sound cs, reads cs, clock_is cs, b, ne_eqb date 0 (omega (arith, some)), le-ltb t date past)

  pub widest_accepted : (cs : List (Call Tally)) (t : ℕ) → bad_clock t (clock_of (tables_after n s cs).entries) ≡ false
      → (call_tables (tables_after n s cs) (record { clock = t; op = written (delete_range 0 65535 t) })).answer.refusal ≡ 0
  widest_accepted cs t b =
      let some : t ≢ 0 = eqb-false t 0 (or_false_left (eqb t 0) (ltb t (clock_of (tables_after n s cs).entries)) b) in
      widest_dated_accepted cs t t b (omega (arith, some)) (omega arith)

  pub lookups_as_map : (cs : List (Call Tally)) (k : ℕ) → k ≤ 65535
      → lookup_tables (tables_after n s cs).entries (tables_after n s cs).levels k ≡ answered (get (map_run n no_rows cs).rows k)
  lookups_as_map cs k h =
      rw (runs cs)
      (looked_up_words n (run (fresh s (upto n)) cs) k (formed cs) h
      ∙ ap answered (model.lookups_as_map s ok (upto n) cs k ∙ ap (λ m. get (map_run m no_rows cs).rows k) (length-upto n)))

  pub scans_as_map : (cs : List (Call Tally)) (lo hi : ℕ) (rows : List Row) → lo ≤ hi → hi ≤ 65535
      → scan_tables (tables_after n s cs).entries (tables_after n s cs).levels lo hi rows
      ≡ filled written_row (scan (get (map_run n no_rows cs).rows) lo hi (length rows)) rows
  scans_as_map cs lo hi rows order high =
      rw (runs cs)
      (scanned_words n (run (fresh s (upto n)) cs) lo hi rows (formed cs) order high
      ∙ ap (λ found. filled written_row found rows)
      (model.scans_as_map s ok (upto n) cs lo hi (length rows) ∙ ap (λ m. scan (get (map_run m no_rows cs).rows) lo hi (length rows)) (length-upto n)))

  answers_of_words : (cs : List (Call Tally)) → answers_tables (made_tables n s) cs ≡ answers (fresh s (upto n)) cs
  answers_of_words cs = rw made_words (answers-words n (fresh s (upto n)) cs (fresh_formed n s low high ok))

  pub answers_as_steps : (cs : List (Call Tally)) → answers_tables (made_tables n s) cs ≡ answers (slotless n s) cs
  answers_as_steps cs = answers_of_words cs ∙ model.answers_without_slots s ok (upto n) cs ∙ ap (λ x. answers (slotless x s) cs) (length-upto n)

  -- "Owed is the earliest clock of any delete that came into the level, itself or through merges, since the level was last emptied; 0 if none."
  pub owed_is_earliest : (cs : List (Call Tally)) (i : ℕ) → i < s.deepest
      → (level_row (tables_after n s cs).levels i).owed ≡ earliest (came (history (slotless n s) cs) i)
  unfolding fresh
  owed_is_earliest cs i below =
      let deep : 0 < s.deepest = omega (arith, (allowed_bounds s ok).deepest_low) in
      let stay : (run (fresh s (upto n)) cs).settings ≡ s = run-settings (fresh s (upto n)) cs deep in
      ap (λ (w : Tables). (level_row w.levels i).owed) (runs cs)
      ∙ ap (λ (r : Row'). r.owed) (level_row_at (after cs) i (rw ((formed cs).size, stay) (omega arith)))
      ∙ owed_without_slots s (upto n) cs ok i below ∙ ap (λ x. earliest (came (history (slotless x s) cs) i)) (length-upto n)

  pub refusals_as_map : (cs : List (Call Tally)) → map (λ (r : Answer). r.refusal) (answers_tables (made_tables n s) cs) ≡ map_refusals n no_rows cs
  refusals_as_map cs =
      ap (map (λ (r : Answer). r.refusal)) (answers_of_words cs)
      ∙ model.refusals_as_map s ok (upto n) cs ∙ ap (λ x. map_refusals x no_rows cs) (length-upto n)

  pub erased : (cs : List (Call Tally)) (i j k : ℕ) (a v : Tally) → Erased (slotless n s) cs i j k a
      → tables_after n s (retally i k v cs) ≡ tables_after n s cs
  erased cs i j k a v e =
      runs (retally i k v cs)
      ∙ ap (words n) (model.erased_leaves_nothing s ok (upto n) cs i j k a v (subst (λ x. Erased (slotless x s) cs i j k a) (sym (length-upto n)) e))
      ∙ sym (runs cs)

  -- Lists that are the same but for words of tallies.
  module _ (hides : ℕ → Bool) (cs ds : List (Call Tally)) (alike : map (without hides) cs ≡ map (without hides) ds) where
    pub words_blind : SameBut hides (tables_after n s cs) (tables_after n s ds)
    words_blind =
        rw (runs cs, runs ds)
        (words_same hides n (after cs) (after ds) (formed cs) (formed ds) (runs_alike hides (fresh s (upto n)) (fresh s (upto n)) refl cs ds alike))

    pub answers_blind : answers_tables (made_tables n s) cs ≡ answers_tables (made_tables n s) ds
    answers_blind = answers_of_words cs ∙ answers_alike hides (fresh s (upto n)) (fresh s (upto n)) refl cs ds alike ∙ sym (answers_of_words ds)
