-- What a put refused 7 leaves: levels 0 to L−1 have empty rows, and nothing that can be asked has another answer than before.
use mathlib.Core.Path.{◌≡◌, refl, sym, ap, ◌∙◌}
use mathlib.Core.Bool.{true, false≢true}
use mathlib.Core.List.{List}
use Prim.Native.Nat.{ℕ, zero, suc, ◌<◌}
use native.Mathlib.Omega.{arith}
use lib.ListN.{length, get_or}
use Rattle.settings.specs.declared.Settings.{Settings}
use Rattle.lists.proofs.Bools.{by_cases}
use Rattle.model.specs.declared.Tally.{Tally}
use Rattle.model.specs.Records.{Level, State, empty}
use Rattle.model.specs.Merge.{settled}
use Rattle.model.specs.Steps.{put, delete, delete_range, merge_all, no_slot}
use Rattle.model.specs.Calls.{Op, written, flush, tick, Call, out_of_slots}
use Rattle.model.specs.Lookup as model
use Rattle.model.specs.Renaming.{map_found}
use Rattle.model.proofs.Deepest.{only, Drained, merge_all_drained}
use Rattle.model.proofs.Puts.{full_lookup}
use Rattle.model.proofs.Scans.{scan_same}
use Rattle.tables.specs.Words.{Fits32}
use Rattle.tables.specs.Slots.{slots_of}
use Rattle.tables.specs.Rows.{settings_of, level_row, no_row}
use Rattle.tables.specs.Sound.{table_refusal}
use Rattle.tables.specs.Placed.{read_state, read_counts, row_of_level, entry_words, level_words, state_as}
use Rattle.tables.specs.Formed.{Formed}
use Rattle.tables.proofs.Rows.{settings_back, level_row_at}
use Rattle.tables.proofs.Back.{written_reads}
use Rattle.tables.proofs.FormedSound.{words_sound, sound_words}
use Rattle.tables.proofs.Whole.{in_form, whole}
use Rattle.tables.proofs.FormedSteps.{merge_all_formed}
use Rattle.lookup.specs.Lookup.{lookup_tables}
use Rattle.lookup.specs.Counts.{lookup_counts}
use Rattle.lookup.proofs.Counts.{counts_found}
use Rattle.scan.specs.declared.Row.{Row}
use Rattle.scan.specs.declared.CountRow.{CountRow}
use Rattle.scan.specs.Scan.{scan_tables, scan_counts_tables}
use Rattle.call_tables.specs.Calls.{Tables, call_tables}
use Rattle.call_tables.proofs.Refusals.{refused_7_leaves, refused_7_sound, never_full}

only-empty : {S A : Type 0} (n i : ℕ) (l : Level S A) → i < n → get_or (only n l) i empty ≡ empty
only-empty zero i l h = absurd (omega arith)
only-empty (suc n) zero l h = refl
only-empty (suc n) (suc i) l h = only-empty n i l (omega arith)

-- A call that was answered 7, on any tables of 32-bit words: they were sound, and all their records are puts, so that no merge has changed a lookup.
module _ (w : Tables) (c : Call Tally) (fits : Fits32 w.entries) (full : (call_tables w c).answer.refusal ≡ 7) where
  abbrev n : ℕ
  n = slots_of w.entries

  abbrev p : State ℕ Tally
  p = read_state w.entries w.levels

  abbrev m : State ℕ Tally
  m = (merge_all p).state

  sound : table_refusal w.entries w.levels ≡ 0
  sound = refused_7_sound w c full

  formed : Formed n p
  formed = (sound_words w.entries w.levels fits sound).formed

  merged_formed : Formed n m
  merged_formed = merge_all_formed n p formed

  drained : Drained p m
  drained = merge_all_drained p (in_form n p formed)

  same_settings : p.settings ≡ settings_of w.levels
  unfolding state_as
  same_settings = refl

  pub refused_7_rows : (i : ℕ) → i < (settings_of w.levels).deepest → level_row (call_tables w c).tables.levels i ≡ no_row
  refused_7_rows i h =
      let deep : i < p.settings.deepest = rw same_settings h in
      let inside : i < length m.levels = omega (arith, deep, merged_formed.size, ap (λ (s : Settings). s.deepest) drained.same) in
      rw (refused_7_leaves w c full)
      (level_row_at m i inside ∙ ap (λ ls. row_of_level (get_or ls i empty)) drained.levels
      ∙ ap row_of_level (only-empty p.settings.deepest i (settled drained.source) deep))

  pub refused_7_settings : settings_of (call_tables w c).tables.levels ≡ settings_of w.levels
  refused_7_settings = rw (refused_7_leaves w c full) (settings_back m ∙ drained.same ∙ same_settings)

  -- Only a put is refused 7.
  no_room : out_of_slots c.clock c.op p ≡ true
  no_room = by_cases (out_of_slots c.clock c.op p) (λ q. q) (λ q. absurd (never_full w c q full))

  lookups_same : (op : Op Tally) → out_of_slots c.clock op p ≡ true → (k : ℕ) → model.lookup m.levels k ≡ model.lookup p.levels k
  unfolding no_slot
  lookups_same (written (put j a)) h k = full_lookup n p (whole n p formed) c.clock j a h k
  lookups_same (written (delete j)) h k = absurd (false≢true h)
  lookups_same (written (delete_range lo hi date)) h k = absurd (false≢true h)
  lookups_same flush h k = absurd (false≢true h)
  lookups_same tick h k = absurd (false≢true h)

  same : (k : ℕ) → model.lookup m.levels k ≡ model.lookup p.levels k
  same = lookups_same c.op no_room

  pub refused_7_lookups : (k : ℕ) → lookup_tables (call_tables w c).tables.entries (call_tables w c).tables.levels k ≡ lookup_tables w.entries w.levels k
  unfolding lookup_tables
  refused_7_lookups k = rw (refused_7_leaves w c full) (rw (words_sound n m merged_formed, sound, written_reads n m merged_formed, same k))

  pub refused_7_scans : (lo hi : ℕ) (rows : List Row)
      → scan_tables (call_tables w c).tables.entries (call_tables w c).tables.levels lo hi rows ≡ scan_tables w.entries w.levels lo hi rows
  unfolding scan_tables
  refused_7_scans lo hi rows =
      rw (refused_7_leaves w c full)
      (rw (words_sound n m merged_formed, sound, written_reads n m merged_formed, scan_same (model.lookup m.levels) (model.lookup p.levels) same lo hi (length rows)))

  -- So with the price left out of what is found.
  same_counts : (k : ℕ) → model.lookup (read_counts (entry_words n m) (level_words m)).levels k ≡ model.lookup (read_counts w.entries w.levels).levels k
  same_counts k =
      counts_found (entry_words n m) (level_words m) k
      ∙ ap (map_found (λ a. a.count)) (ap (λ (x : State ℕ Tally). model.lookup x.levels k) (written_reads n m merged_formed) ∙ same k)
      ∙ sym (counts_found w.entries w.levels k)

  pub refused_7_lookup_counts : (k : ℕ)
      → lookup_counts (call_tables w c).tables.entries (call_tables w c).tables.levels k ≡ lookup_counts w.entries w.levels k
  unfolding lookup_counts
  refused_7_lookup_counts k = rw (refused_7_leaves w c full) (rw (words_sound n m merged_formed, sound, same_counts k))

  pub refused_7_scan_counts : (lo hi : ℕ) (rows : List CountRow)
      → scan_counts_tables (call_tables w c).tables.entries (call_tables w c).tables.levels lo hi rows
      ≡ scan_counts_tables w.entries w.levels lo hi rows
  unfolding scan_counts_tables
  refused_7_scan_counts lo hi rows =
      rw (refused_7_leaves w c full)
      (rw (
        words_sound n m merged_formed,
        sound,
        scan_same (model.lookup (read_counts (entry_words n m) (level_words m)).levels) (model.lookup (read_counts w.entries w.levels).levels) same_counts
            lo hi (length rows),
      ))
