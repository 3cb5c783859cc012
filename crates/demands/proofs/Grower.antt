-- The grower's lookup and scan hang on no price: tables that differ in the prices of puts alone are refused alike, and their counts read the same.
use mathlib.Core.Path.{◌≡◌, refl, ap, ◌∙◌}
use mathlib.Core.Logic.{◌≢◌}
use mathlib.Core.List.{List}
use Prim.Native.Nat.{ℕ, ◌+◌, ◌*◌, ◌%◌}
use native.Mathlib.Omega.{arith}
use lib.Dec.{eqb}
use lib.Seq.{get_or-set_other}
use borrow.Author.Tests.{eqb-true, ne_eqb}
use Rattle.lists.specs.Lists.{every, count}
use Rattle.lists.proofs.Bools.{by_cases, both_false}
use Rattle.settings.specs.Limits.{allowed}
use Rattle.tables.specs.Slots.{slot_size, count_of}
use Rattle.tables.specs.Sound.{chain, ascend, level_sound, levels_sound, record_slots, once_each, chains_sound, entries_fit, levels_fit, table_refusal}
use Rattle.tables.specs.Placed.{read_counts}
use Rattle.check_refusal.specs.Dockets.{docket_refusal}
use Rattle.lookup.specs.Counts.{lookup_counts, count_numbers}
use Rattle.lookup.proofs.Counts.{counts_without_prices, counted_promised}
use Rattle.scan.specs.declared.CountRow.{CountRow}
use Rattle.scan.specs.Scan.{scan_counts_tables}
use Rattle.call_tables.specs.Calls.{Tables}
use Rattle.demands.specs.Hidden.{price_word, SameEntries, SameBut, one_free, FreePriced}
use Rattle.demands.proofs.SameTables.{prices_only, shown_same, refusal_same, state_same}

-- A lookup of the grower's, by document 01's numbers of its answer.
module _ (e l : List ℕ) (k : ℕ) where
  pub lookup_refused_exactly : (count_numbers (lookup_counts e l k)).refusal ≡ docket_refusal e l k k
  lookup_refused_exactly = (counted_promised e l k refl (counts_without_prices e l k)).1

  pub lookup_refused_zeros : docket_refusal e l k k ≢ 0
      → count_numbers (lookup_counts e l k) ≡ record { refusal = docket_refusal e l k k; found = 0; count = 0; stamp = 0 }
  unfolding lookup_counts
  lookup_refused_zeros some = rw (ne_eqb (docket_refusal e l k k) 0 some)

-- Entry tables that differ in the prices of puts alone.
module _ (e f : List ℕ) (h : SameEntries price_word e f) (l : List ℕ) where
  refused_alike : table_refusal e l ≡ table_refusal f l
  refused_alike = refusal_same price_word prices_only e f h l

  -- Word 2 is the same in every slot.
  counts_alike : table_refusal e l ≡ 0 → read_counts e l ≡ read_counts f l
  counts_alike = state_same price_word prices_only e f h l count_of (λ s. shown_same price_word prices_only e f h (slot_size * s + 2) 2 (omega arith) refl)

  lookup_same : (k : ℕ) → lookup_counts e l k ≡ lookup_counts f l k
  unfolding lookup_counts
  lookup_same k = by_cases (eqb (table_refusal e l) 0)
      (λ yes. rw (← refused_alike, counts_alike (eqb-true (table_refusal e l) 0 yes)))
      (λ no. rw (← refused_alike, no, no))

  scan_same : (lo hi : ℕ) (rows : List CountRow) → scan_counts_tables e l lo hi rows ≡ scan_counts_tables f l lo hi rows
  unfolding scan_counts_tables
  scan_same lo hi rows = by_cases (eqb (table_refusal e l) 0)
      (λ yes. rw (← refused_alike, counts_alike (eqb-true (table_refusal e l) 0 yes)))
      (λ no. rw (← refused_alike, no, no))

module _ (w v : Tables) (same : SameBut price_word w v) where
  pub lookups_same : (k : ℕ) → lookup_counts w.entries w.levels k ≡ lookup_counts v.entries v.levels k
  lookups_same k =
      lookup_same w.entries v.entries same.entries w.levels k ∙ ap (λ l. lookup_counts v.entries l k) same.levels

  pub scans_same : (lo hi : ℕ) (rows : List CountRow)
      → scan_counts_tables w.entries w.levels lo hi rows ≡ scan_counts_tables v.entries v.levels lo hi rows
  scans_same lo hi rows =
      scan_same w.entries v.entries same.entries w.levels lo hi rows ∙ ap (λ l. scan_counts_tables v.entries l lo hi rows) same.levels

-- In word 4 of a free slot only zero is sound.
pub free_priced : FreePriced
unfolding allowed every count chain ascend level_sound levels_sound record_slots once_each chains_sound entries_fit levels_fit table_refusal
free_priced = record {
  words = λ i shown. get_or-set_other (one_free 0).entries 9 i 7 0 (λ q. both_false (ap (λ j. price_word (j % slot_size)) q) shown);
  sound = refl;
  refused = refl;
}
