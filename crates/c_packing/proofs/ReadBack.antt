-- C's answers read back: on tables of any content the header's readers take document 01's numbers out of what every call answers.
use mathlib.Core.Path.{◌≡◌, refl, sym, ap, ◌∙◌}
use mathlib.Core.List.{List}
use Prim.Native.Nat.{ℕ}
use native.Mathlib.Omega.{arith}
use Rattle.model.specs.declared.Tally.{Tally}
use Rattle.model.specs.Calls.{Call}
use Rattle.tables.specs.Words.{Fits32}
use Rattle.tables.specs.Slots.{clock_of}
use Rattle.std.proofs.Common.{Option, None, Some, Result, Ok, Err}
use Rattle.lookup.specs.Lookup.{Answer, Refused, Absent, Found, lookup_tables, numbers}
use Rattle.lookup.specs.Counts.{lookup_counts, count_numbers, with_price}
use Rattle.lookup.proofs.Counts.{counts_without_prices, numbers_back}
use Rattle.lookup.proofs.Bounds as lookups
use Rattle.wake.specs.Wake.{wake_tables}
use Rattle.wake.proofs.Bounds as wakes
use Rattle.scan.specs.declared.Row.{Row}
use Rattle.scan.specs.declared.CountRow.{CountRow}
use Rattle.scan.specs.Scan.{scan_tables, scan_counts_tables}
use Rattle.scan.proofs.Bounds as scans
use Rattle.call_tables.specs.Calls.{Tables, call_tables}
use Rattle.call_tables.proofs.Bounds.{refusal_most, merges_most_12, purged_most}
use Rattle.c_packing.specs.Packed.{packed, packed_lookup, packed_call, packed_wake, packed_scan}
use Rattle.c_packing.specs.Readers.{read_timed, read_lookup, read_wake, read_scan}
use Rattle.c_packing.proofs.Readers.{timed_read, refused_read, found_read, clock_read, no_clock_read, scan_read}

-- Refusal, merges and purged.
pub timed_reads_back : (w : Tables) (c : Call Tally) → Fits32 w.entries → read_timed (packed_call (call_tables w c)).number ≡ (call_tables w c).answer
timed_reads_back w c fits =
    timed_read (call_tables w c).answer (omega (arith, refusal_most w c)) (omega (arith, merges_most_12 w c fits)) (omega (arith, purged_most w c fits))

module _ (e l : List ℕ) where
  -- Refusal, found, count and stamp, of the grower's lookup.
  pub count_reads_back : (k : ℕ) → Fits32 e → read_lookup (packed (lookup_counts e l k)) ≡ count_numbers (lookup_counts e l k)
  count_reads_back k fits = go (lookup_counts e l k) (lookups.count_low e l fits k)
    where
      go : (a : Answer ℕ) → lookups.CountLow (clock_of e) a → read_lookup (packed a) ≡ count_numbers a
      go (Refused n) low = refused_read n (omega arith)
      go Absent low = refl
      go (Found count stamp) low = found_read count stamp low.0 low.1 (omega (arith, low.2, fits 1))

  -- And of the hall's, with the price beside them.
  pub lookup_reads_back : (k : ℕ) → Fits32 e → let p = packed_lookup (lookup_tables e l k) in with_price p.price (read_lookup p.number) ≡ numbers (lookup_tables e l k)
  lookup_reads_back k fits =
      ap (λ a. with_price (numbers (lookup_tables e l k)).price (read_lookup (packed a))) (sym (counts_without_prices e l k))
      ∙ ap (with_price (numbers (lookup_tables e l k)).price) (count_reads_back k fits)
      ∙ ap (λ a. with_price (numbers (lookup_tables e l k)).price (count_numbers a)) (counts_without_prices e l k)
      ∙ numbers_back (lookup_tables e l k)

  -- The refusal, none, or the clock.
  pub wake_reads_back : Fits32 e → read_wake (packed_wake (wake_tables e l)) ≡ wake_tables e l
  wake_reads_back fits = go (wake_tables e l) (wakes.answer_low e l fits)
    where
      go : (a : Result (Option ℕ) ℕ) → wakes.AnswerLow a → read_wake (packed_wake a) ≡ a
      go (Err n) low = no_clock_read n low.0 (omega (arith, low.1))
      go (Ok None) low = refl
      go (Ok (Some m)) low = clock_read m (omega arith)

  -- Refusal, count, 'more' and the next docket.
  pub scan_reads_back : (lo hi : ℕ) (rows : List Row) → read_scan (packed_scan (scan_tables e l lo hi rows).answer) ≡ (scan_tables e l lo hi rows).answer
  scan_reads_back lo hi rows =
      let low = scans.answer_low e l lo hi rows in
      scan_read (scan_tables e l lo hi rows).answer (omega (arith, low.0)) (omega (arith, low.1)) (omega (arith, low.2))

  pub scan_counts_reads_back : (lo hi : ℕ) (rows : List CountRow)
      → read_scan (packed_scan (scan_counts_tables e l lo hi rows).answer) ≡ (scan_counts_tables e l lo hi rows).answer
  scan_counts_reads_back lo hi rows =
      let low = scans.counts_low e l lo hi rows in
      scan_read (scan_counts_tables e l lo hi rows).answer (omega (arith, low.0)) (omega (arith, low.1)) (omega (arith, low.2))
