-- What a scan answers: on tables of any content, exactly when it is refused and what that leaves; on the words of a formed state, what the state has.
use mathlib.Core.Path.{◌≡◌, refl, sym, ◌∙◌}
use mathlib.Core.Logic.{◌≢◌}
use mathlib.Core.Bool.{Bool, true, false, cond}
use mathlib.Core.List.{List}
use Prim.Native.Nat.{ℕ, ◌≤◌}
use borrow.Author.Tests.{eqb-true, le-ltb, ne_eqb}
use lib.Dec.{eqb}
use lib.ListN.{length}
use Rattle.model.specs.declared.Tally.{Tally}
use Rattle.model.specs.Records.{State}
use Rattle.model.specs.Lookup as model
use Rattle.tables.specs.Placed.{entry_words, level_words, read_state, read_counts}
use Rattle.tables.specs.Formed.{Formed}
use Rattle.tables.proofs.Back.{written_reads}
use Rattle.tables.proofs.FormedSound.{words_sound}
use Rattle.scan.specs.declared.Row.{Row}
use Rattle.scan.specs.declared.CountRow.{CountRow}
use Rattle.check_refusal.specs.Dockets.{docket_refusal}
use Rattle.scan.specs.Scan.{filled, unfilled, scan_as, written, count_written, scan_tables, scan_counts_tables}
use Rattle.scan.specs.Rows.{counted}
use Rattle.scan.proofs.Counts.{counts_as}

-- However its rows are written.
refused_as : {A R : Type 0} (written : model.Row A → R) (n : ℕ) (look : ℕ → model.Found A) (lo hi : ℕ) (rows : List R)
    → (scan_as written n look lo hi rows).answer.refusal ≡ n
refused_as written n look lo hi rows = go (eqb n 0) refl
  where
    go : (none : Bool) → eqb n 0 ≡ none → (cond none (filled written (model.scan look lo hi (length rows)) rows) (unfilled n rows)).answer.refusal ≡ n
    go true is = rw (eqb-true n 0 is)
    go false is = refl

module _ (e l : List ℕ) (lo hi : ℕ) (rows : List Row) where
  -- A scan is refused by these numbers, in this order, and by no other.
  pub refused_exactly : (scan_tables e l lo hi rows).answer.refusal ≡ docket_refusal e l lo hi
  unfolding scan_tables
  refused_exactly = refused_as written (docket_refusal e l lo hi) (model.lookup (read_state e l).levels) lo hi rows

  -- "A refusal gives its number and zeros", and every row is as it was.
  pub refused_leaves : docket_refusal e l lo hi ≢ 0 → scan_tables e l lo hi rows ≡ unfilled (docket_refusal e l lo hi) rows
  unfolding scan_tables
  refused_leaves some = rw (ne_eqb (docket_refusal e l lo hi) 0 some)

module _ (e l : List ℕ) (lo hi : ℕ) (rows : List CountRow) where
  pub counts_refused_exactly : (scan_counts_tables e l lo hi rows).answer.refusal ≡ docket_refusal e l lo hi
  unfolding scan_counts_tables
  counts_refused_exactly = refused_as count_written (docket_refusal e l lo hi) (model.lookup (read_counts e l).levels) lo hi rows

  pub counts_refused_leaves : docket_refusal e l lo hi ≢ 0 → scan_counts_tables e l lo hi rows ≡ unfilled (docket_refusal e l lo hi) rows
  unfolding scan_counts_tables
  counts_refused_leaves some = rw (ne_eqb (docket_refusal e l lo hi) 0 some)

-- On the words of a formed state, the scan of that state.
module _ (n : ℕ) (p : State ℕ Tally) (lo hi : ℕ) where
  pub scanned_words : (rows : List Row) → Formed n p → lo ≤ hi → hi ≤ 65535
      → scan_tables (entry_words n p) (level_words p) lo hi rows ≡ filled written (model.scan (model.lookup p.levels) lo hi (length rows)) rows
  unfolding scan_tables
  scanned_words rows f order high = rw (words_sound n p f, le-ltb 65535 hi high, le-ltb hi lo order, written_reads n p f)

  pub counts_scanned_words : (rows : List CountRow) → Formed n p → lo ≤ hi → hi ≤ 65535
      → scan_counts_tables (entry_words n p) (level_words p) lo hi rows ≡ filled counted (model.scan (model.lookup p.levels) lo hi (length rows)) rows
  counts_scanned_words rows f order high =
      sym (counts_as (entry_words n p) (level_words p) lo hi rows)
      ∙ rw (words_sound n p f, le-ltb 65535 hi high, le-ltb hi lo order, written_reads n p f)
