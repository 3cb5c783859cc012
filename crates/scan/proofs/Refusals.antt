-- What the tables are where a scan is not refused, and the sweep as it begins.
use mathlib.Core.Path.{◌≡◌, sym, ◌∙◌}
use mathlib.Core.List.{List}
use Prim.Native.Nat.{ℕ}
use Rattle.std.proofs.Common.{Err}
use borrow.Author.Tests.{ne_eqb}
use lib.ListN.{length}
use Rattle.refusals.specs.declared.Refusal.{Refusal}
use Rattle.refusals.specs.Numbers.{number_of}
use Rattle.refusals.proofs.Numbers.{number_nonzero}
use Rattle.model.specs.declared.Tally.{Tally}
use Rattle.model.specs.Lookup as model
use Rattle.tables.specs.Words.{Fits32}
use Rattle.tables.specs.Placed.{read_state}
use Rattle.check_refusal.specs.Dockets.{docket_refusal}
use Rattle.check_refusal.proofs.Refusals.{allowed_sound, allowed_high}
use Rattle.lookup_level.specs.Readable.{Readable}
use Rattle.lookup_level.proofs.Sound.{readable}
use Rattle.scan_step.specs.declared.Sweep.{Sweep}
use Rattle.scan_step.specs.Sweeps.{Sweeping}
use Rattle.scan_sweep.specs.Sweeps.{opened, searched}
use Rattle.scan_sweep.proofs.Arriving.{searched_sweeping, searched_rows}
use Rattle.scan_sweep.proofs.Opening.{opened_sweeping, opened-rest}
use Rattle.scan.specs.Scan.{Outcome, numbers, filled, scan_state}
use Rattle.scan.proofs.Reached.{Reached}

-- Tables of which no scan is refused are readable, so a sweep can set out, and a search from there comes to the first live docket.
module _ (e l : List ℕ) (lo hi : ℕ) (accept : 0 ≡ docket_refusal e l lo hi) where
  pub allowed_readable : Readable e l
  allowed_readable = readable e l (allowed_sound e l lo hi (sym accept))

  pub allowed_sweeping : Sweeping e (opened e l lo hi)
  allowed_sweeping = opened_sweeping allowed_readable lo hi (allowed_high e l lo hi (sym accept))

  pub begun : Fits32 e → {m : Sweep} → m ≡ searched e (opened e l lo hi) → Reached e l lo hi 0 m
  begun words here = record {
    sweeping = rw here (searched_sweeping e words allowed_sweeping);
    left = sym (rw here (searched_rows e words allowed_sweeping ∙ opened-rest allowed_readable lo hi));
  }

  -- What is found is told where no refusal is met.
  pub accepted : {R : Type 0} (written : model.Row Tally → R) (rows : List R)
      → scan_state written e l lo hi rows ≡ filled written (model.scan (model.lookup (read_state e l).levels) lo hi (length rows)) rows
  accepted written rows = rw (← accept)

-- A refusal is told with zeros, and every row stays.
pub refused : {R : Type 0} (written : model.Row Tally → R) (e l : List ℕ) (lo hi : ℕ) (rows : List R) (r : Refusal) → number_of r ≡ docket_refusal e l lo hi
    → ◌≡◌ {A = Outcome R} (record { answer = numbers (Err r); rows = rows }) (scan_state written e l lo hi rows)
refused written e l lo hi rows r is = rw (← is, ne_eqb (number_of r) 0 (number_nonzero r))
