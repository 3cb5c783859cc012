-- How large the numbers of a scan's answer can be: as many rows as there are dockets, a docket, and the last refusal.
use mathlib.Core.Path.{◌≡◌}
use mathlib.Core.List.{List, [], ◌∷◌}
use Prim.Native.Nat.{ℕ, zero, suc, ◌-◌, ◌<◌, ◌≤◌}
use native.Mathlib.Omega.{arith}
use lib.Dec.{eqb}
use lib.ListN.{length, drop, length-take}
use borrow.Author.Tests.{eqb-true}
use Rattle.lists.specs.All.{All}
use Rattle.lists.proofs.Bools.{by_cases}
use Rattle.lists.proofs.Tests.{all_weaken}
use Rattle.model.specs.Lookup as model
use Rattle.model.specs.Lookup.{Found, absent, found, add_row, live_from, live, first_key}
use Rattle.model.proofs.Scans.{live_listed}
use Rattle.tables.specs.Placed.{read_state, read_counts}
use Rattle.scan.specs.declared.Row.{Row}
use Rattle.scan.specs.declared.CountRow.{CountRow}
use Rattle.check_refusal.specs.Dockets.{docket_refusal}
use Rattle.scan.specs.Scan.{Numbers, scan_as, written, count_written, scan_tables, scan_counts_tables}
use Rattle.check_refusal.proofs.Refusals.{dockets_refuse_low, allowed_high, allowed_order}

module _ {A : Type 0} where
  added_length : (k : ℕ) (v : Found A) (rs : List (model.Row A)) → length (add_row k v rs) ≤ suc (length rs)
  added_length k absent rs = omega arith
  added_length k (found a t) rs = omega arith

  first_key_low : (m : ℕ) → 0 < m → (i : ℕ) (rs : List (model.Row A)) → All (λ (r : model.Row A). r.key < m) rs → first_key (drop i rs) < m
  first_key_low m h zero [] a = h
  first_key_low m h (suc i) [] a = h
  first_key_low m h zero (r ∷ rs) a = a.0
  first_key_low m h (suc i) (r ∷ rs) a = first_key_low m h i rs a.1

  module _ (look : ℕ → Found A) where
    live_from_few : (n k : ℕ) → length (live_from look k n) ≤ n
    unfolding live_from
    live_from_few zero k = omega arith
    live_from_few (suc n) k = omega (arith, added_length k (look k) (live_from look (suc k) n), live_from_few n (suc k))

    module _ (lo hi room : ℕ) where
      count_low : (model.scan look lo hi room).count ≤ suc hi
      unfolding model.scan
      count_low = omega (arith, length-take room (live look lo hi), live_from_few (suc hi - lo) lo)

      next_low : lo ≤ hi → (model.scan look lo hi room).next < suc hi
      unfolding model.scan
      next_low order =
          first_key_low (suc hi) (omega arith) room (live look lo hi)
          (all_weaken _ _ (λ r l. l.high) (live look lo hi) (live_listed look lo hi order))

abbrev pub AnswerLow : Numbers → Type 0
AnswerLow a = (a.count ≤ 65536) × (a.next ≤ 65535) × (a.refusal ≤ 4)

pub low_as : {A R : Type 0} (written : model.Row A → R) (look : ℕ → Found A) (e l : List ℕ) (lo hi : ℕ) (rows : List R)
    → AnswerLow (scan_as written (docket_refusal e l lo hi) look lo hi rows).answer
low_as written look e l lo hi rows = by_cases (eqb (docket_refusal e l lo hi) 0)
    (λ p.
    let z : docket_refusal e l lo hi ≡ 0 = eqb-true (docket_refusal e l lo hi) 0 p in
    let high : hi ≤ 65535 = allowed_high e l lo hi z in
    rw p (omega (arith, count_low look lo hi (length rows)), omega (arith, next_low look lo hi (length rows) (allowed_order e l lo hi z)), omega arith))
    (λ p. rw p (omega arith, omega arith, dockets_refuse_low e l lo hi))

pub answer_low : (e l : List ℕ) (lo hi : ℕ) (rows : List Row) → AnswerLow (scan_tables e l lo hi rows).answer
unfolding scan_tables
answer_low e l = low_as written (model.lookup (read_state e l).levels) e l

pub counts_low : (e l : List ℕ) (lo hi : ℕ) (rows : List CountRow) → AnswerLow (scan_counts_tables e l lo hi rows).answer
unfolding scan_counts_tables
counts_low e l = low_as count_written (model.lookup (read_counts e l).levels) e l
