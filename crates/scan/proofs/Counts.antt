-- The grower's scan is the hall's with the prices left out: on tables of any content, and so in every refusal.
use mathlib.Core.Path.{◌≡◌, refl, sym, ap, ◌∙◌}
use mathlib.Core.Bool.{Bool, true, false, cond}
use mathlib.Core.List.{List, [], ◌∷◌, ◌++◌, map}
use Prim.Native.Nat.{ℕ, zero, suc}
use lib.Dec.{eqb}
use lib.ListN.{length, drop, length-map}
use Rattle.model.specs.declared.Tally.{Tally}
use Rattle.model.specs.Lookup as model
use Rattle.tables.specs.Placed.{read_state, read_counts}
use Rattle.check_refusal.specs.Dockets.{docket_refusal}
use Rattle.lookup.proofs.Counts.{counts_found}
use Rattle.scan.specs.declared.Row.{Row}
use Rattle.scan.specs.declared.CountRow.{CountRow}
use Rattle.scan.specs.Scan.{filled, unfilled, scan_state, written, scan_tables, count_written, scan_counts_tables, without_price, without_prices}
use Rattle.scan.specs.Rows.{counted}
use Rattle.scan.proofs.Natural.{scan_as_map}

-- The hall's scan is that of the state.
pub rows_as : (e l : List ℕ) (lo hi : ℕ) (rows : List Row) → scan_state written e l lo hi rows ≡ scan_tables e l lo hi rows
unfolding scan_tables
rows_as e l lo hi rows = refl

-- The scan of the counts writes the hall's live dockets, their prices left out.
pub counts_as : (e l : List ℕ) (lo hi : ℕ) (rows : List CountRow)
    → scan_state counted e l lo hi rows ≡ scan_counts_tables e l lo hi rows
unfolding scan_counts_tables
counts_as e l lo hi rows =
    sym (scan_as_map (λ (a : Tally). a.count) (model.lookup (read_state e l).levels) (model.lookup (read_counts e l).levels) (counts_found e l)
    count_written (docket_refusal e l lo hi) lo hi rows)

prices_left_out : (rs : List (model.Row Tally)) (n : ℕ) (rows : List Row)
    → map counted rs ++ drop n (map without_price rows) ≡ map without_price (map written rs ++ drop n rows)
prices_left_out [] zero rows = refl
prices_left_out [] (suc n) [] = refl
prices_left_out [] (suc n) (r ∷ rows) = prices_left_out [] n rows
prices_left_out (r ∷ rs) n rows = ap {B = List CountRow} (λ l. counted r ∷ l) (prices_left_out rs n rows)

module _ (e l : List ℕ) (lo hi : ℕ) (rows : List Row) where
  filled_without : (s : model.Scan Tally) → filled counted s (map without_price rows) ≡ without_prices (filled written s rows)
  filled_without s = rw (prices_left_out s.rows s.count rows)

  -- The answer is the same, and each row is the hall's without its price.
  pub counts_without_prices : scan_counts_tables e l lo hi (map without_price rows) ≡ without_prices (scan_tables e l lo hi rows)
  unfolding scan_tables
  counts_without_prices =
      sym (counts_as e l lo hi (map without_price rows))
      ∙ rw (length-map rows without_price) (go (docket_refusal e l lo hi) (eqb (docket_refusal e l lo hi) 0))
    where
      all : model.Scan Tally
      all = model.scan (model.lookup (read_state e l).levels) lo hi (length rows)

      go : (n : ℕ) (none : Bool)
          → cond none (filled counted all (map without_price rows)) (unfilled n (map without_price rows)) ≡ without_prices (cond none (filled written all rows) (unfilled n rows))
      go n true = filled_without all
      go n false = refl
