-- A change of tallies commutes with a scan: no row hangs on a tally but by the tally that it shows.
use mathlib.Core.Path.{◌≡◌, refl, ap}
use mathlib.Core.Bool.{cond}
use mathlib.Core.List.{List, [], ◌∷◌, map}
use Prim.Native.Nat.{ℕ, zero, suc, ◌-◌}
use lib.Dec.{eqb}
use lib.ListN.{length, take, drop, length-map}
use Rattle.model.specs.Lookup as model
use Rattle.model.specs.Lookup.{Found, absent, found, Row, add_row, live_from, live, first_key}
use Rattle.model.specs.Renaming.{map_found}
use Rattle.scan.specs.Scan.{Outcome, filled, unfilled, scan_as}

module _ {A B : Type 0} (f : A → B) where
  abbrev pub map_row : Row A → Row B
  map_row r = record { key = r.key; tally = f r.tally; stamp = r.stamp }

  add_row-map : (k : ℕ) (v : Found A) (rs : List (Row A)) → add_row k (map_found f v) (map map_row rs) ≡ map map_row (add_row k v rs)
  add_row-map k absent rs = refl
  add_row-map k (found a t) rs = refl

  take-map : (n : ℕ) (rs : List (Row A)) → take n (map map_row rs) ≡ map map_row (take n rs)
  take-map zero [] = refl
  take-map zero (r ∷ rs) = refl
  take-map (suc n) [] = refl
  take-map (suc n) (r ∷ rs) = ap {B = List (Row B)} (λ l. map_row r ∷ l) (take-map n rs)

  next_map : (n : ℕ) (rs : List (Row A)) → first_key (drop n (map map_row rs)) ≡ first_key (drop n rs)
  next_map zero [] = refl
  next_map zero (r ∷ rs) = refl
  next_map (suc n) [] = refl
  next_map (suc n) (r ∷ rs) = next_map n rs

  module _ (look : ℕ → Found A) (other : ℕ → Found B) (same : (k : ℕ) → other k ≡ map_found f (look k)) where
    live_from-map : (n k : ℕ) → live_from other k n ≡ map map_row (live_from look k n)
    unfolding live_from
    live_from-map zero k = refl
    live_from-map (suc n) k = rw (same k, live_from-map n (suc k)) (add_row-map k (look k) (live_from look (suc k) n))

    module _ {R : Type 0} (written : Row B → R) where
      written-map : (rs : List (Row A)) → map written (map map_row rs) ≡ map (λ r. written (map_row r)) rs
      written-map [] = refl
      written-map (r ∷ rs) = ap {B = List R} (λ l. written (map_row r) ∷ l) (written-map rs)

      filled_map : (lo hi : ℕ) (rows : List R)
          → filled written (model.scan other lo hi (length rows)) rows ≡ filled (λ r. written (map_row r)) (model.scan look lo hi (length rows)) rows
      unfolding model.scan
      filled_map lo hi rows =
          let all : List (Row A) = live look lo hi in
          rw (
            live_from-map (suc hi - lo) lo,
            take-map (length rows) all,
            next_map (length rows) all,
            length-map all map_row,
            length-map (take (length rows) all) map_row,
            written-map (take (length rows) all),
          )

      -- So a scan of the changed tallies writes what one of the others does, each tally changed as its row is written.
      pub scan_as_map : (n lo hi : ℕ) (rows : List R) → scan_as written n other lo hi rows ≡ scan_as (λ r. written (map_row r)) n look lo hi rows
      scan_as_map n lo hi rows = ap (λ (s : Outcome R). cond (eqb n 0) s (unfilled n rows)) (filled_map lo hi rows)
