-- Where a scan that is not refused stands after i rows, from its opening to its answer, however its rows are written.
use mathlib.Core.Path.{◌≡◌, refl, sym, ap, ◌∙◌, subst}
use mathlib.Core.Bool.{Bool, true, false, cond}
use mathlib.Core.List.{List, [], ◌∷◌}
use Prim.Native.Nat.{ℕ, suc, ◌<◌, ◌≤◌, min}
use native.Mathlib.Omega.{arith}
use Rattle.std.proofs.Common.{Option, None, Some}
use Rattle.std.specs.Option.{option_map}
use lib.ListN.{length, drop, set, length-take, drop_of_length-le}
use borrow.Author.Tests.{lt-ltb, le-ltb}
use Rattle.model.specs.declared.Tally.{Tally}
use Rattle.model.specs.Lookup as model
use Rattle.tables.specs.Slots.{InTable}
use Rattle.tables.specs.Placed.{read_state}
use Rattle.scan_step.specs.declared.Sweep.{Sweep}
use Rattle.scan_step.specs.declared.Live.{Live}
use Rattle.scan_step.specs.Sweeps.{Sweeping, rest, row_found, is_live, live_of, rows_from}
use Rattle.scan.specs.Scan.{Outcome, counted_to, filled}
use Rattle.scan.specs.Rows.{row_in}
use Rattle.scan.proofs.Filling.{so_far, set-so_far, drop_inside, drop_none, drop_next, take_over}

-- The rows of the live dockets from lo to hi.
abbrev pub live_rows : List ℕ → List ℕ → ℕ → ℕ → List (model.Row Tally)
live_rows e l lo hi = model.live (model.lookup (read_state e l).levels) lo hi

-- After i rows the sweep m has come to the next live docket.
pub record Reached (e l : List ℕ) (lo hi i : ℕ) (m : Sweep) : Type 0 where
  pub sweeping : Sweeping e m
  pub left : drop i (live_rows e l lo hi) ≡ rows_from e m

-- A sweep that tells a live docket has come to it, and one that tells none to none.
told_live : (m : Sweep) (live : Live) → live_of m ≡ Some live → (is_live m ≡ true) × (live ≡ record { docket = m.key; slot = m.slot })
told_live m live = go (is_live m)
  where
    go : (b : Bool) → ◌≡◌ {A = Option Live} (cond b (Some (record { docket = m.key; slot = m.slot })) None) (Some live) → (b ≡ true) × (live ≡ record { docket = m.key; slot = m.slot })
    go true is = (refl, cc)
    go false is = cc

told_none : (m : Sweep) → live_of m ≡ None → is_live m ≡ false
told_none m = go (is_live m)
  where
    go : (b : Bool) → ◌≡◌ {A = Option Live} (cond b (Some (record { docket = m.key; slot = m.slot })) None) None → b ≡ false
    go true is = cc
    go false is = refl

module _ {R : Type 0} (written : model.Row Tally → R) (e l : List ℕ) (lo hi : ℕ) (ys : List R) (i : ℕ) (m : Sweep) (h : Reached e l lo hi i m) where
  abbrev all : List (model.Row Tally)
  all = live_rows e l lo hi

  -- A turn: the docket is live and has a row.
  module _ (live : Live) (is : live_of m ≡ Some live) where
    coming_rows : drop i all ≡ row_in e live ∷ rest e m
    coming_rows =
        h.left ∙ ap (λ (b : Bool). cond b (row_found e m ∷ rest e m) []) (told_live m live is).0
        ∙ ap (λ (v : Live). row_in e v ∷ rest e m) (sym (told_live m live is).1)

    pub slot_inside : InTable e live.slot
    slot_inside = rw (told_live m live is).1 (h.sweeping.here (told_live m live is).0)

    pub turn_inside : i < length all
    turn_inside = drop_inside all i (row_in e live) (rest e m) coming_rows

    pub stored : i < length ys → set (so_far written all ys i) i (written (row_in e live)) ≡ so_far written all ys (suc i)
    stored room = set-so_far written all ys i (row_in e live) (rest e m) coming_rows room

    pub turned : (next : Sweep) → Sweeping e next → rows_from e next ≡ rest e m → Reached e l lo hi (suc i) next
    turned next s q = record { sweeping = s; left = drop_next all i (row_in e live) (rest e m) coming_rows ∙ sym q }

  -- The answer, where the rows so far are all that there is room for or all that there are.
  abbrev Answers : Option ℕ → Type 0
  Answers next = ◌≡◌ {A = Outcome R} (record { answer = counted_to i next; rows = so_far written all ys i })
      (filled written (model.scan (model.lookup (read_state e l).levels) lo hi (length ys)) ys)

  -- No docket is live.
  pub ended_none : live_of m ≡ None → i ≤ length all → i ≤ length ys → Answers None
  unfolding model.scan
  ended_none is inside room =
      let over : length all ≤ i = drop_none all i (h.left ∙ ap (λ (b : Bool). cond b (row_found e m ∷ rest e m) []) (told_none m is)) in
      let least : min i (length all) ≡ i = omega arith in
      rw (
        take_over all (length ys) (omega arith) ∙ sym (take_over all i over),
        le-ltb (length ys) (length all) (omega arith),
        drop_of_length-le all {i = length ys} (omega arith),
        length-take i all,
        least,
      )

  -- Every row is filled, and a live docket found none.
  ended_full : (live : Live) → live_of m ≡ Some live → i ≡ length ys → Answers (Some live.docket)
  unfolding model.scan
  ended_full live is full =
      let coming = coming_rows live is in
      let least : min i (length all) ≡ i = omega (arith, turn_inside live is) in
      rw (
        sym full,
        lt-ltb i (length all) (turn_inside live is),
        ap model.first_key coming,
        length-take i all,
        least,
      )

  abbrev docket_of : Live → ℕ
  docket_of live = live.docket

  -- No row is left.
  pub ended : i ≤ length all → i ≡ length ys → (next : Option ℕ) → next ≡ option_map docket_of (live_of m)
      → ◌≡◌ {A = Outcome R} (record { answer = counted_to (length ys) next; rows = so_far written all ys i })
      (filled written (model.scan (model.lookup (read_state e l).levels) lo hi (length ys)) ys)
  ended inside full next q =
      subst (λ (n : ℕ). ◌≡◌ {A = Outcome R} (record { answer = counted_to n next; rows = so_far written all ys i })
      (filled written (model.scan (model.lookup (read_state e l).levels) lo hi (length ys)) ys)) full (rw q (go (live_of m) refl))
    where
      go : (found : Option Live) → live_of m ≡ found → Answers (option_map docket_of found)
      go None is = ended_none is inside (omega arith)
      go (Some live) is = ended_full live is full
