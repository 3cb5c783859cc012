-- A sweep that sets out: its heads are those of the levels from lo on, and it has to come what the tables read as from there on.
use mathlib.Core.Path.{◌≡◌, refl, ◌∙◌}
use mathlib.Core.Bool.{false≢true}
use mathlib.Core.List.{List}
use Prim.Native.Nat.{ℕ, zero, suc, ◌+◌, ◌<◌, ◌≤◌, max}
use native.Mathlib.Nat.{zero-add}
use native.Mathlib.Numerals.{add-one}
use native.Mathlib.Omega.{arith}
use native.Mathlib.Decide.{ℕ_discrete}
use lib.ListN.{length, replicate, length-replicate}
use Rattle.lists.proofs.Loops.{iterate_holds}
use Rattle.model.specs.Lookup.{lookup_from, lookup, live}
use Rattle.tables.specs.Slots.{lo_of}
use Rattle.tables.specs.Rows.{settings_of, level_row}
use Rattle.tables.specs.Sound.{chain_from, range_chain}
use Rattle.tables.specs.Placed.{read_levels, read_state, levels_as, state_as}
use Rattle.chain_cover.specs.Walks.{Ordered}
use Rattle.chain_cover.specs.declared.Front.{Front}
use Rattle.chain_cover.specs.Fronts.{front_at}
use Rattle.chain_cover.proofs.Chains.{go_on}
use Rattle.chain_cover.proofs.Skips.{front_chain, front_ordered}
use Rattle.chain_cover.proofs.Fronts.{front_at_ordered, front_at_slots}
use Rattle.lookup_level.specs.Readable.{Readable}
use Rattle.lookup_level.proofs.Walks.{points_say}
use Rattle.scan_heads.specs.Heads.{head_at, pushed, blank, point}
use Rattle.scan_heads.proofs.Opening.{Opened, opened_none, opened_next, opened_fits, opened_point}
use Rattle.scan_fences.specs.Fences.{front_in, put_front, ranges_in, slots_latest}
use Rattle.scan_fences.proofs.Levels.{put_length, put_same, put_other}
use Rattle.scan_step.specs.Sweeps.{levels_from, to_come, Sweeping, rest}
use Rattle.scan_step.proofs.LiveRows.{live_same}
use Rattle.scan_step.proofs.Coming.{beginning_says, looks_same, decides_same}
use Rattle.scan_sweep.specs.Sweeps.{first_from, opened_heads, opened_ranges, opened}

module _ {e l : List ℕ} (readable : Readable e l) (lo : ℕ) where
  abbrev n : ℕ
  n = (settings_of l).deepest + 1

  -- The first point of a level from lo on.
  module _ (i : ℕ) (lt : i < n) where
    pub front_is_ordered : Ordered e (first_from e l lo i)
    front_is_ordered = front_ordered e (lo_of e) (level_row l i).points lo (readable.points i (omega arith)) (first_from e l lo i) refl

    pub front_small : first_from e l lo i < 65536
    front_small = go (ℕ_discrete (first_from e l lo i) 0)
      where
        go : Dec (first_from e l lo i ≡ 0) → first_from e l lo i < 65536
        go (yes z) = omega arith
        go (no some) = omega (arith, (go_on e (first_from e l lo i) front_is_ordered some).within, readable.size)

    front_says : (j : ℕ) → lo ≤ j → (date : ℕ) → points_say e (first_from e l lo i) date j ≡ points_say e (level_row l i).points date j
    front_says j le date =
        rw (front_chain e (lo_of e) (level_row l i).points lo (readable.points i (omega arith)) (first_from e l lo i) refl)
        (beginning_says e lo j le date (chain_from e (level_row l i).points))

  few : n ≤ 7
  few = omega (arith, readable.shallow)

  heads_opened : Opened e n (first_from e l lo) n (opened_heads e l lo n)
  heads_opened =
      rw (zero-add n) at
      (iterate_holds (λ i a. pushed a (head_at e i (first_from e l lo i))) (Opened e n (first_from e l lo)) n 0 blank
      (λ i a _ lt o. opened_next e n (first_from e l lo) few (omega arith) (front_is_ordered i (omega arith)) (front_small i (omega arith)) o)
      (opened_none e n (first_from e l lo)))

  -- The front of a level's ranges.
  abbrev front : ℕ → Front
  front i = front_at e (level_row l i).ranges

  -- The first i levels have their ranges.
  record Laid (i : ℕ) (ranges : List ℕ) : Type 0 where
    pub room : length ranges ≡ 14
    pub there : (j : ℕ) → j < i → front_in ranges j ≡ front j

  laid_next : (i : ℕ) (ranges : List ℕ) → i < n → Laid i ranges → Laid (suc i) (put_front ranges i (front i))
  laid_next i ranges lt laid = record { room = put_length ranges i (front i) ∙ laid.room; there = λ j below. go j below (ℕ_discrete j i) }
    where
      go : (j : ℕ) → j < suc i → Dec (j ≡ i) → front_in (put_front ranges i (front i)) j ≡ front j
      go j below (yes q) = rw q (put_same ranges i (front i) (omega (arith, laid.room, few)))
      go j below (no q) = put_other ranges i (front i) j q ∙ laid.there j (omega arith)

  ranges_laid : Laid n (opened_ranges e l n)
  ranges_laid =
      rw (zero-add n) at
      (iterate_holds (λ i rs. put_front rs i (front i)) Laid n 0 (replicate 14 0)
      (λ i rs _ lt laid. laid_next i rs (omega arith) laid)
      (record { room = length-replicate {A = ℕ} 14 0; there = λ j below. absurd (omega arith) }))

  module _ (hi : ℕ) where
    pub opened_sweeping : hi ≤ 65535 → Sweeping e (opened e l lo hi)
    opened_sweeping last = record {
      points = opened_fits e n (first_from e l lo) few heads_opened;
      ranges = record {
        size = readable.size;
        few = few;
        room = rw ranges_laid.room (omega (arith, few));
        order = λ i lt. rw (ranges_laid.there i lt) (front_at_ordered e (level_row l i).ranges (readable.ranges i (omega arith)));
      };
      covers = λ j m a b c. absurd (omega arith);
      bound = omega arith;
      last = last;
      here = λ no. absurd (false≢true no);
    }

    -- The levels as the tables have them.
    reads_same : (j k i date : ℕ)
        → lookup_from date (levels_from e (λ m. (level_row l m).points) (λ m. range_chain e l m) k i) j ≡ lookup_from date (read_levels e l k i) j
    unfolding lookup_from levels_from levels_as
    reads_same j zero i date = refl
    reads_same j (suc k) i date = rw (reads_same j k (suc i) (max date (slots_latest e (range_chain e l i) j)))

    opened_looks : (j : ℕ) → lo ≤ j → lookup (to_come e (opened e l lo hi)) j ≡ lookup (read_state e l).levels j
    unfolding state_as
    opened_looks j le =
        looks_same e (λ m. (level_row l m).points) (point (opened_heads e l lo n)) (λ m. range_chain e l m) (ranges_in e (opened_ranges e l n)) j n
        (λ i lt. decides_same e (level_row l i).points (point (opened_heads e l lo n) i) (range_chain e l i) (ranges_in e (opened_ranges e l n) i) j
        (λ date. rw (opened_point e n (first_from e l lo) few heads_opened i lt) (front_says i lt j le date))
        (rw (ranges_laid.there i lt, front_at_slots e (level_row l i).ranges (readable.ranges i (omega arith)))))
        ∙ reads_same j n 0 0 ∙ rw (add-one (settings_of l).deepest)

    pub opened-rest : rest e (opened e l lo hi) ≡ live (lookup (read_state e l).levels) lo hi
    opened-rest = live_same (lookup (to_come e (opened e l lo hi))) (lookup (read_state e l).levels) lo hi opened_looks
