-- How large the numbers of a lookup's answer can be: the last refusal; a count of 32 bits, and a stamp from 1 to the last clock, which is never 0.
use mathlib.Core.List.{List, [], ◌∷◌, map}
use Prim.Native.Nat.{ℕ, zero, suc, ◌+◌, ◌*◌, ◌<◌, ◌≤◌}
use lib.Dec.{eqb}
use borrow.Author.Tests.{eqb-true}
use Rattle.lists.specs.All.{All}
use Rattle.lists.proofs.Bools.{cond_elim}
use Rattle.model.specs.declared.Tally.{Tally}
use Rattle.model.specs.Records.{Entry, value, tombstone}
use Rattle.model.specs.Lookup as model
use Rattle.model.proofs.Found.{Each, lookup_holds}
use Rattle.tables.specs.Words.{Fits32}
use Rattle.tables.specs.Slots.{slot_size, kind_of, tally_of, stamp_of, clock_of}
use Rattle.tables.specs.Rows.{settings_of}
use Rattle.tables.specs.Sound.{point_chain}
use Rattle.tables.specs.Placed.{read_point, read_levels, read_state, levels_as, state_as}
use Rattle.tables.specs.Formed.{LevelFormed}
use Rattle.tables.proofs.FormedSound.{sound_words}
use Rattle.check_refusal.specs.Dockets.{docket_refusal}
use Rattle.check_refusal.proofs.Refusals.{dockets_refuse_low, allowed_sound}
use Rattle.lookup.specs.Lookup.{Answer, Refused, Absent, Found, answered, lookup_tables}
use Rattle.lookup.specs.Counts.{lookup_counts, without_price}
use Rattle.lookup.proofs.Counts.{counts_without_prices}

abbrev pub CountLow : ℕ → Answer ℕ → Type 0
CountLow clock (Refused n) = n ≤ 4
CountLow clock Absent = Unit {0}
CountLow clock (Found count stamp) = (count < 4294967296) × (1 ≤ stamp) × (stamp ≤ clock)

abbrev AnswerLow : ℕ → Answer Tally → Type 0
AnswerLow clock a = CountLow clock (without_price a)

abbrev FoundLow : ℕ → model.Found Tally → Type 0
FoundLow clock f = AnswerLow clock (answered f)

module _ (e l : List ℕ) (fits : Fits32 e) where
  -- A count that is read is a word of the entry table.
  points_low : (clock : ℕ) (ss : List ℕ) → All (λ p. (1 ≤ p.stamp) × (p.stamp ≤ clock)) (map (read_point e) ss)
      → Each (FoundLow clock) (map (read_point e) ss)
  points_low clock [] a = tt
  points_low clock (s ∷ ss) a = (
    cond_elim (λ (x : Entry Tally). FoundLow clock (model.reads x (stamp_of e s))) (eqb (kind_of e s) 1) (value (tally_of e s)) tombstone
        (λ q. (fits (slot_size * s + 2), a.0.0, a.0.1)) (λ q. tt),
    points_low clock ss a.1,
  )

  levels_low : (clock j i : ℕ) → All (LevelFormed clock) (read_levels e l j i) → All (λ v. Each (FoundLow clock) v.points) (read_levels e l j i)
  unfolding levels_as
  levels_low clock zero i a = tt
  levels_low clock (suc j) i a = (points_low clock (point_chain e l i) a.0.point_stamps, levels_low clock j (suc i) a.1)

  answer_low : (k : ℕ) → AnswerLow (clock_of e) (lookup_tables e l k)
  unfolding lookup_tables state_as
  answer_low k =
      let n : ℕ = docket_refusal e l k k in
      cond_elim (AnswerLow (clock_of e)) (eqb n 0) (answered (model.lookup (read_state e l).levels k)) (Refused n)
      (λ q.
      let f = (sound_words e l fits (allowed_sound e l k k (eqb-true n 0 q))).formed in
      lookup_holds (FoundLow (clock_of e)) tt (read_state e l).levels k (levels_low (clock_of e) (suc (settings_of l).deepest) 0 f.levels_ok))
      (λ q. dockets_refuse_low e l k k)

  pub count_low : (k : ℕ) → CountLow (clock_of e) (lookup_counts e l k)
  count_low k = rw (counts_without_prices e l k) (answer_low k)
