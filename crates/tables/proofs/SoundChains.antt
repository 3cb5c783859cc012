-- The chains of sound tables: each ends, and stays inside the table.
use mathlib.Core.Path.{◌≡◌}
use mathlib.Core.List.{List, ◌++◌}
use Prim.Native.Nat.{ℕ, zero, suc, ◌+◌, ◌<◌, ◌≤◌}
use native.Mathlib.Omega.{arith}
use native.Mathlib.Decide.{ℕ_discrete}
use lib.ListN.{length, length-append}
use Rattle.lists.specs.All.{All}
use Rattle.lists.proofs.Tests.{all_left, all_right}
use Rattle.tables.specs.Slots.{slots_of, first_free}
use Rattle.tables.specs.Rows.{settings_of, level_row}
use Rattle.tables.specs.Sound.{chain_from, free_chain, point_chain, range_chain, record_slots}
use Rattle.tables.proofs.Once.{Inside, once_inside}
use Rattle.tables.proofs.Linked.{Linked, chain_linked}
use Rattle.tables.proofs.SoundWords.{Sound}

pub record ChainSound (e : List ℕ) (h : ℕ) : Type 0 where
  pub linked : Linked e h (chain_from e h)
  pub inside : All (Inside (slots_of e)) (chain_from e h)

-- Slots that are no more than n, all inside.
abbrev Few : ℕ → List ℕ → Type 0
Few n ss = (length ss ≤ n) × All (Inside n) ss

few_left : (n : ℕ) (xs ys : List ℕ) → Few n (xs ++ ys) → Few n xs
few_left n xs ys f = (omega (arith, length-append xs ys, f.0), all_left (Inside n) xs ys f.1)

few_right : (n : ℕ) (xs ys : List ℕ) → Few n (xs ++ ys) → Few n ys
few_right n xs ys f = (omega (arith, length-append xs ys, f.0), all_right (Inside n) xs ys f.1)

few_level : (n : ℕ) (e l : List ℕ) (j first i : ℕ) → first ≤ i → i < first + j → Few n (record_slots e l j first)
    → Few n (point_chain e l i ++ range_chain e l i)
unfolding record_slots
few_level n e l zero first i a b f = absurd (omega arith)
few_level n e l (suc j) first i a b f = go (λ a b. few_level n e l j (suc first) i a b (few_right n here rest f)) (ℕ_discrete i first)
  where
    here : List ℕ
    here = point_chain e l first ++ range_chain e l first

    rest : List ℕ
    rest = record_slots e l j (suc first)

    go : (suc first ≤ i → i < suc first + j → Few n (point_chain e l i ++ range_chain e l i)) → Dec (i ≡ first) → Few n (point_chain e l i ++ range_chain e l i)
    go ih (yes q) = rw q (few_left n here rest f)
    go ih (no q) = ih (omega arith) (omega arith)

module _ (e l : List ℕ) (f : Sound e l) where
  ends : (h : ℕ) → Few (slots_of e) (chain_from e h) → ChainSound e h
  ends h few = record { linked = chain_linked (length e) e h (omega (arith, f.length_entries, few.0)); inside = few.1 }

  all : Few (slots_of e) (free_chain e ++ record_slots e l (suc (settings_of l).deepest) 0)
  all =
      let ss : List ℕ = free_chain e ++ record_slots e l (suc (settings_of l).deepest) 0 in
      (omega (arith, f.once.number), once_inside (slots_of e) ss f.once)

  level : (i : ℕ) → i ≤ (settings_of l).deepest → Few (slots_of e) (point_chain e l i ++ range_chain e l i)
  level i h =
      few_level (slots_of e) e l (suc (settings_of l).deepest) 0 i (omega arith) (omega arith)
      (few_right (slots_of e) (free_chain e) (record_slots e l (suc (settings_of l).deepest) 0) all)

  pub free_ends : ChainSound e (first_free e)
  free_ends = ends (first_free e) (few_left (slots_of e) (free_chain e) (record_slots e l (suc (settings_of l).deepest) 0) all)

  pub points_end : (i : ℕ) → i ≤ (settings_of l).deepest → ChainSound e (level_row l i).points
  points_end i h = ends (level_row l i).points (few_left (slots_of e) (point_chain e l i) (range_chain e l i) (level i h))

  pub ranges_end : (i : ℕ) → i ≤ (settings_of l).deepest → ChainSound e (level_row l i).ranges
  ranges_end i h = ends (level_row l i).ranges (few_right (slots_of e) (point_chain e l i) (range_chain e l i) (level i h))
