-- A marked slot is marked, and every other slot is as it was.
use mathlib.Core.Path.{◌≡◌}
use mathlib.Core.Logic.{◌≢◌}
use mathlib.Core.List.{List}
use Prim.Native.Nat.{ℕ, ◌+◌, ◌*◌, ◌/◌, ◌%◌, ◌^◌, ◌<◌}
use native.Mathlib.Omega.{arith}
use native.Mathlib.Nat.{zero-div}
use native.Mathlib.Decide.{ℕ_discrete}
use lib.ListN.{length, get_or, set, length-set, replicate, get_or-replicate}
use lib.Seq.{get_or-set_same, get_or-set_other}
use Rattle.check_marks.specs.Marks.{bit, mark_of, with_mark}
use Rattle.check_marks.proofs.Bits.{add_same, add_other}

pub length-with_mark : (m : List ℕ) (s : ℕ) → length (with_mark m s) ≡ length m
unfolding with_mark
length-with_mark m s = length-set m (s / 8) (get_or m (s / 8) 0 + 2 ^ (s % 8))

pub mark_same : (m : List ℕ) (s : ℕ) → s < 8 * length m → mark_of m s ≡ 0 → mark_of (with_mark m s) s ≡ 1
unfolding mark_of with_mark
mark_same m s l h = rw (get_or-set_same m (s / 8) (get_or m (s / 8) 0 + 2 ^ (s % 8)) 0 (omega arith)) (add_same (s % 8) (get_or m (s / 8) 0) h)

pub mark_other : (m : List ℕ) (s t : ℕ) → s < 8 * length m → t ≢ s → mark_of m s ≡ 0 → mark_of (with_mark m s) t ≡ mark_of m t
unfolding mark_of with_mark
mark_other m s t l n h = go (ℕ_discrete (t / 8) (s / 8))
  where
    b : ℕ
    b = get_or m (s / 8) 0

    go : Dec (t / 8 ≡ s / 8) → bit (t % 8) (get_or (set m (s / 8) (b + 2 ^ (s % 8))) (t / 8) 0) ≡ bit (t % 8) (get_or m (t / 8) 0)
    go (yes q) =
        let ne : t % 8 ≢ s % 8 = λ r. n (omega arith) in
        rw (q, get_or-set_same m (s / 8) (b + 2 ^ (s % 8)) 0 (omega arith)) (add_other (t % 8) (s % 8) b ne h)
    go (no q) = rw (get_or-set_other m (s / 8) (t / 8) (b + 2 ^ (s % 8)) 0 q)

-- In an array of zeros nothing is marked.
pub mark_blank : (k s : ℕ) → s < 8 * k → mark_of (replicate k 0) s ≡ 0
unfolding mark_of bit
mark_blank k s h = rw (get_or-replicate {A = ℕ} k (s / 8) 0 0 (omega arith), zero-div (2 ^ (s % 8)))
