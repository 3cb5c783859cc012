-- The laws of coverage. Only these see its definition: all else goes by them.
use mathlib.Core.Path.{◌≡◌}
use mathlib.Core.Bool.{true, false}
use Prim.Native.Nat.{ℕ, ◌<◌, ◌≤◌}
use native.Mathlib.Omega.{arith}
use lib.Dec.{eqb, leb}
use borrow.Author.Tests.{le-leb, lt-leb, eq-eqb, eqb-true, leb-true}
use Rattle.settings.proofs.Allowed.{within_bounds, within-true}
use Rattle.lists.proofs.Bools.{and_left, and_right, and_false_right, bool_ext}
use Rattle.model.specs.Coverage.{over, covers}

module _ (lo hi k : ℕ) where
  pub over_inside : lo ≤ k → k ≤ hi → over lo hi k ≡ true
  unfolding over
  over_inside low high = within-true lo k hi low high

  pub over_before : k < lo → over lo hi k ≡ false
  unfolding over
  over_before before = rw (lt-leb lo k before)

  pub over_from : lo ≤ k → over lo hi k ≡ leb k hi
  unfolding over
  over_from low = rw (le-leb lo k low)

  pub over_past : hi < k → over lo hi k ≡ false
  unfolding over
  over_past past = and_false_right (leb lo k) (leb k hi) (lt-leb k hi past)

  pub over_bounds : over lo hi k ≡ true → (lo ≤ k) × (k ≤ hi)
  unfolding over
  over_bounds h = within_bounds lo k hi h

-- A range covers by docket and stamp.
module _ (lo hi date k stamp : ℕ) where
  pub covers-true : over lo hi k ≡ true → stamp ≤ date → covers lo hi date k stamp ≡ true
  unfolding covers
  covers-true is upto = rw (is, le-leb stamp date upto)

  pub covers_parts : covers lo hi date k stamp ≡ true → (over lo hi k ≡ true) × (stamp ≤ date)
  unfolding covers
  covers_parts h = (and_left (over lo hi k) (leb stamp date) h, leb-true stamp date (and_right (over lo hi k) (leb stamp date) h))

-- From a docket to itself is that docket alone.
pub over_one : (n k : ℕ) → over n n k ≡ eqb n k
over_one n k = bool_ext (over n n k) (eqb n k)
    (λ h. let b = over_bounds n n k h in eq-eqb n k (omega arith))
    (λ h. let e = eqb-true n k h in over_inside n n k (omega arith) (omega arith))
