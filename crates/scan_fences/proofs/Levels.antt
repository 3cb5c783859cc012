-- The fronts of levels among some slots, and the latest date of levels.
use mathlib.Core.Path.{◌≡◌, refl, ◌∙◌}
use mathlib.Core.Logic.{◌≢◌}
use mathlib.Core.List.{List}
use Prim.Native.Nat.{ℕ, zero, suc, ◌+◌, ◌*◌, ◌<◌, ◌≤◌, max}
use native.Mathlib.Omega.{arith}
use native.Mathlib.Decide.{ℕ_discrete}
use lib.ListN.{length, set, length-set}
use lib.Seq.{get_or-set_same, get_or-set_other}
use Rattle.tables.specs.Slots.{entry_length}
use Rattle.chain_cover.specs.declared.Front.{Front}
use Rattle.chain_cover.specs.Fronts.{FrontOrdered}
use Rattle.chain_cover.proofs.Chains.{go_on}
use Rattle.scan_fences.specs.Fences.{front_in, put_front, Ready, slots_latest, levels_latest}

-- A front is found where it was put, and the others stay.
module _ (ranges : List ℕ) (i : ℕ) (f : Front) where
  pub put_length : length (put_front ranges i f) ≡ length ranges
  put_length = length-set (set ranges (2 * i) f.first) (2 * i + 1) f.behind ∙ length-set ranges (2 * i) f.first

  pub put_same : 2 * i + 1 < length ranges → front_in (put_front ranges i f) i ≡ f
  put_same room =
      rw (
        get_or-set_other (set ranges (2 * i) f.first) (2 * i + 1) (2 * i) f.behind 0 (λ q. omega arith),
        get_or-set_same ranges (2 * i) f.first 0 (omega arith),
        get_or-set_same (set ranges (2 * i) f.first) (2 * i + 1) f.behind 0 (rw (length-set ranges (2 * i) f.first) room),
      )

  pub put_other : (m : ℕ) → m ≢ i → front_in (put_front ranges i f) m ≡ front_in ranges m
  put_other m other =
      rw (
        get_or-set_other (set ranges (2 * i) f.first) (2 * i + 1) (2 * m) f.behind 0 (λ q. omega arith),
        get_or-set_other ranges (2 * i) (2 * m) f.first 0 (λ q. other (omega arith)),
        get_or-set_other (set ranges (2 * i) f.first) (2 * i + 1) (2 * m + 1) f.behind 0 (λ q. other (omega arith)),
        get_or-set_other ranges (2 * i) (2 * m + 1) f.first 0 (λ q. omega arith),
      )

-- One of n levels has another front.
pub put_ready : {e ranges : List ℕ} {n : ℕ} → Ready e ranges n → (i : ℕ) (f : Front) → i < n → FrontOrdered e f → Ready e (put_front ranges i f) n
put_ready {e} {ranges} {n} r i f lt o = record { size = r.size; few = r.few; room = rw (put_length ranges i f) r.room; order = λ m h. go m h (ℕ_discrete m i) }
  where
    go : (m : ℕ) → m < n → Dec (m ≡ i) → FrontOrdered e (front_in (put_front ranges i f) m)
    go m h (yes q) = rw (q, put_same ranges i f (omega (arith, r.room))) o
    go m h (no q) = rw (put_other ranges i f m q) (r.order m h)

-- The slots of a front are those of the table.
module _ {e : List ℕ} {f : Front} (o : FrontOrdered e f) (size : length e ≤ entry_length 65535) where
  pub first_low : f.first ≤ 65535
  first_low = go (ℕ_discrete f.first 0)
    where
      go : Dec (f.first ≡ 0) → f.first ≤ 65535
      go (yes z) = omega arith
      go (no some) = omega (arith, o.within some)

  pub behind_low : f.behind ≤ 65535
  behind_low = go (ℕ_discrete f.behind 0)
    where
      go : Dec (f.behind ≡ 0) → f.behind ≤ 65535
      go (yes z) = omega arith
      go (no some) = omega (arith, (go_on e f.behind o.rest some).within)

-- The latest date of levels i to before i + n.
module _ (e : List ℕ) (r : ℕ → List ℕ) (k : ℕ) where
  pub latest_none_later : (d n i : ℕ) → ((m : ℕ) → i ≤ m → m < i + n → slots_latest e (r m) k ≤ d) → levels_latest e r k n i ≤ d
  unfolding levels_latest
  latest_none_later d zero i none = omega arith
  latest_none_later d (suc n) i none =
      omega (arith, none i (omega arith) (omega arith), latest_none_later d n (suc i) (λ m a b. none m (omega arith) (omega arith)))

  pub latest_includes : (n i m : ℕ) → i ≤ m → m < i + n → slots_latest e (r m) k ≤ levels_latest e r k n i
  unfolding levels_latest
  latest_includes zero i m le lt = absurd (omega arith)
  latest_includes (suc n) i m le lt = go (ℕ_discrete m i) (latest_includes n (suc i) m)
    where
      go : Dec (m ≡ i) → (suc i ≤ m → m < suc i + n → slots_latest e (r m) k ≤ levels_latest e r k n (suc i))
          → slots_latest e (r m) k ≤ max (slots_latest e (r i) k) (levels_latest e r k n (suc i))
      go (yes q) next = rw q (omega arith)
      go (no q) next = omega (arith, next (omega arith) (omega arith))

-- Levels with the same latest dates.
pub latest_same : (e : List ℕ) (r q : ℕ → List ℕ) (k n i : ℕ) → ((m : ℕ) → i ≤ m → m < i + n → slots_latest e (r m) k ≡ slots_latest e (q m) k)
    → levels_latest e r k n i ≡ levels_latest e q k n i
unfolding levels_latest
latest_same e r q k zero i same = refl
latest_same e r q k (suc n) i same =
    rw (same i (omega arith) (omega arith), latest_same e r q k n (suc i) (λ m a b. same m (omega arith) (omega arith)))
