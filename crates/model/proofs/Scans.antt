-- What a scan lists: exactly the live dockets from lo to hi, ascending.
use mathlib.Core.Path.{◌≡◌, refl}
use mathlib.Core.Logic.{◌↔◌}
use mathlib.Core.Bool.{Bool, true, false, false≢true}
use mathlib.Core.List.{List, [], ◌∷◌}
use Prim.Native.Nat.{ℕ, zero, suc, ◌+◌, ◌-◌, ◌≤◌, ◌<◌}
use native.Mathlib.Omega.{arith}
use native.Mathlib.Decide.{ℕ_discrete}
use lib.Dec.{ltb, eqb}
use lib.ListN.{length, drop}
use borrow.Author.Tests.{eq-eqb, lt-ltb, ltb-true, ltb-false}
use Rattle.lists.specs.Lists.{any}
use Rattle.lists.specs.All.{All, Ascending}
use Rattle.lists.proofs.Bools.{or_left, or_right}
use Rattle.lists.proofs.Tests.{all_weaken}
use Rattle.model.specs.Lookup.{Found, absent, found, is_found, Row, add_row, live_from, live, first_key, scan}
use Rattle.model.specs.PlainMap.{has_key}

module _ {A : Type 0} where
  abbrev pub row_before : Row A → Row A → Bool
  row_before r q = ltb r.key q.key

  -- A row tells what the lookup finds, of a docket from k to before m.
  pub record Listed (look : ℕ → Found A) (k m : ℕ) (r : Row A) : Type 0 where
    pub tells : look r.key ≡ found r.tally r.stamp
    pub low : k ≤ r.key
    pub high : r.key < m

  module _ (look : ℕ → Found A) where
    add_all : (P : Row A → Type 0) (k : ℕ) (v : Found A) (rs : List (Row A)) → look k ≡ v
        → ((a : A) (t : ℕ) → look k ≡ found a t → P (record { key = k; tally = a; stamp = t })) → All P rs → All P (add_row k v rs)
    add_all P k absent rs e h a = a
    add_all P k (found b t) rs e h a = (h b t e, a)

    live_from_listed : (n k : ℕ) → All (Listed look k (k + n)) (live_from look k n)
    unfolding live_from
    live_from_listed zero k = tt
    live_from_listed (suc n) k = add_all (Listed look k (k + suc n)) k (look k) (live_from look (suc k) n) refl
        (λ a t e. record { tells = e; low = omega arith; high = omega arith })
        (all_weaken _ _ (λ r l. record { tells = l.tells; low = omega (arith, l.low); high = omega (arith, l.high) }) (live_from look (suc k) n) (live_from_listed n (suc k)))

    live_from_ascends : (n k : ℕ) → Ascending row_before (live_from look k n)
    unfolding live_from
    live_from_ascends zero k = tt
    live_from_ascends (suc n) k = go (look k) (live_from_ascends n (suc k))
      where
        rest : List (Row A)
        rest = live_from look (suc k) n

        above : All (λ (r : Row A). ltb k r.key ≡ true) rest
        above = all_weaken _ _ (λ r l. lt-ltb k r.key (omega (arith, l.low))) rest (live_from_listed n (suc k))

        go : (v : Found A) → Ascending row_before rest → Ascending row_before (add_row k v rest)
        go absent ih = ih
        go (found a t) ih = (above, ih)

    has_added : (j k : ℕ) (v : Found A) (rs : List (Row A)) → any (has_key j) rs ≡ true → any (has_key j) (add_row k v rs) ≡ true
    unfolding any
    has_added j k absent rs h = h
    has_added j k (found a t) rs h = or_right (eqb k j) _ h

    own_added : (k : ℕ) (v : Found A) (rs : List (Row A)) → is_found v ≡ true → any (has_key k) (add_row k v rs) ≡ true
    unfolding any
    own_added k absent rs h = absurd (false≢true h)
    own_added k (found a t) rs h = or_left (eqb k k) _ (eq-eqb k k refl)

    live_from_complete : (n k j : ℕ) → k ≤ j → j < k + n → is_found (look j) ≡ true → any (has_key j) (live_from look k n) ≡ true
    unfolding live_from
    live_from_complete zero k j a b h = absurd (omega arith)
    live_from_complete (suc n) k j a b h = go (ℕ_discrete k j) (live_from_complete n (suc k) j)
      where
        go : Dec (k ≡ j) → (suc k ≤ j → j < suc k + n → is_found (look j) ≡ true → any (has_key j) (live_from look (suc k) n) ≡ true)
            → any (has_key j) (add_row k (look k) (live_from look (suc k) n)) ≡ true
        go (yes e) ih = rw (← e) (own_added k (look k) (live_from look (suc k) n) (rw e h))
        go (no e) ih = has_added j k (look k) (live_from look (suc k) n) (ih (omega arith) (omega arith) h)

    module _ (lo hi : ℕ) (order : lo ≤ hi) where
      -- Every row is a live docket in the range, every such docket has a row, and the rows ascend.
      pub live_listed : All (Listed look lo (suc hi)) (live look lo hi)
      live_listed = all_weaken _ _ (λ r l. record { tells = l.tells; low = l.low; high = omega (arith, l.high) }) (live look lo hi) (live_from_listed (suc hi - lo) lo)

      pub live_ascends : Ascending row_before (live look lo hi)
      live_ascends = live_from_ascends (suc hi - lo) lo

      pub live_complete : (j : ℕ) → lo ≤ j → j ≤ hi → is_found (look j) ≡ true → any (has_key j) (live look lo hi) ≡ true
      live_complete j a b h = live_from_complete (suc hi - lo) lo j a (omega arith) h

  -- Scans of lookups that agree agree.
  live_from_same : (f g : ℕ → Found A) → ((k : ℕ) → f k ≡ g k) → (n k : ℕ) → live_from f k n ≡ live_from g k n
  unfolding live_from
  live_from_same f g h zero k = refl
  live_from_same f g h (suc n) k = rw (h k, live_from_same f g h n (suc k))

  pub scan_same : (f g : ℕ → Found A) → ((k : ℕ) → f k ≡ g k) → (lo hi room : ℕ) → scan f lo hi room ≡ scan g lo hi room
  unfolding scan
  scan_same f g h lo hi room = rw (live_from_same f g h (suc hi - lo) lo)

  -- 'more' exactly when the live dockets outnumber the rows, and then the next docket is the first that has no row.
  pub more_exactly : (look : ℕ → Found A) (lo hi room : ℕ) → ((scan look lo hi room).more ≡ true) ↔ (room < length (live look lo hi))
  unfolding scan
  more_exactly look lo hi room = (ltb-true room (length (live look lo hi)), lt-ltb room (length (live look lo hi)))

  first_of_drop : (rs : List (Row A)) (n : ℕ) → length rs ≤ n → first_key (drop n rs) ≡ 0
  first_of_drop [] zero h = refl
  first_of_drop [] (suc n) h = refl
  first_of_drop (r ∷ rs) zero h = absurd (omega arith)
  first_of_drop (r ∷ rs) (suc n) h = first_of_drop rs n (omega arith)

  pub next_else_zero : (look : ℕ → Found A) (lo hi room : ℕ) → (scan look lo hi room).more ≡ false → (scan look lo hi room).next ≡ 0
  unfolding scan
  next_else_zero look lo hi room h = first_of_drop (live look lo hi) room (ltb-false room (length (live look lo hi)) h)
