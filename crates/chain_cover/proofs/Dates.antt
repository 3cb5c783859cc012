-- Laws of the walk for the latest date: what each turn adds, that it finds the date, and up to where the date stays the latest.
use mathlib.Core.Path.{◌≡◌, refl, ◌∙◌}
use mathlib.Core.Logic.{◌≢◌}
use mathlib.Core.Bool.{true, false, ◌&&◌}
use mathlib.Core.List.{List, [], ◌∷◌, map}
use Prim.Native.Nat.{ℕ, ◌<◌, ◌≤◌, max}
use native.Mathlib.Omega.{arith}
use native.Mathlib.Decide.{dec_lt}
use borrow.Author.Tests.{le-leb, lt-leb, lt-ltb, le-ltb, leb-true, ltb-true, ltb-false}
use lib.Dec.{leb, ltb}
use Rattle.lists.specs.All.{All}
use Rattle.lists.proofs.Bools.{cond_elim, and_left, and_false_right}
use Rattle.lists.proofs.Tests.{all_weaken, all_every}
use Rattle.model.specs.Coverage.{over}
use Rattle.model.specs.Lookup.{latest}
use Rattle.model.proofs.Coverage.{over_before, over_inside, over_past}
use Rattle.tables.specs.Slots.{next_of, lo_of, hi_of, date_of}
use Rattle.tables.specs.Words.{Fits32}
use Rattle.tables.specs.Sound.{chain_from, ascend}
use Rattle.tables.specs.Placed.{read_range}
use Rattle.tables.proofs.Slots.{hi_small}
use Rattle.chain_cover.specs.declared.Front.{Front}
use Rattle.chain_cover.specs.declared.Latest.{Latest}
use Rattle.chain_cover.specs.Fronts.{front_slots}
use Rattle.chain_cover.specs.Dates.{no_date, met, surveyed}
use Rattle.chain_cover.proofs.Chains.{On, chain_end, ascend_past, ascend_rest}
use Rattle.chain_cover.proofs.Fronts.{front_none, front_some}

-- The latest date of the ranges at some slots over docket k.
abbrev pub latest_at : List ℕ → List ℕ → ℕ → ℕ
latest_at e ss k = latest (map (read_range e) ss) k

-- A range that is met: one that has ended, one whose date is no later, and one that counts.
module _ (e : List ℕ) (k s : ℕ) (m : Latest) where
  pub met_ended : hi_of e s < k → met e k s m ≡ m
  unfolding met
  met_ended lt = rw (lt-leb k (hi_of e s) lt)

  pub met_older : date_of e s ≤ m.date → met e k s m ≡ m
  unfolding met
  met_older le = rw (le-ltb m.date (date_of e s) le, and_false_right (leb k (hi_of e s)) false refl)

  pub met_later : k ≤ hi_of e s → m.date < date_of e s → met e k s m ≡ record { date = date_of e s; last = hi_of e s; next = m.next }
  unfolding met
  met_later le lt = rw (le-leb k (hi_of e s) le, lt-ltb m.date (date_of e s) lt)

-- One turn of the walk, and its ends.
module _ (e : List ℕ) (k : ℕ) where
  pub surveyed_none : (m : Latest) → surveyed e k [] m ≡ m
  unfolding surveyed
  surveyed_none m = refl

  module _ (s : ℕ) (ss : List ℕ) (m : Latest) where
    pub surveyed_past : k < lo_of e s → surveyed e k (s ∷ ss) m ≡ record { date = m.date; last = m.last; next = lo_of e s }
    unfolding surveyed
    surveyed_past lt = rw (lt-ltb k (lo_of e s) lt)

    pub surveyed_next : lo_of e s ≤ k → surveyed e k (s ∷ ss) m ≡ surveyed e k ss (met e k s m)
    unfolding surveyed
    surveyed_next le = rw (le-ltb k (lo_of e s) le)

-- The same of a chain.
module _ (e : List ℕ) (k h : ℕ) (m : Latest) where
  pub walk_end : h ≡ 0 → surveyed e k (chain_from e h) m ≡ m
  walk_end z = rw (chain_end e h z) (surveyed_none e k m)

  module _ (on : On e h) where
    pub walk_past : k < lo_of e h → surveyed e k (chain_from e h) m ≡ record { date = m.date; last = m.last; next = lo_of e h }
    walk_past lt = rw on.whole (surveyed_past e k h (chain_from e (next_of e h)) m lt)

    pub walk_next : lo_of e h ≤ k → surveyed e k (chain_from e h) m ≡ surveyed e k (chain_from e (next_of e h)) (met e k h m)
    walk_next le = rw on.whole (surveyed_next e k h (chain_from e (next_of e h)) m le)

-- And of a front.
module _ (e : List ℕ) (k : ℕ) (f : Front) (m : Latest) where
  pub front_met_none : f.first ≡ 0 → surveyed e k (front_slots e f) m ≡ m
  front_met_none z = rw (front_none e f z) (surveyed_none e k m)

  module _ (nz : f.first ≢ 0) where
    pub front_met_past : k < lo_of e f.first → surveyed e k (front_slots e f) m ≡ record { date = m.date; last = m.last; next = lo_of e f.first }
    front_met_past lt = rw (front_some e f nz) (surveyed_past e k f.first (chain_from e f.behind) m lt)

    pub front_met_next : lo_of e f.first ≤ k → surveyed e k (front_slots e f) m ≡ surveyed e k (chain_from e f.behind) (met e k f.first m)
    front_met_next le = rw (front_some e f nz) (surveyed_next e k f.first (chain_from e f.behind) m le)

-- Ranges past the docket have no date for it; one more range.
latest_past : (e : List ℕ) (k : ℕ) (ss : List ℕ) → All (λ s. k < lo_of e s) ss → latest_at e ss k ≡ 0
unfolding latest
latest_past e k [] a = refl
latest_past e k (s ∷ ss) a = rw (over_before (lo_of e s) (hi_of e s) k a.0) (latest_past e k ss a.1)

module _ (e : List ℕ) (k s : ℕ) (ss : List ℕ) where
  latest_on : lo_of e s ≤ k → k ≤ hi_of e s → latest_at e (s ∷ ss) k ≡ max (date_of e s) (latest_at e ss k)
  unfolding latest
  latest_on from upto = rw (over_inside (lo_of e s) (hi_of e s) k from upto)

  latest_off : hi_of e s < k → latest_at e (s ∷ ss) k ≡ latest_at e ss k
  unfolding latest
  latest_off past = rw (over_past (lo_of e s) (hi_of e s) k past)

  latest_more : latest_at e ss k ≤ latest_at e (s ∷ ss) k
  unfolding latest
  latest_more = cond_elim (λ d. latest_at e ss k ≤ d) (over (lo_of e s) (hi_of e s) k) _ _ (λ p. omega arith) (λ p. omega arith)

module _ (e : List ℕ) (words : Fits32 e) (k : ℕ) where
  -- The date that a range met leaves.
  met-date : (s : ℕ) (ss : List ℕ) (m : Latest) → lo_of e s ≤ k → max (met e k s m).date (latest_at e ss k) ≡ max m.date (latest_at e (s ∷ ss) k)
  met-date s ss m from = go (dec_lt (hi_of e s) k) (dec_lt m.date (date_of e s))
    where
      go : Dec (hi_of e s < k) → Dec (m.date < date_of e s) → max (met e k s m).date (latest_at e ss k) ≡ max m.date (latest_at e (s ∷ ss) k)
      go (yes past) d = rw (met_ended e k s m past, latest_off e k s ss past)
      go (no upto) (yes later) = rw (met_later e k s m (omega arith) later, latest_on e k s ss from (omega arith)) (omega arith)
      go (no upto) (no older) = rw (met_older e k s m (omega arith), latest_on e k s ss from (omega arith)) (omega arith)

  -- The walk finds the latest date.
  surveyed-date : (least : ℕ) (ss : List ℕ) (m : Latest) → ascend e least ss ≡ true → (surveyed e k ss m).date ≡ max m.date (latest_at e ss k)
  unfolding surveyed latest
  surveyed-date least [] m a = omega arith
  surveyed-date least (s ∷ ss) m a = go (dec_lt k (lo_of e s)) (surveyed-date least ss (met e k s m) (ascend_rest e least s ss a))
    where
      go : Dec (k < lo_of e s) → (surveyed e k ss (met e k s m)).date ≡ max (met e k s m).date (latest_at e ss k)
          → (surveyed e k (s ∷ ss) m).date ≡ max m.date (latest_at e (s ∷ ss) k)
      go (yes lt) rest = rw (surveyed_past e k s ss m lt, latest_past e k (s ∷ ss) (ascend_past e words k least s ss lt a)) (omega arith)
      go (no ge) rest = rw (surveyed_next e k s ss m (omega arith)) (rest ∙ met-date s ss m (omega arith))

  pub surveyed_latest : (ss : List ℕ) → ascend e 0 ss ≡ true → (surveyed e k ss no_date).date ≡ latest_at e ss k
  surveyed_latest ss a = omega (arith, surveyed-date 0 ss no_date a)

  -- Before the next range no other is met, so that no date is later than at docket k.
  surveyed_before : (least : ℕ) (ss : List ℕ) (m : Latest) → ascend e least ss ≡ true → (j : ℕ) → k ≤ j → j < (surveyed e k ss m).next
      → latest_at e ss j ≤ latest_at e ss k
  unfolding latest
  surveyed_before least [] m a j le lt = omega arith
  surveyed_before least (s ∷ ss) m a j le lt = go (dec_lt k (lo_of e s)) (surveyed_before least ss (met e k s m) (ascend_rest e least s ss a) j le) lt
    where
      go : Dec (k < lo_of e s) → (j < (surveyed e k ss (met e k s m)).next → latest_at e ss j ≤ latest_at e ss k)
          → j < (surveyed e k (s ∷ ss) m).next → latest_at e (s ∷ ss) j ≤ latest_at e (s ∷ ss) k
      go (yes before) rest lt =
          let far : j < lo_of e s = rw (surveyed_past e k s ss m before) at lt in
          rw (latest_past e j (s ∷ ss) (ascend_past e words j least s ss far a)) (omega arith)
      go (no from) rest lt = ends (dec_lt (hi_of e s) j) (rest (rw (surveyed_next e k s ss m (omega arith)) at lt))
        where
          ends : Dec (hi_of e s < j) → latest_at e ss j ≤ latest_at e ss k → latest_at e (s ∷ ss) j ≤ latest_at e (s ∷ ss) k
          ends (yes past) less = rw (latest_off e j s ss past) (omega (arith, latest_more e k s ss))
          ends (no upto) less = rw (latest_on e j s ss (omega arith) (omega arith), latest_on e k s ss (omega arith) (omega arith)) (omega arith)

-- What holds of the date and of the last docket that were met before, and of those of each range over the docket, holds of those that are met.
module _ (e : List ℕ) (k : ℕ) (P : ℕ → ℕ → Type 0) where
  met_holds : (s : ℕ) (m : Latest) → P m.date m.last → (k ≤ hi_of e s → P (date_of e s) (hi_of e s)) → P (met e k s m).date (met e k s m).last
  unfolding met
  met_holds s m p q =
      cond_elim (λ (l : Latest). P l.date l.last) (leb k (hi_of e s) && ltb m.date (date_of e s))
      (record { date = date_of e s; last = hi_of e s; next = m.next }) m
      (λ t. q (leb-true k (hi_of e s) (and_left (leb k (hi_of e s)) (ltb m.date (date_of e s)) t))) (λ t. p)

  surveyed_holds : (ss : List ℕ) (m : Latest) → P m.date m.last → All (λ s. lo_of e s ≤ k → k ≤ hi_of e s → P (date_of e s) (hi_of e s)) ss
      → P (surveyed e k ss m).date (surveyed e k ss m).last
  unfolding surveyed
  surveyed_holds [] m p a = p
  surveyed_holds (s ∷ ss) m p a =
      cond_elim (λ (l : Latest). P l.date l.last) (ltb k (lo_of e s)) (record { date = m.date; last = m.last; next = lo_of e s }) (surveyed e k ss (met e k s m))
      (λ t. p) (λ t. surveyed_holds ss (met e k s m) (met_holds s m p (a.0 (ltb-false k (lo_of e s) t))) a.1)

-- The next range begins past the docket.
module _ (e : List ℕ) (k : ℕ) where
  met_next : (s : ℕ) (m : Latest) → (met e k s m).next ≡ m.next
  unfolding met
  met_next s m =
      cond_elim (λ (l : Latest). l.next ≡ m.next) (leb k (hi_of e s) && ltb m.date (date_of e s))
      (record { date = date_of e s; last = hi_of e s; next = m.next }) m (λ t. refl) (λ t. refl)

  surveyed_ahead : (ss : List ℕ) (m : Latest) → k < m.next → k < (surveyed e k ss m).next
  unfolding surveyed
  surveyed_ahead [] m h = h
  surveyed_ahead (s ∷ ss) m h =
      cond_elim (λ (l : Latest). k < l.next) (ltb k (lo_of e s)) (record { date = m.date; last = m.last; next = lo_of e s }) (surveyed e k ss (met e k s m))
      (λ t. ltb-true k (lo_of e s) t) (λ t. surveyed_ahead ss (met e k s m) (rw (met_next s m) h))

-- A range has its date over each of its dockets.
dates_from : (e : List ℕ) (d : ℕ → ℕ) (ss : List ℕ) → ((j : ℕ) → latest_at e ss j ≤ d j)
    → All (λ s. (j : ℕ) → lo_of e s ≤ j → j ≤ hi_of e s → date_of e s ≤ d j) ss
dates_from e d [] h = tt
dates_from e d (s ∷ ss) h =
    (λ j from upto. omega (arith, latest_on e j s ss from upto, h j), dates_from e d ss (λ j. omega (arith, latest_more e j s ss, h j)))

-- What the latest date over docket k says of dockets from there on: up to the next range none is later, and up to the end of the range that has it it is there.
pub record Dated (e ss : List ℕ) (k : ℕ) (l : Latest) : Type 0 where
  pub upto : (j : ℕ) → k ≤ j → j < l.next → latest_at e ss j ≤ l.date
  pub from : (j : ℕ) → k ≤ j → j ≤ l.last → l.date ≤ latest_at e ss j
  pub ahead : k < l.next
  pub reach : l.date ≢ 0 → k ≤ l.last
  pub low : l.last ≤ 65535

pub dated : (e : List ℕ) → Fits32 e → (ss : List ℕ) → ascend e 0 ss ≡ true → (k : ℕ) → k ≤ 65535 → Dated e ss k (surveyed e k ss no_date)
dated e words ss a k last = record {
  upto = λ j kj h. omega (arith, surveyed_before e words k 0 ss no_date a j kj h, surveyed_latest e words k ss a);
  from = surveyed_holds e k (λ date end. (j : ℕ) → k ≤ j → j ≤ end → date ≤ latest_at e ss j) ss no_date (λ j kj h. omega arith)
      (all_weaken _ _ (λ s h low high j kj end. h j (omega arith) end) ss (dates_from e (latest_at e ss) ss (λ j. omega arith)));
  ahead = surveyed_ahead e k ss no_date (omega arith);
  reach = surveyed_holds e k (λ date end. date ≢ 0 → k ≤ end) ss no_date (λ nz. absurd (nz refl)) (all_every _ (λ s low high nz. high) ss);
  low = surveyed_holds e k (λ date end. end ≤ 65535) ss no_date (omega arith) (all_every _ (λ s low high. omega (arith, hi_small e words s)) ss);
}
