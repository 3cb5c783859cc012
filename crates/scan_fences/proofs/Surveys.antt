-- What a survey says: from the docket on the ranges say the same, and before the fence no level has a later date than the cover's.
use mathlib.Core.Path.{◌≡◌, refl, ◌∙◌}
use mathlib.Core.List.{List}
use Prim.Native.Nat.{ℕ, ◌+◌, ◌<◌, ◌≤◌, min}
use native.Mathlib.Nat.{zero-add}
use native.Mathlib.Numerals.{add-one}
use native.Mathlib.Omega.{arith}
use native.Mathlib.Decide.{ℕ_discrete}
use borrow.Author.Tests.{ltb-true, ltb-false}
use lib.Dec.{ltb}
use lib.ListN.{length}
use Rattle.lists.specs.Lists.{iterate}
use Rattle.lists.proofs.Loops.{iterate_holds}
use Rattle.lists.proofs.Bools.{cond_elim}
use Rattle.tables.specs.Words.{Fits32}
use Rattle.chain_cover.specs.declared.Front.{Front}
use Rattle.chain_cover.specs.declared.Latest.{Latest}
use Rattle.chain_cover.specs.Fronts.{front_slots, advanced}
use Rattle.chain_cover.specs.Dates as walk
use Rattle.chain_cover.proofs.Dates.{Dated, dated}
use Rattle.chain_cover.proofs.Fronts.{front_ascends, advanced_ordered, advanced-latest}
use Rattle.scan_fences.specs.declared.Seen.{Seen}
use Rattle.scan_fences.specs.Fences.{front_in, put_front, ranges_in, Ready, slots_latest, levels_latest, Covering, unseen, sees, Survey, survey_level, View, surveyed}
use Rattle.scan_fences.proofs.Levels.{put_length, put_same, put_other, put_ready, latest_none_later, latest_includes, latest_same}

-- What a turn makes of the ranges, and of what was seen.
pub level_surveyed : (e : List ℕ) (k i : ℕ) (v : Survey) (f : Front) → f ≡ advanced e k (front_in v.ranges i)
    → (l : Latest) → l ≡ walk.surveyed e k (front_slots e f) walk.no_date → (s : Seen) → s ≡ sees v.seen (i + 1) l
    → record { ranges = put_front v.ranges i f; seen = s } ≡ survey_level e k i v
unfolding survey_level
level_surveyed e k i v f passed l asked s seen = rw (seen, asked, passed)

-- What was seen of the first i levels of those whose ranges r tells, for docket k: up to where a range begins none of them has a later date,
-- and up to the last docket of its range as many levels as it takes have the date.
pub record Sees (e : List ℕ) (r : ℕ → List ℕ) (k i : ℕ) (s : Seen) : Type 0 where
  pub upto : (m j : ℕ) → m < i → k ≤ j → j < s.next → slots_latest e (r m) j ≤ s.date
  pub from : (n j : ℕ) → s.depth ≤ n → k ≤ j → j ≤ s.last → s.date ≤ levels_latest e r j n 0
  pub inside : s.depth ≤ i
  pub ahead : k < s.next
  pub reach : k ≤ s.last
  pub low : s.last ≤ 65535

module _ (e : List ℕ) (r : ℕ → List ℕ) (k : ℕ) where
  sees_none : k ≤ 65535 → Sees e r k 0 unseen
  sees_none last = record {
    upto = λ m j h kj before. absurd (omega arith);
    from = λ n j enough kj h. omega arith;
    inside = omega arith;
    ahead = omega arith;
    reach = last;
    low = omega arith;
  }

  -- One level more, whose ranges say for docket k what l says.
  module _ (i : ℕ) (s : Seen) (h : Sees e r k i s) (ss : List ℕ) (same : (j : ℕ) → k ≤ j → slots_latest e ss j ≡ slots_latest e (r i) j) (l : Latest) (d : Dated e ss k l) where
    abbrev next : ℕ
    next = min s.next l.next

    up : (date : ℕ) → s.date ≤ date → l.date ≤ date → (m j : ℕ) → m < i + 1 → k ≤ j → j < next → slots_latest e (r m) j ≤ date
    up date a b m j lt kj before = go (ℕ_discrete m i)
      where
        go : Dec (m ≡ i) → slots_latest e (r m) j ≤ date
        go (yes q) = rw (q, ← same j kj) (omega (arith, d.upto j kj (omega arith)))
        go (no q) = omega (arith, h.upto m j (omega arith) kj (omega arith))

    sees_later : s.date < l.date → Sees e r k (i + 1) (record { date = l.date; depth = i + 1; last = l.last; next = next })
    sees_later lt = record {
      upto = up l.date (omega arith) (omega arith);
      from = λ n j enough kj le. omega (arith, d.from j kj le, same j kj, latest_includes e r j n 0 i (omega arith) (omega arith));
      inside = omega arith;
      ahead = omega (arith, h.ahead, d.ahead);
      reach = d.reach (λ z. omega arith);
      low = d.low;
    }

    sees_no_later : l.date ≤ s.date → Sees e r k (i + 1) (record { date = s.date; depth = s.depth; last = s.last; next = next })
    sees_no_later le = record {
      upto = up s.date (omega arith) le;
      from = h.from;
      inside = omega (arith, h.inside);
      ahead = omega (arith, h.ahead, d.ahead);
      reach = h.reach;
      low = h.low;
    }

    sees_next : Sees e r k (i + 1) (sees s (i + 1) l)
    sees_next =
        cond_elim (Sees e r k (i + 1)) (ltb s.date l.date) _ _ (λ t. sees_later (ltb-true s.date l.date t))
        (λ t. sees_no_later (ltb-false s.date l.date t))

-- The latest date of m of n levels over a docket from k on, up to where what was seen holds.
module _ {e : List ℕ} {r : ℕ → List ℕ} {k n : ℕ} {s : Seen} (h : Sees e r k n s) (j m : ℕ) (kj : k ≤ j) (before : j < s.next) (some : m ≤ n) where
  seen_upto : levels_latest e r j m 0 ≤ s.date
  seen_upto = latest_none_later e r j s.date m 0 (λ i a b. h.upto i j (omega arith) kj before)

  seen_is : j ≤ s.last → s.depth ≤ m → levels_latest e r j m 0 ≡ s.date
  seen_is upto enough = omega (arith, seen_upto, h.from m j enough kj upto)

-- A survey for docket k of n levels, after the first i: from the docket on all ranges say what they said at the start.
pub record Surveying (e start : List ℕ) (k n i : ℕ) (v : Survey) : Type 0 where
  pub ready : Ready e v.ranges n
  pub same_length : length v.ranges ≡ length start
  pub says : (m j : ℕ) → m < n → k ≤ j → slots_latest e (ranges_in e v.ranges m) j ≡ slots_latest e (ranges_in e start m) j
  pub seen : Sees e (ranges_in e start) k i v.seen

module _ (e : List ℕ) (words : Fits32 e) (start : List ℕ) (k n : ℕ) (low : k ≤ 65535) where
  pub surveying_none : Ready e start n → Surveying e start k n 0 (record { ranges = start; seen = unseen })
  surveying_none r = record { ready = r; same_length = refl; says = λ m j h kj. refl; seen = sees_none e (ranges_in e start) k low }

  pub surveying_next : (i : ℕ) (v : Survey) → i < n → Surveying e start k n i v → Surveying e start k n (i + 1) (survey_level e k i v)
  unfolding survey_level
  surveying_next i v lt h =
      let f = advanced e k (front_in v.ranges i) in
      let o = advanced_ordered e k (front_in v.ranges i) (h.ready.order i lt) in
      record {
        ready = put_ready h.ready i f lt o;
        same_length = put_length v.ranges i f ∙ h.same_length;
        says = λ m j below kj. go m j below kj (ℕ_discrete m i);
        seen = sees_next e (ranges_in e start) k i v.seen h.seen (front_slots e f) (λ j kj. here j kj) _
            (dated e words (front_slots e f) (front_ascends e f o) k low);
      }
    where
      here : (j : ℕ) → k ≤ j → slots_latest e (front_slots e (advanced e k (front_in v.ranges i))) j ≡ slots_latest e (ranges_in e start i) j
      here j kj = advanced-latest e k (front_in v.ranges i) (h.ready.order i lt) j kj ∙ h.says i j lt kj

      go : (m j : ℕ) → m < n → k ≤ j → Dec (m ≡ i)
          → slots_latest e (ranges_in e (put_front v.ranges i (advanced e k (front_in v.ranges i))) m) j ≡ slots_latest e (ranges_in e start m) j
      go m j below kj (yes q) = rw (q, put_same v.ranges i (advanced e k (front_in v.ranges i)) (omega (arith, h.ready.room))) (here j kj)
      go m j below kj (no q) = rw (put_other v.ranges i (advanced e k (front_in v.ranges i)) m q) (h.says m j below kj)

-- What a survey of n levels for docket k leaves and says.
pub record Viewed (e ranges : List ℕ) (k n : ℕ) (v : View) : Type 0 where
  pub ready : Ready e v.ranges n
  pub same_length : length v.ranges ≡ length ranges
  pub says : (i j : ℕ) → i < n → k ≤ j → slots_latest e (ranges_in e v.ranges i) j ≡ slots_latest e (ranges_in e ranges i) j
  pub past : k < v.cover.fence
  pub covers : (j m : ℕ) → k ≤ j → j < v.cover.fence → m ≤ n → Covering e v.ranges v.cover.date v.cover.depth j m
  pub exact : levels_latest e (ranges_in e ranges) k n 0 ≡ v.cover.date

pub viewed : (e : List ℕ) → Fits32 e → (k n : ℕ) → k ≤ 65535 → (ranges : List ℕ) → Ready e ranges n → Viewed e ranges k n (surveyed e k n ranges)
unfolding surveyed
viewed e words k n low ranges r =
    let v : Survey = iterate (survey_level e k) 0 n (record { ranges = ranges; seen = unseen }) in
    let h : Surveying e ranges k n n v =
    rw (zero-add n) at
    (iterate_holds (survey_level e k) (Surveying e ranges k n) n 0 (record { ranges = ranges; seen = unseen })
    (λ i u _ lt g. rw (add-one i) at (surveying_next e words ranges k n low i u (omega arith) g)) (surveying_none e words ranges k n low r))
    in
    record {
      ready = h.ready;
      same_length = h.same_length;
      says = h.says;
      past = omega (arith, h.seen.ahead, h.seen.reach);
      covers = λ j m kj before some.
          let same = latest_same e (ranges_in e v.ranges) (ranges_in e ranges) j m 0 (λ i a b. h.says i j (omega arith) kj) in
          record {
            upto = rw same (seen_upto h.seen j m kj (omega arith) some);
            is = λ enough. same ∙ seen_is h.seen j m kj (omega arith) some (omega arith) enough;
          };
      exact = seen_is h.seen k n (omega arith) h.seen.ahead (omega arith) h.seen.reach h.seen.inside;
    }
