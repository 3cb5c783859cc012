-- The ranges that levels still have to come, as fronts in a list of slots: the latest date of those over a docket, and up to where.
use Rattle.std.specs.Prelude.{◌≡◌, cond, List, map, ℕ, zero, suc, ◌+◌, ◌*◌, ◌<◌, ◌≤◌, min, max, ltb, length, get_or, set}
use Rattle.lists.specs.Lists.{iterate}
use Rattle.model.specs.Lookup.{latest}
use Rattle.tables.specs.Slots.{entry_length}
use Rattle.tables.specs.Placed.{read_range}
use Rattle.chain_cover.specs.declared.Front.{Front}
use Rattle.chain_cover.specs.declared.Latest.{Latest}
use Rattle.chain_cover.specs.Fronts.{front_slots, advanced, FrontOrdered}
use Rattle.chain_cover.specs.Dates as walk
use Rattle.scan_fences.specs.declared.Seen.{Seen}
use Rattle.scan_fences.specs.declared.Cover.{Cover}

-- Two slots a level: the front of level i among some slots, and another in its place.
abbrev pub front_in : List ℕ → ℕ → Front
front_in ranges i = record { first = get_or ranges (2 * i) 0; behind = get_or ranges (2 * i + 1) 0 }

abbrev pub put_front : List ℕ → ℕ → Front → List ℕ
put_front ranges i f = set (set ranges (2 * i) f.first) (2 * i + 1) f.behind

-- The ranges that level i still has to come, by their slots.
abbrev pub ranges_in : List ℕ → List ℕ → ℕ → List ℕ
ranges_in e ranges i = front_slots e (front_in ranges i)

-- The table is no larger than it may be, there are no more levels than there may be and there is room for them, and each has its ranges in order.
pub record Ready (e ranges : List ℕ) (n : ℕ) : Type 0 where
  pub size : length e ≤ entry_length 65535
  pub few : n ≤ 7
  pub room : 2 * n ≤ length ranges
  pub order : (i : ℕ) → i < n → FrontOrdered e (front_in ranges i)

-- The latest date of the ranges of some slots over docket k, and of those of n levels from level i on, where r tells the slots of each.
abbrev pub slots_latest : List ℕ → List ℕ → ℕ → ℕ
slots_latest e ss k = latest (map (read_range e) ss) k

unfoldable pub levels_latest : List ℕ → (ℕ → List ℕ) → ℕ → ℕ → ℕ → ℕ
levels_latest e r k zero i = 0
levels_latest e r k (suc n) i = max (slots_latest e (r i) k) (levels_latest e r k n (suc i))

-- No date of n levels over docket k is later than the date, which is the latest of theirs where they are as many as it takes.
pub record Covering (e ranges : List ℕ) (date depth k n : ℕ) : Type 0 where
  pub upto : levels_latest e (ranges_in e ranges) k n 0 ≤ date
  pub is : depth ≤ n → levels_latest e (ranges_in e ranges) k n 0 ≡ date

-- Nothing is seen yet; or one level more, so many with it, where a later date than those above takes their place.
abbrev pub unseen : Seen
unseen = record { date = 0; depth = 0; last = 65535; next = 65536 }

abbrev pub sees : Seen → ℕ → Latest → Seen
sees s depth l =
    let next = min s.next l.next in
    cond (ltb s.date l.date) (record { date = l.date; depth = depth; last = l.last; next = next })
    (record { date = s.date; depth = s.depth; last = s.last; next = next })

-- The ranges still to come, and what was seen of some levels.
pub record Survey : Type 0 where
  pub ranges : List ℕ
  pub seen : Seen

-- Level i passes ranges that end before docket k, and is asked for it.
unfoldable pub survey_level : List ℕ → ℕ → ℕ → Survey → Survey
survey_level e k i v =
    let f = advanced e k (front_in v.ranges i) in
    record { ranges = put_front v.ranges i f; seen = sees v.seen (i + 1) (walk.surveyed e k (front_slots e f) walk.no_date) }

-- The ranges still to come, and what they are over.
pub record View : Type 0 where
  pub ranges : List ℕ
  pub cover : Cover

-- What was seen holds up to where a range begins, and to where the one with the latest date ends.
abbrev pub view : Survey → View
view v = record { ranges = v.ranges; cover = record { date = v.seen.date; depth = v.seen.depth; fence = min v.seen.next (v.seen.last + 1) } }

-- Each of n levels is asked for docket k.
unfoldable pub surveyed : List ℕ → ℕ → ℕ → List ℕ → View
surveyed e k n ranges = view (iterate (survey_level e k) 0 n (record { ranges = ranges; seen = unseen }))
