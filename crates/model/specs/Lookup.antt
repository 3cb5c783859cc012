-- Document 01, "Steps": lookup and scan, which write nothing.
use Rattle.std.specs.Prelude.{Bool, true, false, cond, List, [], ◌∷◌, ℕ, zero, suc, ◌-◌, max, leb, ltb, eqb, length, take, drop}
use Rattle.model.specs.Records.{Entry, value, tombstone, Point, Range, Level}
use Rattle.model.specs.Coverage.{over}

-- "Absent gives tally and stamp 0": the numbers of `absent` are given where a tally is a number.
pub data Found (A : Type 0) : Type 0 where
  absent : Found A
  found : A → ℕ → Found A

-- A row: "a docket, a tally and a stamp".
pub record Row (A : Type 0) : Type 0 where
  pub key : ℕ
  pub tally : A
  pub stamp : ℕ

-- What a scan gives: the rows that it fills and how many they are, 'more', and the next docket.
pub record Scan (A : Type 0) : Type 0 where
  pub rows : List (Row A)
  pub count : ℕ
  pub more : Bool
  pub next : ℕ

module _ {A : Type 0} where
  -- What a point says of its docket: a put its tally and its stamp, a delete that the docket is absent.
  abbrev pub reads : Entry A → ℕ → Found A
  reads (value a) t = found a t
  reads tombstone t = absent

  -- A live docket is one that a lookup finds.
  abbrev pub is_found : Found A → Bool
  is_found absent = false
  is_found (found a t) = true

  -- A docket's row before those of later dockets, if it is live.
  abbrev pub add_row : ℕ → Found A → List (Row A) → List (Row A)
  add_row k absent rows = rows
  add_row k (found a t) rows = record { key = k; tally = a; stamp = t } ∷ rows

  -- The rows of the live dockets among n from k on, ascending.
  unfoldable pub live_from : (ℕ → Found A) → ℕ → ℕ → List (Row A)
  live_from look k zero = []
  live_from look k (suc n) = add_row k (look k) (live_from look (suc k) n)

  -- "the live dockets from lo to hi"
  abbrev pub live : (ℕ → Found A) → ℕ → ℕ → List (Row A)
  live look lo hi = live_from look lo (suc hi - lo)

  abbrev pub first_key : List (Row A) → ℕ
  first_key [] = 0
  first_key (r ∷ rs) = r.key

  -- "It says 'more', with the next live docket, exactly when live dockets outnumber the rows;
  -- otherwise the next docket is given as 0."
  unfoldable pub scan : (ℕ → Found A) → ℕ → ℕ → ℕ → Scan A
  scan look lo hi room =
      let rows = live look lo hi in
      record {
        rows = take room rows;
        count = length (take room rows);
        more = ltb room (length rows);
        next = first_key (drop room rows);
      }

module _ {S : Type 0} where
  -- The latest date of the ranges over a docket; 0 where there is none, which no stamp is at or below.
  unfoldable pub latest : List (Range S) → ℕ → ℕ
  latest [] k = 0
  latest (r ∷ rs) k = cond (over r.lo r.hi k) (max r.date (latest rs k)) (latest rs k)

module _ {A : Type 0} where
  -- "a point found deeper with a stamp at or below it is absent"
  abbrev pub judged : ℕ → Entry A → ℕ → Found A
  judged date x stamp = cond (leb stamp date) absent (reads x stamp)

module _ {S A : Type 0} where
  -- What the points of a level decide of a docket, or else what the deeper levels do.
  unfoldable pub find : ℕ → List (Point S A) → ℕ → Found A → Found A
  find date [] k deeper = deeper
  find date (p ∷ ps) k deeper = cond (eqb p.key k) (judged date p.entry p.stamp) (find date ps k deeper)

  -- "The first level with a point of the docket decides"; "a lookup carries the latest s met so far for its docket".
  unfoldable pub lookup_from : ℕ → List (Level S A) → ℕ → Found A
  lookup_from date [] k = absent
  lookup_from date (l ∷ ls) k = find date l.points k (lookup_from (max date (latest l.ranges k)) ls k)

  abbrev pub lookup : List (Level S A) → ℕ → Found A
  lookup ls k = lookup_from 0 ls k
