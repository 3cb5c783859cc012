-- Document 01, "The two tables": records, levels and the state of a store. A key is a docket, 0 to 65,535; a value is a tally.
-- S is a tag that every record carries, later its slot; A is the type of a tally.
use Rattle.std.specs.Prelude.{Bool, true, false, List, [], ℕ, suc, ◌+◌, length, get_or, replicate}
use Rattle.lists.specs.Lists.{sum}
use Rattle.settings.specs.declared.Settings.{Settings}

-- What a point record says of its docket: a put with its tally (kind 1), or a delete (kind 2).
pub data Entry (A : Type 0) : Type 0 where
  value : A → Entry A
  tombstone : Entry A

-- A point record. Its key is the docket; "the stamp, which is the clock of the write".
pub record Point (S A : Type 0) : Type 0 where
  pub slot : S
  pub key : ℕ
  pub entry : Entry A
  pub stamp : ℕ

-- A range record (kind 3): a delete of the dockets from lo to hi, "both included", of what was put up to its date.
pub record Range (S : Type 0) : Type 0 where
  pub slot : S
  pub lo : ℕ
  pub hi : ℕ
  pub date : ℕ
  pub stamp : ℕ

-- "Owed is the earliest clock of any delete that came into the level, itself or through merges,
-- since the level was last emptied; 0 if none."
pub record Level (S A : Type 0) : Type 0 where
  pub points : List (Point S A)
  pub ranges : List (Range S)
  pub owed : ℕ

-- The last accepted clock, the free slots in the order of the free chain, and levels 0 to L.
pub record State (S A : Type 0) : Type 0 where
  pub settings : Settings
  pub clock : ℕ
  pub free : List S
  pub levels : List (Level S A)

module _ {A : Type 0} where
  abbrev pub is_put : Entry A → Bool
  is_put (value a) = true
  is_put tombstone = false

module _ {S A : Type 0} where
  -- A level of no record: its whole row is zero.
  abbrev pub empty : Level S A
  empty = record { points = []; ranges = []; owed = 0 }

  -- Level i; level 0 is the buffer.
  abbrev pub level : ℕ → State S A → Level S A
  level i s = get_or s.levels i empty

  -- The state with other free slots and levels.
  abbrev pub stored : State S A → List S → List (Level S A) → State S A
  stored s free levels = record { settings = s.settings; clock = s.clock; free = free; levels = levels }

  -- "Held is the number of records": of a level, and of all levels.
  abbrev pub held : Level S A → ℕ
  held l = length l.points + length l.ranges

  abbrev pub held_all : List (Level S A) → ℕ
  held_all ls = sum held ls

  -- A store just made, all of whose slots are free.
  unfoldable pub fresh : Settings → List S → State S A
  fresh settings slots =
      record { settings = settings; clock = 0; free = slots; levels = replicate (suc settings.deepest) empty }

module _ {A : Type 0} where
  -- The same without saying which slots: "N less all records as the free slots".
  abbrev pub slotless : ℕ → Settings → State (Unit {0}) A
  slotless n settings = fresh settings (replicate n tt)
