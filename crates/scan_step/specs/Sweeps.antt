-- A sweep over the levels: what it still has to come, the rows of the live dockets among it, and a step.
use Rattle.std.specs.Prelude.{◌≡◌, ◌≢◌, Option, None, Some, Bool, true, cond, ◌||◌, not, List, [], ◌∷◌, map, ℕ, zero, suc, ◌+◌, ◌*◌, ◌<◌, ◌≤◌, eqb, leb, ltb}
use Rattle.model.specs.declared.Tally.{Tally}
use Rattle.model.specs.Lookup.{Row, lookup, live}
use Rattle.model.specs.Records.{Level}
use Rattle.tables.specs.Slots.{InTable, kind_of, tally_of, stamp_of}
use Rattle.tables.specs.Sound.{chain_from}
use Rattle.tables.specs.Placed.{read_point, read_range}
use Rattle.scan_heads.specs.declared.Heads.{Heads}
use Rattle.scan_heads.specs.Heads.{key_of, level_of, passed, point, left, Fits}
use Rattle.scan_fences.specs.Fences.{ranges_in, Ready, levels_latest, Covering}
use Rattle.scan_step.specs.declared.Sweep.{Sweep}
use Rattle.scan_step.specs.declared.Live.{Live}

-- A level that has the points from slot p on to come, and the ranges at some slots.
abbrev pub coming_level : List ℕ → ℕ → List ℕ → Level ℕ Tally
coming_level e p rs = record { points = map (read_point e) (chain_from e p); ranges = map (read_range e) rs; owed = 0 }

-- What n levels from level i on have to come, where p and r tell the first point and the ranges of each.
unfoldable pub levels_from : List ℕ → (ℕ → ℕ) → (ℕ → List ℕ) → ℕ → ℕ → List (Level ℕ Tally)
levels_from e p r zero i = []
levels_from e p r (suc n) i = coming_level e (p i) (r i) ∷ levels_from e p r n (suc i)

-- What the levels still have to come.
abbrev pub to_come : List ℕ → Sweep → List (Level ℕ Tally)
to_come e m = levels_from e (point m.heads) (ranges_in e m.ranges) m.levels 0

-- The docket of the first record to come, and its level.
abbrev pub next_key : Sweep → ℕ
next_key m = key_of m.heads.first

abbrev pub next_level : Sweep → ℕ
next_level m = level_of m.heads.first

-- The latest date that the levels above the first record's have over its docket.
abbrev pub date_above : List ℕ → Sweep → ℕ
date_above e m = levels_latest e (ranges_in e m.ranges) (next_key m) (next_level m) 0

-- Whether that covers the record: its docket is absent.
abbrev pub is_hidden : List ℕ → Sweep → Bool
is_hidden e m = leb (stamp_of e m.heads.slot) (date_above e m)

-- Whether the sweep has come to a live docket.
abbrev pub is_live : Sweep → Bool
is_live m = eqb m.live 1

-- That docket, and the slot of its put.
abbrev pub live_of : Sweep → Option Live
live_of m = cond (is_live m) (Some (record { docket = m.key; slot = m.slot })) None

-- The heads are those of the levels, the ranges can be followed, the fence lies no farther than past hi, and before it the date is the latest over a docket to come
-- of as many levels as it takes; the live docket's slot is in the table.
pub record Sweeping (e : List ℕ) (m : Sweep) : Type 0 where
  pub points : Fits e m.levels m.heads
  pub ranges : Ready e m.ranges m.levels
  pub covers : (j n : ℕ) → next_key m ≤ j → j < m.fence → n ≤ m.levels → Covering e m.ranges m.date m.cover j n
  pub bound : m.fence ≤ m.hi + 1
  pub last : m.hi ≤ 65535
  pub here : is_live m ≡ true → InTable e m.slot

-- The same to come; the sweep is on its way, or has come to a live docket or to none.
abbrev pub told : Sweep → ℕ → ℕ → ℕ → ℕ → Sweep
told m going alive key slot = record {
  heads = m.heads;
  ranges = m.ranges;
  levels = m.levels;
  cover = m.cover;
  date = m.date;
  fence = m.fence;
  from = m.from;
  hi = m.hi;
  going = going;
  live = alive;
  key = key;
  slot = slot;
}

-- The same sweep, but for how it stands.
abbrev pub standing : Sweep → ℕ → Sweep
standing m going = told m going m.live m.key m.slot

-- On its way with other heads, from another docket on.
abbrev pub moved : Sweep → Heads → ℕ → Sweep
moved m heads from = record {
  heads = heads;
  ranges = m.ranges;
  levels = m.levels;
  cover = m.cover;
  date = m.date;
  fence = m.fence;
  from = from;
  hi = m.hi;
  going = 1;
  live = m.live;
  key = m.key;
  slot = m.slot;
}

-- The first record is passed: one of its docket was passed before, or its docket is not live, or is.
abbrev pub gone : List ℕ → Sweep → Sweep
gone e m =
    let k = next_key m in
    let s = m.heads.slot in
    let heads = passed e m.heads in
    let r = moved m heads (k + 1) in
    cond (ltb k m.from) (moved m heads m.from)
    (cond (is_hidden e m || not (eqb (kind_of e s) 1)) r (told r 0 1 k s))

-- The fence is reached, or the latest date is no earlier than the record's stamp; or else no level hides the record, and it is passed.
abbrev pub doubtful : List ℕ → Sweep → Bool
doubtful e m = leb m.fence (next_key m) || leb (stamp_of e m.heads.slot) m.date

abbrev pub neared : List ℕ → Sweep → Sweep
neared e m = cond (doubtful e m) (standing m 1) (gone e m)

-- The rows of the live dockets that are still to come, up to hi.
abbrev pub rest : List ℕ → Sweep → List (Row Tally)
rest e m = live (lookup (to_come e m)) m.from m.hi

-- The live docket that the sweep has come to.
abbrev pub row_found : List ℕ → Sweep → Row Tally
row_found e m = record { key = m.key; tally = tally_of e m.slot; stamp = stamp_of e m.slot }

-- It and those that are still to come; none where the sweep came to no live docket.
abbrev pub rows_from : List ℕ → Sweep → List (Row Tally)
rows_from e m = cond (is_live m) (row_found e m ∷ rest e m) []

-- What a sweep that has come to a docket or to none lists, and what one on its way has to come.
abbrev pub listed : List ℕ → Sweep → List (Row Tally)
listed e m = cond (eqb m.going 0) (rows_from e m) (rest e m)

-- At most two steps for each record to come, and one for the fence.
abbrev pub steps_ahead : List ℕ → Sweep → ℕ
steps_ahead e m = 2 * left e m.heads + cond (leb m.fence (next_key m)) 1 0

-- A step passes a record, moves the fence past its docket, or finds that nothing is left up to hi.
pub record Stepped (e : List ℕ) (m r : Sweep) : Type 0 where
  pub sweeping : Sweeping e r
  pub leads : rest e m ≡ listed e r
  pub fewer : r.going ≢ 0 → steps_ahead e r < steps_ahead e m
