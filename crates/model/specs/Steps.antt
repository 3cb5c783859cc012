-- Document 01, "Steps": merges by level, a write, the pass.
use Rattle.std.specs.Prelude.{Bool, false, cond, ◌&&◌, ◌||◌, not, List, [], ◌∷◌, map, ℕ, zero, suc, ◌-◌, leb, ltb, eqb, set}
use Rattle.settings.specs.declared.Settings.{Settings}
use Rattle.settings.specs.Limits.{capacity, limit}
use Rattle.lists.specs.Lists.{none, select, reject, iterate}
use Rattle.model.specs.Records.{value, tombstone, Point, Level, State, empty, level, stored, held}
use Rattle.model.specs.Coverage.{over, covers}
use Rattle.model.specs.Merge.{names, point_slots, point_goes, gone, release, merged, joined, freed}

-- A state, and the merges that led to it: "those whose upper level had a record".
pub record Work (S A : Type 0) : Type 0 where
  pub state : State S A
  pub merges : ℕ

-- "A write (put, delete, range delete)". A range delete has lo, hi and its date; "without a date" it has "its own clock as s".
pub data Write (A : Type 0) : Type 0 where
  put : ℕ → A → Write A
  delete : ℕ → Write A
  delete_range : ℕ → ℕ → ℕ → Write A

module _ {A : Type 0} where
  -- A write covers a record of docket n with a stamp: a put none, a delete its own docket's.
  abbrev pub write_covers : Write A → ℕ → ℕ → Bool
  write_covers (put k a) n stamp = false
  write_covers (delete k) n stamp = over k k n
  write_covers (delete_range lo hi date) n stamp = covers lo hi date n stamp

module _ {S A : Type 0} where
  -- "a level of one record …; owed of that level is the clock for a delete, 0 for a put"
  unfoldable pub single : S → ℕ → Write A → Level S A
  single x t (put k a) = record { points = record { slot = x; key = k; entry = value a; stamp = t } ∷ []; ranges = []; owed = 0 }
  single x t (delete k) = record { points = record { slot = x; key = k; entry = tombstone; stamp = t } ∷ []; ranges = []; owed = t }
  single x t (delete_range lo hi date) = record { points = []; ranges = record { slot = x; lo = lo; hi = hi; date = date; stamp = t } ∷ []; owed = t }

module _ {A : Type 0} where
  -- The same before a slot is chosen, to ask what it makes go.
  abbrev pub unplaced : ℕ → Write A → Level (Unit {0}) A
  unplaced t w = single tt t w

module _ {S A : Type 0} where
  abbrev pub begin : State S A → Work S A
  begin s = record { state = s; merges = 0 }

  -- "Merge of level i into i+1. … All of row i becomes zero."
  unfoldable pub merge_state : ℕ → State S A → State S A
  merge_state i s =
      let deepest = eqb (suc i) s.settings.deepest in
      let u = level i s in
      let l = level (suc i) s in
      stored s (release (freed deepest u l) s.free) (set (set s.levels i empty) (suc i) (joined deepest u l))

  -- The merge, counted among "those whose upper level had a record".
  unfoldable pub merge_level : ℕ → Work S A → Work S A
  merge_level i w = record {
    state = merge_state i w.state;
    merges = cond (eqb (held (level i w.state)) 0) w.merges (suc w.merges);
  }

  -- "levels 0 to L−1 are first merged in order"
  unfoldable pub merge_all : State S A → Work S A
  merge_all s = iterate merge_level 0 s.settings.deepest (begin s)

  -- The slots that the entry would free in the buffer.
  abbrev pub displaced : ℕ → Write A → State S A → List S
  displaced t w s = gone (unplaced t w) (level 0 s)

  -- "enters the buffer as a level of one record merged into it", in the first of the free slots
  unfoldable pub enter_at : ℕ → Write A → State S A → List S → State S A
  enter_at t w s [] = s
  enter_at t w s (x ∷ free) = stored s free (set s.levels 0 (merged (single x t w) (level 0 s)))

  -- What the entry makes go is free before the entry takes a slot.
  unfoldable pub enter : ℕ → Write A → State S A → State S A
  enter t w s = enter_at t w s (release (displaced t w s) s.free)

  -- "a put changes tally and stamp of its docket, a delete wipes what it covers"
  abbrev pub overwrite : ℕ → A → ℕ → Point S A → Point S A
  overwrite k a t p =
      cond (eqb p.key k) (record { slot = p.slot; key = p.key; entry = value a; stamp = t }) p

  -- Level i with other points.
  unfoldable pub set_points : ℕ → List (Point S A) → State S A → List S → State S A
  set_points i ps s free =
      stored s free (set s.levels i (record { points = ps; ranges = (level i s).ranges; owed = (level i s).owed }))

  -- The points that a delete covers leave level i, and their slots are free.
  unfoldable pub wipe : Level (Unit {0}) A → ℕ → State S A → State S A
  wipe u i s =
      set_points i (reject (point_goes u) (level i s).points) s
      (release (point_slots (select (point_goes u) (level i s).points)) s.free)

  -- "If not, it acts on level L".
  unfoldable pub act_deepest : ℕ → Write A → State S A → State S A
  act_deepest t (put k a) s =
      let i = s.settings.deepest in
      set_points i (map (overwrite k a t) (level i s).points) s s.free
  act_deepest t (delete k) s = wipe (unplaced t (delete k)) s.settings.deepest s
  act_deepest t (delete_range lo hi date) s = wipe (unplaced t (delete_range lo hi date)) s.settings.deepest s

  -- "If no slot is free and the entry would free none in the buffer, levels 0 to L−1 are first merged in order."
  unfoldable pub crowded : ℕ → Write A → State S A → Bool
  crowded t w s = none s.free && none (displaced t w s)

  -- The state once that merging is done, if it is.
  unfoldable pub make_room : ℕ → Write A → State S A → Work S A
  make_room t w s = cond (crowded t w s) (merge_all s) (begin s)

  -- No slot is free, even after that merging.
  unfoldable pub full : ℕ → Write A → State S A → Bool
  full t w s = crowded t w s && none (merge_all s).state.free

  -- "If a slot is now free, the write goes on as usual. If not, it acts on level L".
  unfoldable pub write : ℕ → Write A → State S A → Work S A
  write t w s =
      let r = make_room t w s in
      record { state = cond (full t w s) (act_deepest t w r.state) (enter t w r.state); merges = r.merges }

  -- Refusal 7: "still no slot after the merging, and level L lacks the docket".
  unfoldable pub no_slot : ℕ → Write A → State S A → Bool
  no_slot t (put k a) s = full t (put k a) s && not (names (level s.settings.deepest (merge_all s).state).points k)
  no_slot t (delete k) s = false
  no_slot t (delete_range lo hi date) s = false

-- The pass: "if the buffer has B records or more it is merged; then for i from 1 to L−1, level i is merged if it has more than its capacity".
unfoldable pub overfull : Settings → ℕ → ℕ → Bool
overfull settings zero n = leb settings.buffer n
overfull settings (suc i) n = ltb (capacity settings (suc i)) n

-- "or if owed is not 0 and clock − owed is at least its limit". Request S-4: "The pass also merges the buffer when its owed is not 0 and clock − owed is at
-- least the limit of level 0."
unfoldable pub overdue : Settings → ℕ → ℕ → ℕ → Bool
overdue settings t i owed = not (eqb owed 0) && leb (limit settings i) (t - owed)

module _ {S A : Type 0} where
  -- Whether level i is merged at clock t.
  unfoldable pub due : Settings → ℕ → ℕ → Level S A → Bool
  due settings t i l = overfull settings i (held l) || overdue settings t i l.owed

  -- The part of level i in the pass, at clock t.
  unfoldable pub pass_level : ℕ → ℕ → Work S A → Work S A
  pass_level t i w = cond (due w.state.settings t i (level i w.state)) (merge_level i w) w

  -- The buffer first, "then for i from 1 to L−1".
  unfoldable pub pass : ℕ → Work S A → Work S A
  pass t w = iterate (pass_level t) 0 w.state.settings.deepest w

  -- Refusal 8: "a level from 1 to L−1 still over capacity or limit".
  unfoldable pub still_due : ℕ → State S A → Bool
  still_due t s =
      iterate (λ i b. b || due s.settings t i (level i s)) 1 (s.settings.deepest - 1) false
