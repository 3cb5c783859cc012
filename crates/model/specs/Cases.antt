-- Document 01, "Edges" and "The script program": the ● cases and the script, as one table of equations.
use Rattle.std.specs.Prelude.{◌≡◌, true, false, List, [], ◌∷◌, ◌++◌, map, ℕ, ◌+◌, ◌/◌, ◌≤◌}
use Rattle.settings.specs.declared.Settings.{Settings}
use Rattle.settings.specs.Limits.{limit}
use Rattle.settings.specs.Carried.{at_level}
use Rattle.model.specs.declared.Tally.{Tally}
use Rattle.model.specs.Records.{value, tombstone, Point, Range, Level, State, empty, level, slotless}
use Rattle.model.specs.Steps.{put, delete, delete_range, merge_state}
use Rattle.model.specs.Lookup.{absent, found, scan, lookup}
use Rattle.model.specs.Calls.{written, flush, tick, Call, Answer, refusing, step, run, answers}

abbrev pub settings : ℕ → ℕ → ℕ → ℕ → Settings
settings l t b d = record { deepest = l; ratio = t; buffer = b; term = d }

-- "N less all records as the free slots": N of them, and it does not matter which.
abbrev pub store : ℕ → Settings → State (Unit {0}) Tally
store n s = slotless n s

abbrev pub accepts : ℕ → ℕ → Answer
accepts m p = record { refusal = 0; merges = m; purged = p }

-- "A pallet's tally becomes a 32-bit count and a 32-bit price".
abbrev pub tally : ℕ → ℕ → Tally
tally v p = record { count = v; price = p }

-- The lines of the script: P, D, R, Y, F and T. "`P` lines take the price last".
abbrev pub P : ℕ → ℕ → ℕ → ℕ → Call Tally
P t k v p = record { clock = t; op = written (put k (tally v p)) }

abbrev pub D : ℕ → ℕ → Call Tally
D t k = record { clock = t; op = written (delete k) }

abbrev pub R : ℕ → ℕ → ℕ → Call Tally
R t lo hi = record { clock = t; op = written (delete_range lo hi t) }

-- Request S-1: "The script line is `Y t lo hi s`."
abbrev pub Y : ℕ → ℕ → ℕ → ℕ → Call Tally
Y t lo hi s = record { clock = t; op = written (delete_range lo hi s) }

abbrev pub F : ℕ → Call Tally
F t = record { clock = t; op = flush }

abbrev pub T : ℕ → Call Tally
T t = record { clock = t; op = tick }

-- The limits of some levels.
abbrev pub limits : Settings → List ℕ → List ℕ
limits s [] = []
limits s (i ∷ is) = limit s i ∷ limits s is

-- The store of the script, and its lines up to `T 5`.
abbrev pub hall : State (Unit {0}) Tally
hall = store 6 (settings 3 2 2 9)

abbrev pub morning : List (Call Tally)
morning = P 1 7 70 0 ∷ P 1 8 80 0 ∷ D 2 7 ∷ P 3 9 90 0 ∷ []

abbrev pub noon : List (Call Tally)
noon = morning ++ P 4 7 71 0 ∷ []

-- A put and a range delete, as records, and levels in which two ranges stand two levels above the puts of dockets 5 and 6.
abbrev pub kept : ℕ → ℕ → ℕ → Point (Unit {0}) Tally
kept k v stamp = record { slot = tt; key = k; entry = value (tally v 7); stamp = stamp }

abbrev pub range : ℕ → ℕ → ℕ → ℕ → Range (Unit {0})
range lo hi date stamp = record { slot = tt; lo = lo; hi = hi; date = date; stamp = stamp }

abbrev pub cleared : List (Level (Unit {0}) Tally)
cleared =
    record { points = []; ranges = range 0 9 1 9 ∷ range 5 6 3 9 ∷ []; owed = 9 }
    ∷ empty ∷ record { points = kept 5 50 3 ∷ kept 6 60 4 ∷ []; ranges = []; owed = 0 } ∷ []

pub record CaseTable : Type 0 where
  -- The ● cases of limits by request S-4, "worked out again from these rules": L=3 T=2 D=9; L=4 T=4 D=100; L=3 T=10 D=10; L=6 T=2 D=1.
  pub limits_3_2_9 : limits (settings 3 2 1 9) (0 ∷ 1 ∷ 2 ∷ []) ≡ 1 ∷ 3 ∷ 9 ∷ []
  pub limits_4_4_100 : limits (settings 4 4 1 100) (0 ∷ 1 ∷ 2 ∷ 3 ∷ []) ≡ 1 ∷ 5 ∷ 24 ∷ 100 ∷ []
  pub limits_3_10_10 : limits (settings 3 10 1 10) (0 ∷ 1 ∷ 2 ∷ []) ≡ 0 ∷ 0 ∷ 10 ∷ []
  pub limits_6_2_1 : limits (settings 6 2 1 1) (0 ∷ 1 ∷ 2 ∷ 3 ∷ 4 ∷ 5 ∷ []) ≡ 0 ∷ 0 ∷ 0 ∷ 0 ∷ 0 ∷ 1 ∷ []
  -- ● L=2: D divided by (T + 1), then D, for every T and D.
  pub limits_2 : (t b d : ℕ) → 2 ≤ t → limits (settings 2 t b d) (0 ∷ 1 ∷ []) ≡ d / (t + 1) ∷ d ∷ []
  -- "● N=1 L=2 T=2 B=1 D=4, then put 5 (tally 50) at 1, put 5 (51) at 2: merges 1, purged 1. ● Put 6 at 3: refused 7.
  -- ● Delete 5 at 4: purged 2. Put 6 at 5 succeeds."
  pub one_slot :
      answers (store 1 (settings 2 2 1 4)) (P 1 5 50 7 ∷ P 2 5 51 7 ∷ P 3 6 60 7 ∷ D 4 5 ∷ P 5 6 60 7 ∷ [])
      ≡ accepts 1 0 ∷ accepts 1 1 ∷ refusing 7 ∷ accepts 0 2 ∷ accepts 1 0 ∷ []
  -- "● T 5 in the script merges (5 − 2 = 3); a tick at 4 would not."
  pub tick_5_merges : (step (run hall noon) (T 5)).answer ≡ accepts 1 0
  pub tick_4_does_not : (step (run hall noon) (T 4)).answer ≡ accepts 0 0
  -- "● Range delete 0 to 65,535 on a fresh store is accepted; lo 1 hi 0 is 4."
  pub widest_range : (step hall (R 1 0 65535)).answer ≡ accepts 0 0
  pub crossed_range : (step hall (R 1 1 0)).answer ≡ refusing 4
  -- Request S-1: "10, s is 0 or after the call's clock, directly after 5"; a date equal to the clock is allowed.
  pub dates : answers hall (Y 5 0 9 0 ∷ Y 5 0 9 6 ∷ Y 0 0 9 6 ∷ Y 5 0 9 5 ∷ []) ≡ refusing 10 ∷ refusing 10 ∷ refusing 5 ∷ accepts 0 0 ∷ []
  -- A put after a range delete at the same clock stays live; of two pallets the one graded up to the day goes.
  pub same_clock : lookup (run hall (P 3 5 50 7 ∷ Y 3 0 9 3 ∷ P 3 5 51 7 ∷ [])).levels 5 ≡ found (tally 51 7) 3
  pub up_to_the_date : map (lookup (run hall (P 3 5 50 7 ∷ P 4 6 60 7 ∷ Y 9 0 9 3 ∷ F 9 ∷ [])).levels) (5 ∷ 6 ∷ []) ≡ absent ∷ found (tally 60 7) 4 ∷ []
  -- "a lookup carries the latest s met so far", "and a point found deeper with a stamp at or below it is absent".
  pub latest_of_all : map (lookup cleared) (5 ∷ 6 ∷ []) ≡ absent ∷ found (tally 60 7) 4 ∷ []
  -- "Of two ranges with equal lo and hi the one left keeps the later s and the later stamp", and points are judged before that.
  pub later_of_both : (level 1 (run hall (Y 4 0 9 3 ∷ Y 5 0 9 1 ∷ []))).ranges ≡ range 0 9 3 5 ∷ []
  pub judged_first : lookup (run (store 6 (settings 3 2 4 9)) (Y 5 0 9 5 ∷ P 5 5 50 7 ∷ Y 5 0 9 3 ∷ [])).levels 5 ≡ found (tally 50 7) 5
  -- A range delete that acts on level L "covers a record only if its stamp is at most s".
  pub acted_up_to_the_date : map (lookup (run (store 2 (settings 2 2 1 9)) (P 1 5 50 7 ∷ P 2 6 60 7 ∷ Y 3 0 9 1 ∷ [])).levels) (5 ∷ 6 ∷ []) ≡ absent ∷ found (tally 60 7) 2 ∷ []
  -- Request S-2: the price is put, and put anew, with the count; on level L "a put changes tally and stamp of its docket", price and count.
  pub priced : map (lookup (run hall (P 1 7 70 5 ∷ P 1 8 80 0 ∷ P 2 7 70 6 ∷ [])).levels) (7 ∷ 8 ∷ []) ≡ found (tally 70 6) 2 ∷ found (tally 80 0) 1 ∷ []
  pub priced_anew : lookup (run (store 1 (settings 2 2 1 4)) (P 1 5 50 3 ∷ P 2 5 50 4 ∷ [])).levels 5 ≡ found (tally 50 4) 2
  -- Request S-3: what is carried to level 2, "the power carried is T^i"; D × (T^(i+1) − 1) passes 32 bits, in the limits and in a pass.
  pub carried_4_4_100 : at_level (settings 4 4 8 100) 2 ≡ record { settings = settings 4 4 8 100; level = 2; power = 16; below = 64; divisor = 255 }
  pub limits_6_10_most :
      limits (settings 6 10 64 4294967295) (0 ∷ 1 ∷ 2 ∷ 3 ∷ 4 ∷ 5 ∷ []) ≡ 38654 ∷ 425202 ∷ 4290676 ∷ 42945420 ∷ 429492864 ∷ 4294967295 ∷ []
  pub long_term :
      answers (store 6 (settings 3 10 2 4294967295)) (D 1 7 ∷ T 38693399 ∷ T 38693400 ∷ T 425627389 ∷ T 425627390 ∷ [])
      ≡ accepts 0 0 ∷ accepts 0 0 ∷ accepts 1 0 ∷ accepts 0 0 ∷ accepts 1 0 ∷ []
  -- Request S-4: "The pass also merges the buffer when its owed is not 0 and clock − owed is at least the limit of level 0."
  pub buffer_owes : answers hall (D 2 7 ∷ T 2 ∷ T 3 ∷ T 5 ∷ T 11 ∷ []) ≡ accepts 0 0 ∷ accepts 0 0 ∷ accepts 1 0 ∷ accepts 1 0 ∷ accepts 1 1 ∷ []
  -- Limit 0 is a limit: a delete leaves the buffer in its own call, and what it found there with it; a put waits.
  pub leaves_at_once : answers (store 6 (settings 3 10 4 10)) (P 1 5 50 7 ∷ D 1 6 ∷ T 11 ∷ []) ≡ accepts 0 0 ∷ accepts 2 0 ∷ accepts 1 1 ∷ []
  -- The script and its output, lookups apart; "each `P` line now ends with price 0 and both `G` lines print a fourth 0".
  pub script :
      answers hall (noon ++ T 5 ∷ T 11 ∷ F 10 ∷ [])
      ≡ accepts 0 0 ∷ accepts 1 0 ∷ accepts 0 0 ∷ accepts 1 1 ∷ accepts 0 0 ∷ accepts 1 0 ∷ accepts 1 1 ∷ refusing 5 ∷ []
  pub first_lookup : lookup (run hall morning).levels 7 ≡ absent
  pub second_lookup : lookup (run hall (noon ++ T 5 ∷ [])).levels 7 ≡ found (tally 71 0) 4

-- Three puts that have sunk to level 2, the deepest, under a term of 4.
abbrev pub deep : State (Unit {0}) Tally
deep = store 6 (settings 2 2 1 4)

abbrev pub sunk : List (Call Tally)
sunk = P 1 5 50 7 ∷ P 1 6 60 7 ∷ P 1 7 70 7 ∷ []

-- Sound, though no list of calls leads here: a put deeper than a delete of its docket, and later than it, under a range of the date of that delete.
abbrev pub turned : State (Unit {0}) Tally
turned = record {
  settings = settings 3 2 2 9;
  clock = 7;
  free = tt ∷ tt ∷ tt ∷ [];
  levels =
      record { points = []; ranges = range 1 1 1 1 ∷ []; owed = 1 }
      ∷ record { points = record { slot = tt; key = 1; entry = tombstone; stamp = 1 } ∷ []; ranges = []; owed = 1 }
      ∷ record { points = kept 1 10 7 ∷ []; ranges = []; owed = 0 } ∷ empty ∷ [];
}

-- What tells a store from its near misses, and the edges that carry no ●.
pub record NearMissTable : Type 0 where
  -- "A put over a delete hides it": at 6 the older tally below goes all the same.
  pub owed_outlives_the_delete :
      answers (run deep sunk) (D 2 5 ∷ P 3 5 51 7 ∷ T 5 ∷ T 6 ∷ [])
      ≡ accepts 1 0 ∷ accepts 1 1 ∷ accepts 0 0 ∷ accepts 1 1 ∷ []
  -- "A second delete of a docket that restarts the term."
  pub term_does_not_restart :
      answers (run deep sunk) (D 2 5 ∷ D 4 5 ∷ T 5 ∷ T 6 ∷ [])
      ≡ accepts 1 0 ∷ accepts 1 1 ∷ accepts 0 0 ∷ accepts 1 2 ∷ []
  -- "A range wiped at level L before it has wiped what it covers there."
  pub range_wipes_first :
      answers (run deep sunk) (R 2 5 6 ∷ T 5 ∷ T 6 ∷ []) ≡ accepts 1 0 ∷ accepts 0 0 ∷ accepts 1 3 ∷ []
  pub range_is_obeyed_above : lookup (run deep (sunk ++ R 2 5 6 ∷ [])).levels 5 ≡ absent
  -- "A delete covers the dockets from its lo to its hi", and no others.
  pub range_spares_what_lies_before : lookup (run deep (sunk ++ R 2 6 6 ∷ [])).levels 5 ≡ found (tally 50 7) 1
  pub range_spares_what_lies_past : lookup (run deep (sunk ++ R 2 6 6 ∷ [])).levels 7 ≡ found (tally 70 7) 1
  -- "If a slot is now free, the write goes on as usual."
  pub not_full_early :
      answers (store 2 (settings 2 2 1 9)) (P 1 5 50 7 ∷ D 2 5 ∷ P 3 6 60 7 ∷ P 4 7 70 7 ∷ [])
      ≡ accepts 1 0 ∷ accepts 1 1 ∷ accepts 1 0 ∷ accepts 2 1 ∷ []
  -- Limit 0 is a limit: one pass takes a delete down through every level that has it.
  pub one_pass_many_merges :
      answers (store 6 (settings 6 2 2 1)) (P 1 5 50 7 ∷ D 1 6 ∷ T 2 ∷ []) ≡ accepts 0 0 ∷ accepts 5 0 ∷ accepts 1 1 ∷ []
  -- "Clock equal to the last is accepted. Scan with no rows over a live docket: count 0, more."
  pub equal_clock : answers hall (P 3 5 50 7 ∷ P 3 6 60 7 ∷ P 2 6 61 7 ∷ []) ≡ accepts 0 0 ∷ accepts 1 0 ∷ refusing 5 ∷ []
  pub scan_no_rows : scan (lookup (run deep sunk).levels) 6 7 0 ≡ record { rows = []; count = 0; more = true; next = 6 }
  pub scan_one_row :
      scan (lookup (run deep sunk).levels) 5 6 1
      ≡ record { rows = record { key = 5; tally = tally 50 7; stamp = 1 } ∷ []; count = 1; more = true; next = 6 }
  pub scan_all :
      scan (lookup (run deep sunk).levels) 6 6 1
      ≡ record { rows = record { key = 6; tally = tally 60 7; stamp = 1 } ∷ []; count = 1; more = false; next = 0 }
  -- A merge changes no lookup where what lies deeper is older; else it may, since the range takes away the delete and not the put.
  pub merge_reveals_the_later : map (λ (s : State (Unit {0}) Tally). lookup s.levels 1) (turned ∷ merge_state 0 turned ∷ []) ≡ absent ∷ found (tally 10 7) 7 ∷ []
