-- THE DEMANDS of document 01 on every word of both tables, each cited from the file that proves it.
use mathlib.Core.Path.{◌≡◌}
use mathlib.Core.Logic.{◌↔◌, ◌≢◌}
use mathlib.Core.Bool.{true, false}
use mathlib.Core.List.{List, [], ◌∷◌, ◌++◌, map}
use Prim.Native.Nat.{ℕ, ◌+◌, ◌-◌, ◌*◌, ◌/◌, ◌^◌, ◌<◌, ◌≤◌}
use lib.Dec.{leb}
use lib.ListN.{length, get_or, take}
use Rattle.lists.specs.All.{All, Ascending}
use Rattle.settings.specs.declared.Settings.{Settings}
use Rattle.settings.specs.Limits.{allowed}
use Rattle.model.specs.declared.Tally.{Tally}
use Rattle.model.specs.Records.{slotless}
use Rattle.model.specs.Steps.{put, delete, delete_range}
use Rattle.model.specs.Lookup.{scan}
use Rattle.model.specs.Calls.{Call, Answer, written, refusing, bad_clock, count_written, answers}
use Rattle.model.specs.PlainMap.{get, map_run, map_refusals, no_rows}
use Rattle.model.specs.Erasure.{retally, Erased}
use Rattle.model_history.specs.History.{came, earliest, history}
use Rattle.model_wake.specs.Wake.{Owes, tick_at, last_clock, no_change}
use Rattle.tables.specs.Words.{Fits32}
use Rattle.tables.specs.Slots.{clock_of}
use Rattle.tables.specs.Rows.{settings_of, level_row, no_row}
use Rattle.tables.specs.Sound.{table_refusal}
use Rattle.check_refusal.specs.Dockets.{docket_refusal}
use Rattle.std.proofs.Common.{None, Some, Ok}
use Rattle.wake.specs.Wake.{owed_of}
use Rattle.lookup.specs.Lookup.{Found, answered, lookup_tables, numbers}
use Rattle.lookup.specs.Counts.{lookup_counts, without_price, count_numbers}
use Rattle.lookup.proofs.Numbers as lookups
use Rattle.lookup.proofs.Counts as counts
use Rattle.scan.specs.declared.Row.{Row}
use Rattle.scan.specs.declared.CountRow.{CountRow}
use Rattle.scan.specs.Scan.{unfilled, filled, written as row_of, without_price as row-without-price, without_prices as rows-without-prices}
use Rattle.scan.specs.Scan.{scan_tables, scan_counts_tables}
use Rattle.scan.proofs.Words as scans
use Rattle.scan.proofs.Counts as scan-counts
use Rattle.call_tables.specs.Calls.{Tables, call_tables, run_tables, tables_after, answers_tables, made_tables, refusal_number, merged_tables}
use Rattle.demands.specs.Full.{SlotsLive}
use Rattle.demands.specs.LastPut.{LastPut}
use Rattle.demands.specs.Events.{Event, Reply, reply, run_events, replies, calls_of, answers_of}
use Rattle.demands.specs.Numbers.{records_of, Settled}
use Rattle.demands.specs.Hidden.{tally_word, price_word, SameBut, without, FreePriced}
use Rattle.demands.specs.Sleep.{wake_of, Before, clocked, Wakes, merges_in_all, Unsettled}
use Rattle.call_tables.proofs.Runs as runs
use Rattle.call_tables.proofs.Refusals as refusals
use Rattle.demands.proofs.Full as full
use Rattle.demands.proofs.Merged as merged
use Rattle.demands.proofs.Made as made
use Rattle.demands.proofs.LastPuts as puts
use Rattle.demands.proofs.Events as events
use Rattle.demands.proofs.Numbers as accepted
use Rattle.demands.proofs.SameTables.{tallies_only, prices_only}
use Rattle.demands.proofs.HiddenWords as hidden
use Rattle.demands.proofs.Grower as grower
use Rattle.demands.proofs.Sleep as sleep
use Rattle.demands.proofs.Asleep as asleep

-- DEMAND 1, for tables of any content. Each timed call is refused in exactly the listed cases, and a refusal "gives its number and zeros".
module _ (w : Tables) (c : Call Tally) where
  pub refused_exactly : (call_tables w c).answer.refusal ≡ refusal_number w c
  refused_exactly = refusals.refused_exactly w c

  pub refused_zeros : (call_tables w c).answer.refusal ≢ 0 → (call_tables w c).answer ≡ refusing (call_tables w c).answer.refusal
  refused_zeros = refusals.refused_zeros w c

  -- A refused call changes no word, save under 7: "tables stay merged, clock as before".
  pub refused_words : Fits32 w.entries → (call_tables w c).answer.refusal ≢ 0 → (call_tables w c).answer.refusal ≢ 7 → (call_tables w c).tables ≡ w
  refused_words fits = runs.refused_words w fits c

  pub refused_7_leaves : (call_tables w c).answer.refusal ≡ 7 → (call_tables w c).tables ≡ merged_tables w
  refused_7_leaves = refusals.refused_7_leaves w c

  pub refused_7_clock : Fits32 w.entries → (call_tables w c).answer.refusal ≡ 7 → clock_of (call_tables w c).tables.entries ≡ clock_of w.entries
  refused_7_clock = refusals.refused_7_clock w c

  pub refused_7_settings : Fits32 w.entries → (call_tables w c).answer.refusal ≡ 7 → settings_of (call_tables w c).tables.levels ≡ settings_of w.levels
  refused_7_settings = merged.refused_7_settings w c

  -- Then levels 0 to L−1 have empty rows, and every lookup and every scan answers as before the call.
  pub refused_7_rows : Fits32 w.entries → (call_tables w c).answer.refusal ≡ 7 → (i : ℕ) → i < (settings_of w.levels).deepest
      → level_row (call_tables w c).tables.levels i ≡ no_row
  refused_7_rows = merged.refused_7_rows w c

  pub refused_7_lookups : Fits32 w.entries → (call_tables w c).answer.refusal ≡ 7 → (k : ℕ)
      → lookup_tables (call_tables w c).tables.entries (call_tables w c).tables.levels k ≡ lookup_tables w.entries w.levels k
  refused_7_lookups = merged.refused_7_lookups w c

  pub refused_7_scans : Fits32 w.entries → (call_tables w c).answer.refusal ≡ 7 → (lo hi : ℕ) (rows : List Row)
      → scan_tables (call_tables w c).tables.entries (call_tables w c).tables.levels lo hi rows ≡ scan_tables w.entries w.levels lo hi rows
  refused_7_scans = merged.refused_7_scans w c

  -- The grower's too.
  pub refused_7_lookup_counts : Fits32 w.entries → (call_tables w c).answer.refusal ≡ 7 → (k : ℕ)
      → lookup_counts (call_tables w c).tables.entries (call_tables w c).tables.levels k ≡ lookup_counts w.entries w.levels k
  refused_7_lookup_counts = merged.refused_7_lookup_counts w c

  pub refused_7_scan_counts : Fits32 w.entries → (call_tables w c).answer.refusal ≡ 7 → (lo hi : ℕ) (rows : List CountRow)
      → scan_counts_tables (call_tables w c).tables.entries (call_tables w c).tables.levels lo hi rows
      ≡ scan_counts_tables w.entries w.levels lo hi rows
  refused_7_scan_counts = merged.refused_7_scan_counts w c

  -- Sound tables stay sound.
  pub stays_sound : Fits32 w.entries → table_refusal w.entries w.levels ≡ 0
      → table_refusal (call_tables w c).tables.entries (call_tables w c).tables.levels ≡ 0
  stays_sound fits = refusals.stays_sound w fits c

module _ (w : Tables) where
  -- 'Full' comes only when every slot holds a different live docket and the put's is not among them, and then always.
  pub full_exactly : Fits32 w.entries → table_refusal w.entries w.levels ≡ 0 → (t k : ℕ) (a : Tally) → k ≤ 65535
      → bad_clock t (clock_of w.entries) ≡ false
      → ((call_tables w (record { clock = t; op = written (put k a) })).answer.refusal ≡ 7) ↔ SlotsLive k w
  full_exactly = full.full_exactly w

  -- A delete is never refused for lack of a slot.
  pub delete_never_full : (t k : ℕ) → (call_tables w (record { clock = t; op = written (delete k) })).answer.refusal ≢ 7
  delete_never_full = refusals.delete_never_full w

  pub delete_range_never_full : (t lo hi date : ℕ) → (call_tables w (record { clock = t; op = written (delete_range lo hi date) })).answer.refusal ≢ 7
  delete_range_never_full = refusals.delete_range_never_full w

-- A lookup is refused in exactly the listed cases, by document 01's numbers of its answer; a refusal "gives its number and zeros".
module _ (e l : List ℕ) (k : ℕ) where
  pub lookup_refused_exactly : (numbers (lookup_tables e l k)).refusal ≡ docket_refusal e l k k
  lookup_refused_exactly = lookups.refused_exactly e l k

  pub lookup_refused_zeros : docket_refusal e l k k ≢ 0
      → numbers (lookup_tables e l k) ≡ record { refusal = docket_refusal e l k k; found = 0; count = 0; price = 0; stamp = 0 }
  lookup_refused_zeros = lookups.refused_zeros e l k

  -- So is the grower's, which answers as the hall's with the price left out.
  pub lookup_counts_refused_exactly : (count_numbers (lookup_counts e l k)).refusal ≡ docket_refusal e l k k
  lookup_counts_refused_exactly = grower.lookup_refused_exactly e l k

  pub lookup_counts_refused_zeros : docket_refusal e l k k ≢ 0
      → count_numbers (lookup_counts e l k) ≡ record { refusal = docket_refusal e l k k; found = 0; count = 0; stamp = 0 }
  lookup_counts_refused_zeros = grower.lookup_refused_zeros e l k

  pub lookup_counts-without_price : lookup_counts e l k ≡ without_price (lookup_tables e l k)
  lookup_counts-without_price = counts.counts_without_prices e l k

-- A scan is refused in exactly the listed cases, and then leaves every row.
module _ (e l : List ℕ) (lo hi : ℕ) (rows : List Row) where
  pub scan_refused_exactly : (scan_tables e l lo hi rows).answer.refusal ≡ docket_refusal e l lo hi
  scan_refused_exactly = scans.refused_exactly e l lo hi rows

  pub scan_refused_leaves : docket_refusal e l lo hi ≢ 0 → scan_tables e l lo hi rows ≡ unfilled (docket_refusal e l lo hi) rows
  scan_refused_leaves = scans.refused_leaves e l lo hi rows

  -- The grower's leaves what the hall's does with the prices left out.
  pub scan_counts_without_prices : scan_counts_tables e l lo hi (map row-without-price rows) ≡ rows-without-prices (scan_tables e l lo hi rows)
  scan_counts_without_prices = scan-counts.counts_without_prices e l lo hi rows

module _ (e l : List ℕ) (lo hi : ℕ) (rows : List CountRow) where
  pub scan_counts_refused_exactly : (scan_counts_tables e l lo hi rows).answer.refusal ≡ docket_refusal e l lo hi
  scan_counts_refused_exactly = scans.counts_refused_exactly e l lo hi rows

  pub scan_counts_refused_leaves : docket_refusal e l lo hi ≢ 0 → scan_counts_tables e l lo hi rows ≡ unfilled (docket_refusal e l lo hi) rows
  scan_counts_refused_leaves = scans.counts_refused_leaves e l lo hi rows

-- Lookups and scans "may stand anywhere between": on tables of any content, words and answers of the timed calls are those of the list without them.
module _ (w : Tables) (es : List Event) where
  pub events_tables : run_events w es ≡ run_tables w (calls_of es)
  events_tables = events.tables_without w es

  pub events_answers : answers_of (replies w es) ≡ answers_tables w (calls_of es)
  events_answers = events.answers_without w es

  -- Each answers what it answers on the tables after the timed calls before it.
  pub events_reply : (i : ℕ) (e : Event) (r : Reply) → i < length es → get_or (replies w es) i r ≡ reply (run_tables w (calls_of (take i es))) (get_or es i e)
  events_reply = events.reply_there w es

-- DEMAND 2, where a call is accepted, on any tables: "purged = held before + written − held after", by the numbers of records in the level rows.
module _ (w : Tables) (c : Call Tally) where
  pub purged_adds_up : Fits32 w.entries → (call_tables w c).answer.refusal ≡ 0
      → (call_tables w c).answer.purged + records_of (call_tables w c).tables.levels ≡ records_of w.levels + count_written c.op
  purged_adds_up = accepted.purged_adds_up w c

  -- And by its row no level from 0 to L−1 is due: none is over its limit, the buffer has fewer than B records and no other level more than its capacity.
  pub accepted_settles : Fits32 w.entries → (call_tables w c).answer.refusal ≡ 0 → (i : ℕ) → i < (settings_of w.levels).deepest
      → Settled (settings_of w.levels) c.clock i (level_row (call_tables w c).tables.levels i)
  accepted_settles = accepted.accepted_settles w c

  -- "Limit 0 is a limit": where D × (T − 1) is below T^L − 1 the buffer owes nothing after an accepted call, so that every delete that enters leaves it in its own call.
  pub leaves_at_once : Fits32 w.entries → (call_tables w c).answer.refusal ≡ 0
      → (settings_of w.levels).term * ((settings_of w.levels).ratio - 1) < (settings_of w.levels).ratio ^ (settings_of w.levels).deepest - 1
      → (level_row (call_tables w c).tables.levels 0).owed ≡ 0
  leaves_at_once = accepted.leaves_at_once w c

-- WHEN TO WAKE, request S-5. After any accepted timed call on any tables: "ticks before that clock change nothing but the last clock".
module _ (w : Tables) (c : Call Tally) (fits : Fits32 w.entries) (ok : (call_tables w c).answer.refusal ≡ 0) where
  pub sleeps : (t : ℕ) → clock_of (call_tables w c).tables.entries ≤ t → Before t (wake_of (call_tables w c).tables)
      → call_tables (call_tables w c).tables (tick_at t) ≡ record { tables = clocked t (call_tables w c).tables; answer = no_change }
  sleeps = sleep.sleeps w c fits ok

  -- So does every list of such ticks, each at the clock of the one before it or later.
  module _ (ts : List ℕ) (up : Ascending leb (clock_of (call_tables w c).tables.entries ∷ ts)) (early : All (λ t. Before t (wake_of (call_tables w c).tables)) ts) where
    pub sleeps_on : run_tables (call_tables w c).tables (map tick_at ts) ≡ clocked (last_clock (clock_of (call_tables w c).tables.entries) ts) (call_tables w c).tables
    sleeps_on = sleep.sleeps_on w c fits ok ts up early

    pub sleeps_answers : answers_tables (call_tables w c).tables (map tick_at ts) ≡ map (λ (t : ℕ). no_change) ts
    sleeps_answers = sleep.sleeps_answers w c fits ok ts up early

  -- "a tick at it merges at least one level, if that clock fits 32 bits": a clock of the code does.
  pub wakes : (m : ℕ) → wake_of (call_tables w c).tables ≡ Ok (Some m) → Wakes m (call_tables w c).tables
  wakes = sleep.wakes w c fits ok

-- Not without an accepted call before: sound tables on which a tick merges though no clock is told.
pub unsettled : Unsettled
unsettled = sleep.unsettled

-- "a store without writes runs at most L × (L + 1) / 2 merges, however many ticks follow": any tables, any list of ticks and flushes, refused ones too.
pub quiet_merges : (w : Tables) → Fits32 w.entries → (cs : List (Call Tally)) → All (λ c. count_written c.op ≡ 0) cs
    → merges_in_all w cs ≤ (settings_of w.levels).deepest * ((settings_of w.levels).deepest + 1) / 2
quiet_merges = sleep.quiet_merges

-- "the smallest owed + limit over levels 0 to L−1 with owed not 0 …, or 'none'", by the rows of any sound tables.
module _ (w : Tables) (sound : table_refusal w.entries w.levels ≡ 0) where
  pub wake_smallest : (m : ℕ) → wake_of w ≡ Ok (Some m) → Owes (settings_of w.levels) (owed_of w.levels) (settings_of w.levels).deepest m
  wake_smallest = sleep.wake_smallest w sound

  pub wake_never : wake_of w ≡ Ok None → (i : ℕ) → i < (settings_of w.levels).deepest → owed_of w.levels i ≡ 0
  wake_never = sleep.wake_never w sound

-- "which slot a record occupies, and with it the order of the free chain; neither may hang on a tally", and no other word or answer does: from tables of any
-- content that differ in the tallies of puts alone, count and price, lists that differ in tallies alone leave tables that do.
module _ (w v : Tables) (fits : Fits32 w.entries) (fits' : Fits32 v.entries) (same : SameBut tally_word w v)
    (cs ds : List (Call Tally)) (alike : map (without tally_word) cs ≡ map (without tally_word) ds) where
  pub words_blind : SameBut tally_word (run_tables w cs) (run_tables v ds)
  words_blind = hidden.words_blind tally_word tallies_only w v fits fits' same cs ds alike

  pub answers_blind : answers_tables w cs ≡ answers_tables v ds
  answers_blind = hidden.answers_blind tally_word tallies_only w v fits fits' same cs ds alike

  pub wake_blind : wake_of (run_tables w cs) ≡ wake_of (run_tables v ds)
  wake_blind = sleep.wake_same tally_word tallies_only (run_tables w cs) (run_tables v ds) words_blind

-- THE GROWER'S CLAIM: "Two stores that differ only in the prices of puts must give the grower the same answers, refusals and counts." From tables of any
-- content that are the same but for the price words of puts, lists of calls that differ in prices alone leave tables that are; every call has the same refusal,
-- merges and purged; and after them every lookup and every scan of the grower gives the same.
module _ (w v : Tables) (fits : Fits32 w.entries) (fits' : Fits32 v.entries) (same : SameBut price_word w v)
    (cs ds : List (Call Tally)) (alike : map (without price_word) cs ≡ map (without price_word) ds) where
  pub grower_words : SameBut price_word (run_tables w cs) (run_tables v ds)
  grower_words = hidden.words_blind price_word prices_only w v fits fits' same cs ds alike

  pub grower_answers : answers_tables w cs ≡ answers_tables v ds
  grower_answers = hidden.answers_blind price_word prices_only w v fits fits' same cs ds alike

  pub grower_lookups : (k : ℕ)
      → lookup_counts (run_tables w cs).entries (run_tables w cs).levels k ≡ lookup_counts (run_tables v ds).entries (run_tables v ds).levels k
  grower_lookups = grower.lookups_same (run_tables w cs) (run_tables v ds) grower_words

  pub grower_scans : (lo hi : ℕ) (rows : List CountRow)
      → scan_counts_tables (run_tables w cs).entries (run_tables w cs).levels lo hi rows
      ≡ scan_counts_tables (run_tables v ds).entries (run_tables v ds).levels lo hi rows
  grower_scans = grower.scans_same (run_tables w cs) (run_tables v ds) grower_words

-- Word 4 of a slot that is no put is no price: tables with a number there are refused 3, and a claim that hid it would be false.
pub free_priced : FreePriced
free_priced = grower.free_priced

-- From what an accepted making left, after every list of timed calls.
module _ (n : ℕ) (s : Settings) (low : 1 ≤ n) (high : n ≤ 65535) (ok : allowed s ≡ true) where
  -- DEMAND 1: no call is ever refused 1, 2 or 3.
  pub always_sound : (cs : List (Call Tally)) → table_refusal (tables_after n s cs).entries (tables_after n s cs).levels ≡ 0
  always_sound = made.always_sound n s low high ok

  -- L, T, B and D are "fixed when a store is made".
  pub settings_stay : (cs : List (Call Tally)) → settings_of (tables_after n s cs).levels ≡ s
  settings_stay = made.settings_stay n s low high ok

  -- 'Full' comes as on every pair of sound tables.
  pub full_after : (cs : List (Call Tally)) (t k : ℕ) (a : Tally) → k ≤ 65535 → bad_clock t (clock_of (tables_after n s cs).entries) ≡ false
      → ((call_tables (tables_after n s cs) (record { clock = t; op = written (put k a) })).answer.refusal ≡ 7) ↔ SlotsLive k (tables_after n s cs)
  full_after = made.full_after n s low high ok

  -- A delete of all dockets is accepted at every clock that is not refused: without a date, which "has its own clock as s", and with any from 1 to the clock.
  pub widest_accepted : (cs : List (Call Tally)) (t : ℕ) → bad_clock t (clock_of (tables_after n s cs).entries) ≡ false
      → (call_tables (tables_after n s cs) (record { clock = t; op = written (delete_range 0 65535 t) })).answer.refusal ≡ 0
  widest_accepted = made.widest_accepted n s low high ok

  pub widest_dated_accepted : (cs : List (Call Tally)) (t date : ℕ) → bad_clock t (clock_of (tables_after n s cs).entries) ≡ false → 1 ≤ date → date ≤ t
      → (call_tables (tables_after n s cs) (record { clock = t; op = written (delete_range 0 65535 date) })).answer.refusal ≡ 0
  widest_dated_accepted = made.widest_dated_accepted n s low high ok

  -- DEMAND 2: a lookup finds tally a with stamp t exactly when some call of the list was a put of that docket with a at t, answered 0, and no later call that was
  -- answered 0 puts the docket or covers that put: a delete of the docket, or a range delete over it with t at most its date.
  pub found_exactly : (cs : List (Call Tally)) (k : ℕ) (a : Tally) (t : ℕ)
      → (lookup_tables (tables_after n s cs).entries (tables_after n s cs).levels k ≡ Found a t)
      ↔ LastPut (map (λ (r : Answer). r.refusal) (answers_tables (made_tables n s) cs)) cs k a t
  found_exactly = puts.found_exactly n s low high ok

  -- So lookups answer as the plain map after the same list.
  pub lookups_as_map : (cs : List (Call Tally)) (k : ℕ) → k ≤ 65535
      → lookup_tables (tables_after n s cs).entries (tables_after n s cs).levels k ≡ answered (get (map_run n no_rows cs).rows k)
  lookups_as_map = made.lookups_as_map n s low high ok

  -- So do scans: count, 'more', the next docket and every row.
  pub scans_as_map : (cs : List (Call Tally)) (lo hi : ℕ) (rows : List Row) → lo ≤ hi → hi ≤ 65535
      → scan_tables (tables_after n s cs).entries (tables_after n s cs).levels lo hi rows
      ≡ filled row_of (scan (get (map_run n no_rows cs).rows) lo hi (length rows)) rows
  scans_as_map = made.scans_as_map n s low high ok

  -- Calls are refused as by a map of as many places; merges and purged are those of document 01's steps.
  pub refusals_as_map : (cs : List (Call Tally)) → map (λ (r : Answer). r.refusal) (answers_tables (made_tables n s) cs) ≡ map_refusals n no_rows cs
  refusals_as_map = made.refusals_as_map n s low high ok

  pub answers_as_steps : (cs : List (Call Tally)) → answers_tables (made_tables n s) cs ≡ answers (slotless n s) cs
  answers_as_steps = made.answers_as_steps n s low high ok

  -- What a level owes: "the earliest clock of any delete that came into the level, itself or through merges, since the level was last emptied; 0 if none".
  pub owed_is_earliest : (cs : List (Call Tally)) (i : ℕ) → i < s.deepest
      → (level_row (tables_after n s cs).levels i).owed ≡ earliest (came (history (slotless n s) cs) i)
  owed_is_earliest = made.owed_is_earliest n s low high ok

  -- DEMAND 3: had that put carried any other tally, another count, another price or both, every word of both tables would be the same. Settings and list alone
  -- decide the premises.
  pub erased_leaves_nothing : (cs : List (Call Tally)) (i j k : ℕ) (a v : Tally) → Erased (slotless n s) cs i j k a
      → tables_after n s (retally i k v cs) ≡ tables_after n s cs
  erased_leaves_nothing = made.erased n s low high ok

  -- The same while a controller sleeps: where a tick at t would have erased the put and the clock to wake at lies after t, or there is none, nothing of its tally is
  -- left without that tick.
  pub asleep_leaves_nothing : (cs : List (Call Tally)) (t i j k : ℕ) (a v : Tally) → 1 ≤ t → clock_of (tables_after n s cs).entries ≤ t
      → Before t (wake_of (tables_after n s cs)) → Erased (slotless n s) (cs ++ tick_at t ∷ []) i j k a → tables_after n s (retally i k v cs) ≡ tables_after n s cs
  asleep_leaves_nothing = asleep.asleep_leaves_nothing n s low high ok

  -- THE GROWER'S CLAIM from a fresh store: after two lists that differ only in the prices of puts.
  module _ (cs ds : List (Call Tally)) (alike : map (without price_word) cs ≡ map (without price_word) ds) where
    pub grower_words_after : SameBut price_word (tables_after n s cs) (tables_after n s ds)
    grower_words_after = made.words_blind n s low high ok price_word cs ds alike

    pub grower_answers_after : answers_tables (made_tables n s) cs ≡ answers_tables (made_tables n s) ds
    grower_answers_after = made.answers_blind n s low high ok price_word cs ds alike

    pub grower_lookups_after : (k : ℕ)
        → lookup_counts (tables_after n s cs).entries (tables_after n s cs).levels k
        ≡ lookup_counts (tables_after n s ds).entries (tables_after n s ds).levels k
    grower_lookups_after = grower.lookups_same (tables_after n s cs) (tables_after n s ds) grower_words_after

    pub grower_scans_after : (lo hi : ℕ) (rows : List CountRow)
        → scan_counts_tables (tables_after n s cs).entries (tables_after n s cs).levels lo hi rows
        ≡ scan_counts_tables (tables_after n s ds).entries (tables_after n s ds).levels lo hi rows
    grower_scans_after = grower.scans_same (tables_after n s cs) (tables_after n s ds) grower_words_after
