-- What a controller that sleeps may rely on, on the words: they are those of a state that an accepted call has left settled.
use mathlib.Core.Path.{◌≡◌, refl, sym, ap, ◌∙◌}
use mathlib.Core.Bool.{Bool, true, false}
use mathlib.Core.List.{List, [], ◌∷◌, map}
use Prim.Native.Nat.{ℕ, ◌+◌, ◌*◌, ◌/◌, ◌<◌, ◌≤◌}
use native.Mathlib.Omega.{arith}
use lib.Dec.{eqb, leb}
use borrow.Author.Tests.{eqb-true, eqb-false, leb-true}
use Rattle.lists.specs.Lists.{any, every, select, sum, count, merge, iterate}
use Rattle.lists.specs.All.{All, Ascending}
use Rattle.lists.proofs.Bools.{by_cases, or_false_left}
use Rattle.lists.proofs.Tests.{all_get}
use Rattle.settings.specs.Limits.{allowed, power, capacity, limit}
use Rattle.settings.proofs.Allowed.{allowed_bounds}
use Rattle.model.specs.declared.Tally.{Tally}
use Rattle.model.specs.Records.{State, empty, level}
use Rattle.model.specs.Coverage.{over, covers}
use Rattle.model.specs.Merge.{later, merged, settled, joined, freed}
use Rattle.model.specs.Steps.{merge_state, merge_level, overfull, overdue, due, pass_level, pass, still_due}
use Rattle.model.specs.Calls.{Call, Answer, Outcome, refusing, count_written, timed, prepared, finish, step}
use Rattle.model.proofs.StepView.{let_in_time, Accepted, accepted_ends, accepted_clock}
use Rattle.model.proofs.Demands as model
use Rattle.std.proofs.Common.{Option, None, Some, Result, Ok, Err}
use Rattle.model_wake.specs.Wake.{next_wake, Owes, tick_at, last_clock, no_change}
use Rattle.model_wake.specs.Wake as waking
use Rattle.model_wake.proofs.Smallest.{next_same, at_smallest, never_owes}
use Rattle.model_wake.proofs.Sleep as states
use Rattle.model_wake.proofs.Rest.{NoneDue}
use Rattle.model_wake.proofs.Quiet as quiet
use Rattle.tables.specs.Words.{Fits32}
use Rattle.tables.specs.Slots.{Slot, clock_of}
use Rattle.tables.specs.Rows.{settings_of, Row}
use Rattle.tables.specs.Sound.{chain, ascend, level_sound, levels_sound, record_slots, once_each, chains_sound, entries_fit, levels_fit, table_refusal}
use Rattle.tables.specs.Placed.{levels_as, state_as, read_state, lay, lay_all, entry_words, level_words}
use Rattle.tables.specs.Formed.{LevelFormed, Formed}
use Rattle.tables.proofs.Rows.{settings_back, level_row_at}
use Rattle.tables.proofs.Back.{formed_holds}
use Rattle.tables.proofs.Clocked as tables
use Rattle.tables.proofs.FormedLevels.{empty_formed}
use Rattle.tables.proofs.FormedSound.{words_sound, sound_words}
use Rattle.tables.proofs.FormedSteps.{timed_formed}
use Rattle.wake.specs.Wake.{owed_of, wake_tables}
use Rattle.call_tables.specs.Calls.{Tables, Called, lent, words, wrote, call_tables, run_tables, answers_tables}
use Rattle.call_tables.proofs.Runs.{called_words, run-words, answers-words, answers_sound, answers_unsound}
use Rattle.demands.specs.Hidden.{SameBut}
use Rattle.demands.specs.Sleep.{wake_of, Before, clocked, merges_in_all, Wakes, Unsettled}
use Rattle.demands.proofs.SameTables.{OnlyTallies, refusal_same}
use Rattle.demands.proofs.Numbers as accepted

-- The clock or 'none' that an answer tells.
told : Result (Option ℕ) ℕ → Option ℕ
told (Err n) = None
told (Ok x) = x

before_told : (t : ℕ) (x : Option ℕ) → Before t (Ok x) → waking.Before t x
before_told t None b = b
before_told t (Some m) b = b

-- "the smallest owed + limit …, or 'none'", by the rows of sound tables.
module _ (w : Tables) (sound : table_refusal w.entries w.levels ≡ 0) where
  asked : wake_of w ≡ Ok (next_wake (settings_of w.levels) (owed_of w.levels))
  unfolding wake_tables
  asked = rw sound

  tells : next_wake (settings_of w.levels) (owed_of w.levels) ≡ told (wake_of w)
  unfolding told
  tells = sym (ap told asked)

  pub wake_smallest : (m : ℕ) → wake_of w ≡ Ok (Some m) → Owes (settings_of w.levels) (owed_of w.levels) (settings_of w.levels).deepest m
  unfolding told
  wake_smallest m e = at_smallest (settings_of w.levels) (owed_of w.levels) (tells ∙ ap told e)

  pub wake_never : wake_of w ≡ Ok None → (i : ℕ) → i < (settings_of w.levels).deepest → owed_of w.levels i ≡ 0
  unfolding told
  wake_never e = never_owes (settings_of w.levels) (owed_of w.levels) (tells ∙ ap told e)

-- The words of a formed state.
module _ (n : ℕ) (p : State ℕ Tally) (f : Formed n p) where
  clock_is : clock_of (entry_words n p) ≡ p.clock
  clock_is = ap (λ (r : Slot). r.span) (formed_holds n p f).first

  wake_is : wake_of (words n p) ≡ Ok (waking.wake p)
  wake_is =
      asked (words n p) (words_sound n p f)
      ∙ ap (λ (x : Option ℕ). Ok x) (ap (λ s. next_wake s (owed_of (level_words p))) (settings_back p)
      ∙ next_same p.settings (owed_of (level_words p)) (λ i. (level i p).owed) (λ i h. ap (λ (r : Row). r.owed) (level_row_at p i (omega (arith, f.size)))))

  before_is : (t : ℕ) → Before t (wake_of (words n p)) → waking.Before t (waking.wake p)
  before_is t b = before_told t (waking.wake p) (rw wake_is at b)

  clocked-words : (t : ℕ) → p.clock ≤ t → words n (timed t p) ≡ clocked t (words n p)
  clocked-words t h =
      ap (λ (e : List ℕ). lent e (level_words (timed t p))) (sym (tables.clocked n t (entry_words n p) p (timed_formed n t p h f) (formed_holds n p f)))
      ∙ ap (lent _) (tables.timed_levels t p)

last_later : (t : ℕ) (ts : List ℕ) → Ascending leb (t ∷ ts) → t ≤ last_clock t ts
last_later t [] up = omega arith
last_later t (u ∷ ts) up = omega (arith, leb-true t u up.0.0, last_later u ts up.1)

all_before : (n : ℕ) (p : State ℕ Tally) → Formed n p → (ts : List ℕ) → All (λ t. Before t (wake_of (words n p))) ts → All (λ t. waking.Before t (waking.wake p)) ts
all_before n p f [] b = tt
all_before n p f (t ∷ ts) b = (before_is n p f t b.0, all_before n p f ts b.1)

-- In a formed state no level owes from later than the last clock.
pub settled_formed : (n : ℕ) (p : State ℕ Tally) → Formed n p → NoneDue p → states.Settled p
settled_formed n p f rests = record {
  none_due = rests;
  owed_by = λ i h. (all_get (LevelFormed p.clock) p.levels i empty f.levels_ok (empty_formed p.clock)).owed_clock;
}

-- And those of a settled one: what an accepted call has left.
module _ (n : ℕ) (p : State ℕ Tally) (f : Formed n p) (settled : states.Settled p) where
  pub sleeps_words : (t : ℕ) → 1 ≤ t → clock_of (entry_words n p) ≤ t → Before t (wake_of (words n p))
      → call_tables (words n p) (tick_at t) ≡ record { tables = clocked t (words n p); answer = no_change }
  sleeps_words t from_1 later b =
      let after : p.clock ≤ t = omega (arith, clock_is n p f) in
      called_words n p (tick_at t) f ∙ ap (wrote n) (states.sleeps p settled t from_1 after (before_is n p f t b))
      ∙ ap (λ (x : Tables). record { tables = x; answer = no_change }) (clocked-words n p f t after)

  module _ (begun : 1 ≤ p.clock) (ts : List ℕ) (up : Ascending leb (clock_of (entry_words n p) ∷ ts)) (b : All (λ t. Before t (wake_of (words n p))) ts) where
    onward : Ascending leb (p.clock ∷ ts)
    onward = rw (clock_is n p f) at up

    run_sleeps : run_tables (words n p) (map tick_at ts) ≡ clocked (last_clock (clock_of (entry_words n p)) ts) (words n p)
    run_sleeps =
        run-words n p (map tick_at ts) f ∙ ap (words n) (states.run_sleeps p settled begun ts onward (all_before n p f ts b))
        ∙ clocked-words n p f (last_clock p.clock ts) (last_later p.clock ts onward)
        ∙ ap (λ t. clocked (last_clock t ts) (words n p)) (sym (clock_is n p f))

    answers_sleep : answers_tables (words n p) (map tick_at ts) ≡ map (λ (t : ℕ). no_change) ts
    answers_sleep = answers-words n p (map tick_at ts) f ∙ states.answers_sleep p settled begun ts onward (all_before n p f ts b)

  formed_at : (i : ℕ) → LevelFormed p.clock (level i p)
  formed_at i = all_get (LevelFormed p.clock) p.levels i empty f.levels_ok (empty_formed p.clock)

  wakes_words : (m : ℕ) → wake_of (words n p) ≡ Ok (Some m) → Wakes m (words n p)
  unfolding told
  wakes_words m e =
      let at : waking.wake p ≡ Some m = ap told (sym (wake_is n p f) ∙ e) in
      let some : 0 < p.settings.buffer = omega (arith, (allowed_bounds p.settings f.settings_ok).buffer_low) in
      let w = states.wakes p settled some (λ i h o z. o ((formed_at i).owed_empty z)) m at in
      let called = called_words n p (tick_at m) f in
      record {
        after = rw (clock_is n p f) w.after;
        accepted = ap (λ (r : Called). r.answer.refusal) called ∙ w.accepted;
        merges = rw called w.merges;
      }

-- After an accepted call, on any tables of 32-bit words.
module _ (w : Tables) (c : Call Tally) (fits : Fits32 w.entries) (ok : (call_tables w c).answer.refusal ≡ 0) where
  abbrev n : ℕ
  n = accepted.n w c fits ok

  abbrev after : State ℕ Tally
  after = accepted.after w c fits ok

  formed : Formed n after
  formed = accepted.after_formed w c fits ok

  left : (call_tables w c).tables ≡ words n after
  left = ap (λ (r : Called). r.tables) (accepted.called w c fits ok)

  abbrev p : State ℕ Tally
  p = accepted.p w c fits ok

  ends : Accepted p c
  ends = accepted_ends p c (accepted.accept w c fits ok)

  timely : after.clock ≡ c.clock
  timely = ap (λ (r : Outcome ℕ Tally). r.state.clock) ends.ends ∙ accepted_clock p c

  begun : 1 ≤ after.clock
  begun = omega (arith, timely, eqb-false c.clock 0 (or_false_left (eqb c.clock 0) _ (let_in_time p.clock c ends.admitted)))

  at_rest : states.Settled after
  at_rest =
      let stay = accepted.settings_stay w c fits ok in
      settled_formed n after formed
      (λ i h. rw (timely, stay) (model.accepted_settles p c (accepted.deep w c fits ok) (accepted.accept w c fits ok) i (rw stay at h) (λ z. accepted.some w c fits ok)))

  pub sleeps : (t : ℕ) → clock_of (call_tables w c).tables.entries ≤ t → Before t (wake_of (call_tables w c).tables)
      → call_tables (call_tables w c).tables (tick_at t) ≡ record { tables = clocked t (call_tables w c).tables; answer = no_change }
  sleeps = rw left (λ t later. sleeps_words n after formed at_rest t (omega (arith, begun, clock_is n after formed)) later)

  pub sleeps_on : (ts : List ℕ) → Ascending leb (clock_of (call_tables w c).tables.entries ∷ ts) → All (λ t. Before t (wake_of (call_tables w c).tables)) ts
      → run_tables (call_tables w c).tables (map tick_at ts) ≡ clocked (last_clock (clock_of (call_tables w c).tables.entries) ts) (call_tables w c).tables
  sleeps_on = rw left (run_sleeps n after formed at_rest begun)

  pub sleeps_answers : (ts : List ℕ) → Ascending leb (clock_of (call_tables w c).tables.entries ∷ ts) → All (λ t. Before t (wake_of (call_tables w c).tables)) ts
      → answers_tables (call_tables w c).tables (map tick_at ts) ≡ map (λ (t : ℕ). no_change) ts
  sleeps_answers = rw left (answers_sleep n after formed at_rest begun)

  pub wakes : (m : ℕ) → wake_of (call_tables w c).tables ≡ Ok (Some m) → Wakes m (call_tables w c).tables
  wakes = rw left (wakes_words n after formed at_rest)

-- "a store without writes": on tables that are not sound every call is refused.
none_counted : (k : ℕ) (cs : List (Call Tally)) → sum (λ (r : Answer). r.merges) (map (λ (c : Call Tally). refusing k) cs) ≡ 0
unfolding sum
none_counted k [] = refl
none_counted k (c ∷ cs) = omega (arith, none_counted k cs)

pub quiet_merges : (w : Tables) → Fits32 w.entries → (cs : List (Call Tally)) → All (λ c. count_written c.op ≡ 0) cs
    → merges_in_all w cs ≤ (settings_of w.levels).deepest * ((settings_of w.levels).deepest + 1) / 2
unfolding state_as
quiet_merges w fits cs none = by_cases (eqb (table_refusal w.entries w.levels) 0) sound unsound
  where
    sound : eqb (table_refusal w.entries w.levels) 0 ≡ true → merges_in_all w cs ≤ (settings_of w.levels).deepest * ((settings_of w.levels).deepest + 1) / 2
    sound q =
        let h = eqb-true (table_refusal w.entries w.levels) 0 q in
        let p = read_state w.entries w.levels in
        let f = (sound_words w.entries w.levels fits h).formed in
        let deep : 0 < p.settings.deepest = omega (arith, (allowed_bounds p.settings f.settings_ok).deepest_low) in
        rw (answers_sound w h fits cs) (quiet.quiet_merges p cs deep none)

    unsound : eqb (table_refusal w.entries w.levels) 0 ≡ false → merges_in_all w cs ≤ (settings_of w.levels).deepest * ((settings_of w.levels).deepest + 1) / 2
    unsound q = rw (answers_unsound w q cs, none_counted (table_refusal w.entries w.levels) cs) (omega arith)

-- Tables that differ in tallies alone wake at the same clock.
pub wake_same : (hides : ℕ → Bool) → OnlyTallies hides → (w v : Tables) → SameBut hides w v → wake_of w ≡ wake_of v
unfolding wake_tables
wake_same hides only w v same =
    rw (refusal_same hides only w.entries v.entries same.entries w.levels, same.levels) refl

-- The store of one slot, computed.
pub unsettled : Unsettled
unfolding allowed every any select over covers sum count merge iterate power capacity limit chain ascend level_sound levels_sound record_slots once_each chains_sound
    entries_fit levels_fit table_refusal levels_as state_as lay lay_all entry_words level_words later merged settled joined freed merge_state merge_level overfull overdue
    due pass_level pass still_due prepared finish step next_wake wake_tables call_tables
unsettled = record { sound = refl; wakes_never = refl; merges = refl }
