-- A write entered into the buffer of a store.
use mathlib.Core.Path.{◌≡◌, refl, sym, ap, ◌∙◌}
use mathlib.Core.Bool.{false}
use mathlib.Core.List.{List, [], ◌∷◌}
use Prim.Native.Nat.{ℕ, ◌≤◌}
use native.Mathlib.Omega.{arith}
use lib.ListN.{set, length-map}
use Rattle.lists.specs.Lists.{none}
use Rattle.model.specs.declared.Tally.{Tally}
use Rattle.model.specs.Records as model
use Rattle.model.specs.Records.{State, empty, level, stored}
use Rattle.model.specs.Merge.{release, merged}
use Rattle.model.specs.Steps.{Write, single, displaced, enter_at, enter}
use Rattle.model.specs.Calls.{written, bad_docket, bad_date, timed}
use Rattle.tables.specs.Rows.{set_row}
use Rattle.tables.specs.Placed.{point_cell, range_cell, level_chains, level_words}
use Rattle.tables.specs.Formed.{Formed}
use Rattle.tables.proofs.FormedSteps.{entered_at, formed_at, at_formed}
use Rattle.table_levels.specs.declared.Level.{Level}
use Rattle.merge_levels.specs.Laid.{Store, Laid, at_state}
use Rattle.table_levels.specs.Levels.{level_at, row_at}
use Rattle.merge_levels.proofs.Store.{laid_formed}
use Rattle.merge_levels.proofs.Pair.{read_level}
use Rattle.write_record.specs.Records.{record_of}
use Rattle.write_enter.specs.Entering.{Entry, EntryHeld, Entered, Entering}
use Rattle.write_record.specs.declared.Record.{Record}
use Rattle.chain_cells.proofs.Bounds.{first_head_fits, second_head_fits, two_few}
use Rattle.write_record.proofs.OneLevel.{words_set, level_out, level_back}

-- The buffer of a store, a write, and the chains of the other levels.
abbrev pub entry : Store → Write Tally → Entry
entry g v = record {
  slots = g.slots;
  clock = g.state.clock;
  time = g.time;
  write = v;
  free = g.state.free;
  buffer = level 0 g.state;
  others = level_chains (set g.state.levels 0 empty);
}

-- What the entry asks for, of the tables of a store.
pub entry_asked : {g : Store} {e l : List ℕ} {clock : ℕ} {w : Record} {buffer : Level} (v : Write Tally)
    → Laid g e l → g.time ≡ clock → w ≡ record_of v → bad_docket (written v) ≡ false
    → none (release (displaced clock v g.state) g.state.free) ≡ false → buffer ≡ level_at l 0 → EntryHeld (entry g v) e buffer clock w
entry_asked {g} {e} {l} v laid t is d room row = record {
  held = level_out laid 0;
  buffer_is = row ∙ read_level g e l laid 0 (omega arith);
  formed = laid_formed g e l laid 0;
  time_is = sym t;
  write_is = is;
  dockets = d;
  room = ap (λ (k : ℕ). none (release (displaced k v g.state) g.state.free)) t ∙ room;
}

-- The same of a store with room for a write.
pub entering_asked : {g : Store} {e l : List ℕ} {clock : ℕ} {w : Record} {buffer : Level} (n : Entering g e l clock w) → buffer ≡ level_at l 0
    → EntryHeld (entry g n.write) e buffer clock w
entering_asked n = entry_asked n.write n.laid n.time_is n.write_is n.dockets n.room

module _ {g : Entry} {e : List ℕ} {r : Level} (n : Entered g e r) where
  result : model.Level ℕ Tally
  result = merged (single n.first g.time g.write) g.buffer

  -- The entered buffer's row fits its words.
  pub row_fits : (r.points ≤ 65535) × (r.ranges ≤ 65535) × (r.held ≤ 65535)
  unfolding result
  row_fits = (
    rw n.buffer_is (first_head_fits n.held),
    rw n.buffer_is (second_head_fits n.held),
    rw n.buffer_is (omega (arith, two_few n.held, length-map result.points point_cell, length-map result.ranges range_cell)),
  )

-- The entry leaves the clock, and does not hang on it.
timed-enter_at : (t : ℕ) (v : Write Tally) (p : State ℕ Tally) (free : List ℕ) → timed t (enter_at t v p free) ≡ enter_at t v (timed t p) free
unfolding enter_at
timed-enter_at t v p [] = refl
timed-enter_at t v p (x ∷ free) = refl

enter_at-clock : (t : ℕ) (v : Write Tally) (p : State ℕ Tally) (free : List ℕ) → (enter_at t v p free).clock ≡ p.clock
unfolding enter_at
enter_at-clock t v p [] = refl
enter_at-clock t v p (x ∷ free) = refl

module _ {g : Store} {e l : List ℕ} (v : Write Tally) (laid : Laid g e l) (low : 1 ≤ g.time) (d : bad_docket (written v) ≡ false)
    (day : bad_date g.time (written v) ≡ false) (room : none (release (displaced g.time v g.state) g.state.free) ≡ false) where
  entered_formed : Formed g.slots (timed g.time (enter g.time v g.state))
  unfolding enter
  entered_formed =
      let p : State ℕ Tally = timed g.time g.state in
      let free : List ℕ = release (displaced g.time v g.state) g.state.free in
      rw (timed-enter_at g.time v g.state free)
      (at_formed g.slots g.time p (enter g.time v p) laid.formed
      (entered_at g.time p low v p d day room (formed_at g.slots g.time p (omega arith) laid.formed)) (enter_at-clock g.time v p free))

  -- The tables with the entered buffer and its row hold the words of the entered state.
  entered_laid : {e' : List ℕ} {r : Level} → Entered (entry g v) e' r → Laid (at_state g (enter g.time v g.state)) e' (set_row l 0 (row_at r))
  unfolding enter enter_at
  entered_laid {e'} {r} n =
      let p : State ℕ Tally = g.state in
      let buffer : model.Level ℕ Tally = merged (single n.first g.time v) (level 0 p) in
      let state≡ : enter g.time v p ≡ stored p n.rest (set p.levels 0 buffer) = ap (enter_at g.time v p) n.free in
      rw state≡
      (level_back laid 0 buffer n.rest n.held (rw state≡ at entered_formed)
      (ap (λ ws. set_row ws 0 (row_at r)) laid.levels ∙ ap (λ (x : Level). set_row (level_words p) 0 (row_at x)) n.buffer_is
      ∙ sym (words_set p n.rest 0 buffer (omega (arith, laid.formed.size)))))

-- The same at the clock of the code.
pub entry_ends : {g : Store} {e l e' l' : List ℕ} {clock : ℕ} {r : Level} (v : Write Tally)
    → Laid g e l → 1 ≤ clock → g.time ≡ clock → bad_docket (written v) ≡ false → bad_date clock (written v) ≡ false
    → none (release (displaced clock v g.state) g.state.free) ≡ false → Entered (entry g v) e' r → l' ≡ set_row l 0 (row_at r)
    → Laid (at_state g (enter clock v g.state)) e' l'
entry_ends {g} v laid low t d day room n words =
    rw (← t, words) (entered_laid v laid (omega arith) d (ap (λ (k : ℕ). bad_date k (written v)) t ∙ day)
    (ap (λ (k : ℕ). none (release (displaced k v g.state) g.state.free)) t ∙ room) n)
