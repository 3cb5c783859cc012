-- A write acted out on level L of a store: its put's tally and stamp changed there, or what a delete covers wiped.
use mathlib.Core.Path.{◌≡◌, refl, sym, ap, subst, ◌∙◌}
use mathlib.Core.Logic.{◌≢◌}
use mathlib.Core.Bool.{Bool, true, false, true≢false}
use mathlib.Core.List.{List, [], ◌∷◌, map}
use Prim.Native.Nat.{ℕ, ◌+◌, ◌-◌, ◌≤◌}
use native.Mathlib.Omega.{arith}
use lib.Dec.{eqb}
use lib.ListN.{length, set, length-map}
use Rattle.lists.specs.Lists.{select, reject}
use Rattle.lists.proofs.Bools.{cond_elim}
use Rattle.lists.proofs.Tests.{length-select}
use Rattle.model.specs.declared.Tally.{Tally}
use Rattle.model.specs.Records as model
use Rattle.model.specs.Records.{Point, State, empty, level, stored}
use Rattle.model.specs.Merge.{point_goes, point_slots, release}
use Rattle.model.specs.Steps.{Write, put, delete, delete_range, unplaced, overwrite, set_points, wipe, act_deepest}
use Rattle.model.specs.Calls.{timed}
use Rattle.tables.specs.Rows.{settings_of, Row, set_row}
use Rattle.tables.specs.Placed.{Cell, free_cell, point_cell, range_cell, head, level_chains, level_words, row_of_level}
use Rattle.tables.specs.Formed.{Formed}
use Rattle.tables.proofs.Cells.{holds_one}
use Rattle.tables.proofs.Back.{point_cell_slots}
use Rattle.tables.proofs.Deepest.{deepest_puts}
use Rattle.tables.proofs.FormedSteps.{acted_at, formed_at, at_formed}
use Rattle.chain_cells.specs.Held.{Held, top}
use Rattle.chain_cells.specs.Sifting.{OneHeld, Sifted}
use Rattle.chain_cells.specs.declared.Cursor.{Cursor}
use Rattle.table_slots.specs.declared.Kind.TheVariants as kinds
use Rattle.merge_join.specs.Joining.{level_of}
use Rattle.table_levels.specs.declared.Level.{Level}
use Rattle.merge_levels.specs.Laid.{Store, Laid}
use Rattle.table_levels.specs.Levels.{level_at}
use Rattle.merge_levels.proofs.Store.{laid_deepest, laid_formed}
use Rattle.write_record.specs.Records.{record_of, displaces}
use Rattle.write_act.specs.Acting.{Points, PointsHeld, Overwritten, can_act, Acted}
use Rattle.write_record.specs.declared.Record.{Record}
use Rattle.chain_cells.proofs.Bounds.{first_head_fits, second_head_fits, two_few}
use Rattle.write_record.proofs.OneLevel.{words_set, words_stay, level_out, level_back, points_of, row_is, points_asked}
use Rattle.write_record.proofs.Dooms.{points_gone, points_left}
use Rattle.write_act.proofs.Named.{written_over, untouched}

-- A row by its words.
words_are : {a b c d : ℕ} (r : Row) → a ≡ r.points → b ≡ r.ranges → c ≡ r.held → d ≡ r.owed → record { points = a; ranges = b; held = c; owed = d } ≡ r
words_are r p q s t = rw (p, q, s, t)

-- The points of level L, and all that is beside them.
abbrev pub deepest_points : Store → Points
deepest_points g = record {
  slots = g.slots;
  clock = g.state.clock;
  free = g.state.free;
  points = (level g.state.settings.deepest g.state).points;
  others = map range_cell (level g.state.settings.deepest g.state).ranges ∷ level_chains (set g.state.levels g.state.settings.deepest empty);
}

-- A put in a point's place has its slot.
overwritten_slot : (k : ℕ) (a : Tally) (t : ℕ) (ps : List (Point ℕ Tally)) → head (map point_cell (map (overwrite k a t) ps)) ≡ head (map point_cell ps)
overwritten_slot k a t [] = refl
overwritten_slot k a t (p ∷ ps) = cond_elim (λ (q : Point ℕ Tally). q.slot ≡ p.slot) (eqb p.key k) (written_over a t p) p (λ e. refl) (λ e. refl)

-- At the clock of the call a write acts as at the last one.
timed_act : (t : ℕ) (v : Write Tally) (p : State ℕ Tally) → timed t (act_deepest t v p) ≡ act_deepest t v (timed t p)
unfolding act_deepest wipe set_points
timed_act t (put k a) p = refl
timed_act t (delete k) p = refl
timed_act t (delete_range lo hi date) p = refl

act_clock : (t : ℕ) (v : Write Tally) (p : State ℕ Tally) → (act_deepest t v p).clock ≡ p.clock
unfolding act_deepest wipe set_points
act_clock t (put k a) p = refl
act_clock t (delete k) p = refl
act_clock t (delete_range lo hi date) p = refl

-- Every write but a put wipes.
act_wipes : (t : ℕ) (v : Write Tally) (p : State ℕ Tally) → (record_of v).kind ≢ kinds.Put → act_deepest t v p ≡ wipe (unplaced t v) p.settings.deepest p
unfolding act_deepest
act_wipes t (put k a) p ne = absurd (ne refl)
act_wipes t (delete k) p ne = refl
act_wipes t (delete_range lo hi date) p ne = refl

wiping_can : (v : Write Tally) (p : State ℕ Tally) → (record_of v).kind ≢ kinds.Put → true ≡ can_act v p
wiping_can (put k a) p ne = absurd (ne refl)
wiping_can (delete k) p ne = refl
wiping_can (delete_range lo hi date) p ne = refl

module _ {g : Store} {e l : List ℕ} (laid : Laid g e l) where
  module _ {d : ℕ} (deep : d ≡ (settings_of l).deepest) {r : Level} (row : r ≡ level_at l d) where
    -- What the code has read of the row of level L.
    deepest_row : r ≡ level_at l g.state.settings.deepest
    deepest_row = row ∙ ap (level_at l) (deep ∙ laid_deepest g e l laid)

    pub overwrite_asked : PointsHeld (deepest_points g) e r.points
    overwrite_asked =
        let i : ℕ = g.state.settings.deepest in
        record {
          held = level_out laid i;
          head_is = ap (λ (x : Level). x.points) (row_is laid g.state.settings.deepest (omega arith) deepest_row);
          keys = (laid_formed g e l laid i).keys;
          ascend = (laid_formed g e l laid i).points_ascend;
          puts = (deepest_puts g.slots (timed g.time g.state) laid.formed).0;
        }

    pub wipe_asked : OneHeld (points_of g g.state.settings.deepest) e r.points
    wipe_asked = points_asked laid g.state.settings.deepest (omega arith) deepest_row

    -- The row of level L without the points that went fits its words, whatever went.
    module _ {test : Cell → Bool} {e' : List ℕ} {m : Cursor} (s : Sifted test (points_of g g.state.settings.deepest) e' m) where
      held_is : r.held ≡ length (level g.state.settings.deepest g.state).points + length (level g.state.settings.deepest g.state).ranges
      held_is = ap (λ (x : Level). x.held) (row_is laid g.state.settings.deepest (omega arith) deepest_row)

      pub fewer_gone : m.gone ≤ r.held
      fewer_gone =
          let i : ℕ = g.state.settings.deepest in
          omega (
            arith,
            s.counts,
            held_is,
            length-select test (map point_cell (level i g.state).points),
            length-map (level i g.state).points point_cell,
          )

      pub wiped_row_fits : (m.head ≤ 65535) × (r.ranges ≤ 65535) × (r.held - m.gone ≤ 65535)
      wiped_row_fits =
          let i : ℕ = g.state.settings.deepest in (
            rw s.head_is (first_head_fits s.held),
            rw (row_is laid g.state.settings.deepest (omega arith) deepest_row) (second_head_fits (level_out laid i)),
            omega (
              arith,
              held_is,
              two_few (level_out laid i),
              length-map (level i g.state).points point_cell,
              length-map (level i g.state).ranges range_cell,
            ),
          )

  module _ (low : 1 ≤ g.time) where
    -- The state acted on is one that sound tables can hold.
    acted_formed : (v : Write Tally) → Formed g.slots (timed g.time (act_deepest g.time v g.state))
    acted_formed v =
        let p : State ℕ Tally = timed g.time g.state in
        rw (timed_act g.time v g.state)
        (at_formed g.slots g.time p (act_deepest g.time v p) laid.formed
        (acted_at g.time p low v p (formed_at g.slots g.time p (omega arith) laid.formed)) (act_clock g.time v p))

    module _ (k : ℕ) (a : Tally) {e' : List ℕ} {found : Bool} (o : Overwritten (deepest_points g) k a g.time e' found) where
      -- A docket that level L lacks: the points are as they were, and so is the table.
      put_kept : found ≡ false → e' ≡ e
      put_kept q =
          let p : State ℕ Tally = g.state in
          let d : Points = deepest_points g in
          let chains : List (List Cell) = map point_cell d.points ∷ d.others in
          let same : Held g.slots p.clock p.free chains e' = rw (untouched k a g.time d.points (sym o.found_is ∙ q)) at o.held in
          holds_one g.slots (top p.free p.clock) (map free_cell p.free ∷ chains) e' e same.once.each same.holds
          (level_out laid p.settings.deepest).holds

      -- The slots stay, and so does the row of level L.
      put_acted : Acted g (put k a) e l e' l found
      unfolding act_deepest set_points
      put_acted =
          let p : State ℕ Tally = g.state in
          let i : ℕ = p.settings.deepest in
          let v : model.Level ℕ Tally = record { points = map (overwrite k a g.time) (level i p).points; ranges = (level i p).ranges; owed = (level i p).owed } in
          let same : row_of_level v ≡ row_of_level (level i p) =
          rw (overwritten_slot k a g.time (level i p).points, length-map (level i p).points (overwrite k a g.time)) in
          record {
            laid = level_back laid i v p.free o.held (acted_formed (put k a)) (laid.levels ∙ sym (words_stay p p.free i v same));
            done_is = o.found_is;
            kept = λ q. (put_kept q, refl);
          }

    -- The same in the words of the code's record and clock.
    pub put_ends : (v : Write Tally) {w : Record} → w ≡ record_of v → w.kind ≡ kinds.Put → {clock : ℕ} → g.time ≡ clock → {e' : List ℕ} {found : Bool}
        → Overwritten (deepest_points g) w.lo w.tally clock e' found → Acted g v e l e' l found
    put_ends (put k a) is one {clock} t {e'} {found} o =
        put_acted k a (rw (← t) at (subst (λ (x : Record). Overwritten (deepest_points g) x.lo x.tally clock e' found) is o))
    put_ends (delete k) is one t o = let other = ap (λ (x : Record). x.kind) is in cc
    put_ends (delete_range lo hi date) is one t o = let other = ap (λ (x : Record). x.kind) is in cc

    module _ (v : Write Tally) {w : Record} (is : w ≡ record_of v) (ne : w.kind ≢ kinds.Put)
        {d : ℕ} (deep : d ≡ (settings_of l).deepest) {r : Level} (row : r ≡ level_at l d)
        {e' : List ℕ} {m : Cursor} (s : Sifted (displaces w) (points_of g g.state.settings.deepest) e' m) where
      -- The row that the code leaves.
      abbrev left_row : Row
      left_row = record { points = m.head; ranges = r.ranges; held = r.held - m.gone; owed = r.owed }

      wiping : (record_of v).kind ≢ kinds.Put
      wiping q = ne (ap (λ (x : Record). x.kind) is ∙ q)

      deepest_level : model.Level ℕ Tally
      deepest_level = level g.state.settings.deepest g.state

      goes : Point ℕ Tally → Bool
      goes = point_goes (unplaced g.time v)

      -- What is left of level L.
      wiped : model.Level ℕ Tally
      wiped = record { points = reject goes deepest_level.points; ranges = deepest_level.ranges; owed = deepest_level.owed }

      -- The cells that went and those that stayed are those of the points.
      gone≡ : select (displaces w) (map point_cell deepest_level.points) ≡ map point_cell (select goes deepest_level.points)
      unfolding deepest_level goes
      gone≡ = points_gone tt g.time v w is deepest_level.points (laid_formed g e l laid g.state.settings.deepest).keys

      left≡ : reject (displaces w) (map point_cell deepest_level.points) ≡ map point_cell (reject goes deepest_level.points)
      unfolding deepest_level goes
      left≡ = points_left tt g.time v w is deepest_level.points (laid_formed g e l laid g.state.settings.deepest).keys

      wiped_held : Held g.slots g.state.clock (release (point_slots (select goes deepest_level.points)) g.state.free)
          (map point_cell wiped.points ∷ map range_cell wiped.ranges ∷ level_chains (set g.state.levels g.state.settings.deepest empty)) e'
      unfolding deepest_level wiped
      wiped_held = rw (gone≡, left≡, point_cell_slots (select goes deepest_level.points)) at s.held

      wiped_row : left_row ≡ row_of_level wiped
      unfolding deepest_level wiped
      wiped_row =
          let r≡ : r ≡ level_of deepest_level = row_is laid g.state.settings.deepest (omega arith) (deepest_row deep row) in
          let gone : m.gone ≡ length (select goes deepest_level.points) =
          s.counts ∙ ap length gone≡ ∙ length-map (select goes deepest_level.points) point_cell in
          words_are (row_of_level wiped) (s.head_is ∙ ap head left≡) (ap (λ (x : Level). x.ranges) r≡)
          (omega (arith, ap (λ (x : Level). x.held) r≡, length-select goes deepest_level.points)) (ap (λ (x : Level). x.owed) r≡)

      wipe_acted : Acted g v e l e' (set_row l d left_row) true
      unfolding wipe set_points deepest_level goes wiped
      wipe_acted =
          let p : State ℕ Tally = g.state in
          let i : ℕ = p.settings.deepest in
          let free : List ℕ = release (point_slots (select goes deepest_level.points)) p.free in
          let state≡ : act_deepest g.time v p ≡ stored p free (set p.levels i wiped) = act_wipes g.time v p wiping in
          record {
            laid = rw state≡ (level_back laid i wiped free wiped_held (rw state≡ at (acted_formed v))
                (ap (λ ws. set_row ws d left_row) laid.levels
                ∙ ap (λ k. set_row (level_words p) k left_row) (deep ∙ laid_deepest g e l laid)
                ∙ ap (set_row (level_words p) i) wiped_row ∙ sym (words_set p free i wiped (omega (arith, laid.formed.size)))));
            done_is = wiping_can v p wiping;
            kept = λ q. absurd (true≢false q);
          }

      pub wipe_ends : {l' : List ℕ} → l' ≡ set_row l d left_row → Acted g v e l e' l' true
      wipe_ends words = rw words wipe_acted
