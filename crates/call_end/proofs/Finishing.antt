-- The end of a call: what its pass is handed, and what it leaves.
use mathlib.Core.Path.{◌≡◌, sym, ◌∙◌}
use mathlib.Core.List.{List}
use Prim.Native.Nat.{ℕ, ◌+◌, ◌-◌, ◌≤◌}
use native.Mathlib.Omega.{arith}
use Rattle.settings.proofs.Allowed.{allowed_bounds}
use Rattle.model.specs.declared.Tally.{Tally}
use Rattle.model.specs.Records.{State, held_all}
use Rattle.model.specs.Steps.{begin, pass}
use Rattle.model.proofs.Numbers.{pass-merges_most}
use Rattle.tables.specs.Slots.{set_clock}
use Rattle.tables.proofs.Clocked.{clocked, timed_levels}
use Rattle.merge_levels.specs.Laid.{Store, Worked, at_state}
use Rattle.table_levels.specs.Levels.{RowsAre}
use Rattle.merge_levels.proofs.Free.{laid_rows}
use Rattle.call_end.specs.Ending.{Ending, Ended}

-- A call at its end, and the tables once its pass is done.
module _ {g : Store} {e l : List ℕ} {t before merges : ℕ} (d : Ending g e l t before merges) {e' l' : List ℕ} {more : ℕ}
    (w : Worked g (pass t (begin g.state)) e' l' more) where
  abbrev after : State ℕ Tally
  after = (pass t (begin g.state)).state

  pub merges_fit : merges + more ≤ 12
  merges_fit =
      let b = allowed_bounds g.state.settings d.laid.formed.settings_ok in
      omega (arith, d.few, w.counts, b.deepest_high, pass-merges_most t (begin g.state))

  pub after_rows : RowsAre after l'
  after_rows = laid_rows (at_state g after) e' l' w.laid

  module _ {held : ℕ} (adds : held ≡ held_all after.levels) where
    pub held_fits : held ≤ before
    held_fits = omega (arith, d.enough)

    pub ended : Ended g t before merges (set_clock e' t) l' (record { merges = merges + more; purged = before - held })
    ended = record {
      entries = rw d.time_is at (clocked g.slots g.time e' after w.laid.formed w.laid.entries);
      levels = w.laid.levels ∙ sym (timed_levels t after);
      answer = rw (w.counts, adds);
    }
