-- The pass, part by part: a level merged if it is due, and the merges of the parts added up.
use mathlib.Core.Path.{◌≡◌, refl, sym, ap, ◌∙◌}
use mathlib.Core.Bool.{Bool, true, false, cond}
use mathlib.Core.List.{List}
use Prim.Native.Nat.{ℕ, ◌+◌, ◌<◌, ◌≤◌}
use native.Mathlib.Omega.{arith}
use Rattle.settings.specs.declared.Settings.{Settings}
use Rattle.settings.specs.declared.LevelSettings.{LevelSettings}
use Rattle.settings.specs.Limits.{allowed}
use Rattle.settings.specs.Carried.{at_level, Carried}
use Rattle.settings.proofs.Allowed.{Allowed}
use Rattle.settings.proofs.Carried.{carried_at}
use Rattle.lists.specs.Lists.{iterate}
use Rattle.model.specs.declared.Tally.{Tally}
use Rattle.model.specs.Records.{State, level}
use Rattle.model.specs.Steps.{Work, begin, merge_level, due, pass_level, pass}
use Rattle.model.proofs.Counted.{pass_level_adds}
use Rattle.model.proofs.Numbers.{pass_level-merges}
use Rattle.merge_levels.specs.Laid.{Store, Laid, Worked}
use Rattle.tables.specs.Rows.{settings_of}
use Rattle.merge_levels.proofs.Store.{laid_settings, laid_allowed}
use Rattle.merge_levels.proofs.Turns.{Step, Counts, merge_counts, Reached}

-- A level that is merged if a test holds: what follows where it fails, and where it holds.
module _ (test : Bool) (i : ℕ) (g : Store) (e l : List ℕ) where
  abbrev merged_if : Work ℕ Tally
  merged_if = cond test (merge_level i (begin g.state)) (begin g.state)

  unmerged : test ≡ false → Laid g e l → Worked g merged_if e l 0
  unmerged q laid = rw q (record { laid = laid; counts = refl })

  merged : {merges : ℕ} → test ≡ true → Worked g (merge_level i (begin g.state)) e l merges → Worked g merged_if e l merges
  merged q w = rw q w

module _ (g : Store) (e l : List ℕ) where
  pub level_stays : (t i : ℕ) → due g.state.settings t i (level i g.state) ≡ false → Laid g e l → Worked g (pass_level t i (begin g.state)) e l 0
  unfolding pass_level
  level_stays t i q laid = unmerged (due g.state.settings t i (level i g.state)) i g e l q laid

  pub level_merged : {merges : ℕ} (t i : ℕ) → due g.state.settings t i (level i g.state) ≡ true → Worked g (merge_level i (begin g.state)) e l merges
      → Worked g (pass_level t i (begin g.state)) e l merges
  unfolding pass_level
  level_merged t i q w = merged (due g.state.settings t i (level i g.state)) i g e l q w

-- Merged or not, the settings stay.
same_settings : (test : Bool) (i : ℕ) (s : State ℕ Tally) → (cond test (merge_level i (begin s)) (begin s)).state.settings ≡ s.settings
same_settings true i s = merge_counts.settings i s
same_settings false i s = refl

pub pass_counts : (t : ℕ) → Counts (pass_level t)
unfolding pass_level
pass_counts t = record {
  adds = λ k i w. pass_level_adds k t i w;
  one = pass_level-merges t;
  settings = λ i s. same_settings (due s.settings t i (level i s)) i s;
}

-- The pass begins at the buffer.
pub pass_begun : (t : ℕ) (g : Store) (e l : List ℕ) → Laid g e l → Reached (pass_level t) (pass t (begin g.state)) g e l 0 0
unfolding pass
pass_begun t g e l laid = record {
  work = begin g.state;
  worked = record { laid = laid; counts = refl };
  settings = refl;
  few = omega arith;
  here = omega arith;
  leads = ap (λ k. iterate (pass_level t) 0 k (begin g.state)) (omega arith);
}

-- The same level by another name.
pub reached_as : {step : Step} {goal : Work ℕ Tally} {g : Store} {e l : List ℕ} {merges i j : ℕ} → j ≡ i → Reached step goal g e l merges i
    → Reached step goal g e l merges j
reached_as q w = rw q w

-- The settings as the code has read them, and what it carries to a level of the pass.
module _ (g : Store) (e l : List ℕ) (laid : Laid g e l) (s : Settings) (read : s ≡ settings_of l) where
  settings_same : s ≡ g.state.settings
  settings_same = read ∙ laid_settings g e l laid

  pub read_allowed : Allowed s
  read_allowed = rw settings_same (laid_allowed g e l laid)

  pub read_ok : allowed s ≡ true
  read_ok = rw settings_same laid.formed.settings_ok

  pub read_above : (i : ℕ) → i < s.deepest → i < g.state.settings.deepest
  read_above i h = rw (← settings_same) h

  pub read_below : (i : ℕ) → s.deepest ≤ i → g.state.settings.deepest ≤ i
  read_below i h = rw (← settings_same) h

  module _ (at : LevelSettings) (here : at ≡ at_level s at.level) where
    pub read_carried : at.level < s.deepest → Carried at
    read_carried h = carried_at s at.level (read_ok, h) at here

    pub read_same : {step : Step} {goal : Work ℕ Tally} {e' l' : List ℕ} {merges i : ℕ} (w : Reached step goal g e' l' merges i)
        → w.work.state.settings ≡ at.settings
    read_same w = w.settings ∙ sym settings_same ∙ sym (ap (λ (x : LevelSettings). x.settings) here)

-- What is carried first, and what next.
pub first_here : (s : Settings) (at : LevelSettings) → at ≡ at_level s 0 → (at ≡ at_level s at.level) × (at.level ≡ 0)
first_here s at is = rw is (refl, refl)

pub next_here : (s : Settings) (at next : LevelSettings) → at ≡ at_level s at.level → next ≡ at_level at.settings (at.level + 1)
    → (next ≡ at_level s next.level) × (next.level ≡ at.level + 1)
next_here s at next here is =
    let same : at.settings ≡ s = ap (λ (x : LevelSettings). x.settings) here in
    let level≡ : next.level ≡ at.level + 1 = ap (λ (x : LevelSettings). x.level) is in
    (is ∙ ap (λ (r : Settings). at_level r (at.level + 1)) same ∙ ap (at_level s) (sym level≡), level≡)
