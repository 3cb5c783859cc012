-- Levels worked on one after the other: a step for each level, and the merges of the steps added up.
use mathlib.Core.Path.{◌≡◌, refl, sym, ap, ◌∙◌}
use mathlib.Core.List.{List}
use Prim.Native.Nat.{ℕ, ◌+◌, ◌-◌, ◌<◌, ◌≤◌}
use native.Mathlib.Omega.{arith}
use native.Mathlib.Numerals.{add-one}
use Rattle.lists.specs.Lists.{iterate}
use Rattle.lists.proofs.Loops.{iterate_end, iterate_next}
use Rattle.model.specs.declared.Tally.{Tally}
use Rattle.model.specs.Records.{State}
use Rattle.model.specs.Steps.{Work, begin, merge_state, merge_level, merge_all}
use Rattle.model.proofs.Counted.{add, merge_level_adds}
use Rattle.model.proofs.Numbers.{merge_level-merges}
use Rattle.merge_levels.specs.Laid.{Store, Laid, at_state, Worked}

abbrev pub Step : Type 0
Step = ℕ → Work ℕ Tally → Work ℕ Tally

-- Merges counted before have no part in what a step does; it counts one more at most.
pub record Counts (step : Step) : Type 0 where
  pub adds : (k i : ℕ) (w : Work ℕ Tally) → step i (add k w) ≡ add k (step i w)
  pub one : (i : ℕ) (w : Work ℕ Tally) → (step i w).merges ≤ w.merges + 1
  pub settings : (i : ℕ) (s : State ℕ Tally) → (step i (begin s)).state.settings ≡ s.settings

pub merge_counts : Counts merge_level
unfolding merge_level merge_state
merge_counts = record { adds = λ k i w. merge_level_adds k i w; one = merge_level-merges; settings = λ i s. refl }

-- So a step on some work is the step on its state, with the merges before it.
step_after : (step : Step) → Counts step → (i : ℕ) (w : Work ℕ Tally) → step i w ≡ add w.merges (step i (begin w.state))
step_after step counts i w =
    let none : w.merges + 0 ≡ w.merges = omega arith in
    ap (λ (m : ℕ). step i (record { state = w.state; merges = m })) (sym none) ∙ counts.adds w.merges i (begin w.state)

-- Before level i: the tables hold a work from which the steps from i to L−1 lead to the goal.
pub record Reached (step : Step) (goal : Work ℕ Tally) (g : Store) (e l : List ℕ) (merges i : ℕ) : Type 0 where
  pub work : Work ℕ Tally
  pub worked : Worked g work e l merges
  pub settings : work.state.settings ≡ g.state.settings
  pub few : merges ≤ i
  pub here : i ≤ g.state.settings.deepest
  pub leads : iterate step i (g.state.settings.deepest - i) work ≡ goal

module _ {step : Step} {goal : Work ℕ Tally} {g : Store} {e l : List ℕ} {merges i : ℕ} where
  -- The store whose tables these are.
  abbrev pub reached_store : Reached step goal g e l merges i → Store
  reached_store w = at_state g w.work.state

  pub reached_level : (w : Reached step goal g e l merges i) → i < g.state.settings.deepest → i < w.work.state.settings.deepest
  reached_level w h = rw w.settings h

  -- One step more: its merges are added.
  module _ {e' l' : List ℕ} {r : ℕ} (counts : Counts step) (w : Reached step goal g e l merges i) (h : i < g.state.settings.deepest)
      (done : Worked (reached_store w) (step i (begin w.work.state)) e' l' r) where
    pub few_more : merges + r ≤ i + 1
    few_more = omega (arith, w.few, done.counts, counts.one i (begin w.work.state))

    pub reached_next : Reached step goal g e' l' (merges + r) (i + 1)
    reached_next =
        let after = step_after step counts i w.work in
        record {
          work = step i w.work;
          worked = rw after (record { laid = done.laid; counts = omega (arith, w.worked.counts, done.counts) });
          settings = ap (λ (x : Work ℕ Tally). x.state.settings) after ∙ counts.settings i w.work.state ∙ w.settings;
          few = few_more;
          here = omega arith;
          leads = sym (iterate_next step g.state.settings.deepest i w.work (i + 1) h (add-one i)) ∙ w.leads;
        }

  pub reached_end : Reached step goal g e l merges i → g.state.settings.deepest ≤ i → Worked g goal e l merges
  reached_end w h = rw (sym w.leads ∙ iterate_end step g.state.settings.deepest i w.work h) w.worked

-- "levels 0 to L−1 are first merged in order"
pub merge_all_begun : (g : Store) (e l : List ℕ) → Laid g e l → Reached merge_level (merge_all g.state) g e l 0 0
unfolding merge_all
merge_all_begun g e l laid = record {
  work = begin g.state;
  worked = record { laid = laid; counts = refl };
  settings = refl;
  few = omega arith;
  here = omega arith;
  leads = ap (λ k. iterate merge_level 0 k (begin g.state)) (omega arith);
}
