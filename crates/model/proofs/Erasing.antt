-- From the call of a delete to the end of its term: how each call brings what it covered closer to its end.
use mathlib.Core.Path.{◌≡◌, refl, sym, ap, ◌∙◌}
use mathlib.Core.Bool.{true}
use mathlib.Core.List.{List, [], ◌∷◌}
use Prim.Native.Nat.{ℕ, suc, ◌+◌, ◌-◌, ◌≤◌, ◌<◌}
use native.Mathlib.Omega.{arith}
use lib.Dec.{eqb}
use borrow.Author.Tests.{ne_eqb, le-leb}
use Rattle.settings.specs.declared.Settings.{Settings}
use Rattle.settings.specs.Limits.{limit}
use Rattle.settings.proofs.Limits.{limit-term}
use Rattle.lists.specs.All.{All}
use Rattle.lists.proofs.Bools.{cond_elim, both_false, or_right}
use Rattle.lists.proofs.Loops.{iterate_holds}
use Rattle.model.specs.Records.{Level, State, level, held}
use Rattle.model.specs.Steps.{Work, begin, merge_state, merge_level, merge_all, overfull, overdue, due, pass_level, pass}
use Rattle.model.specs.Calls.{tick, Call, Outcome, prepared, step, run}
use Rattle.model.proofs.Keeps.{Kept, pass_keeps, prepared_kept}
use Rattle.model.proofs.Form.{Formed, formed_kept}
use Rattle.model.proofs.StepView.{worked, accepted_outcome, StepView, turned_away, refused_7, passed, step_view}
use Rattle.model.proofs.Timed.{let_in_clock, merge_all-clock}
use Rattle.model.proofs.Marks.{Mark, Since}
use Rattle.model.proofs.Sinking.{erased, SunkFrom, from_advance, from_skip, from_end}
use Rattle.model.proofs.MarkedSteps.{Quiet, fits, NoMark, Sinking, no_mark_kept, sinking_kept}

module _ {S A : Type 0} (k b d : ℕ) where
  -- A level that has owed since d is due at t, once the term has passed.
  due_since : (settings : Settings) → 2 ≤ settings.ratio → 2 ≤ settings.deepest → (t i : ℕ) (l : Level S (Mark A)) → i < settings.deepest
      → settings.term ≤ t - d → Since d l.owed → due settings t i l ≡ true
  unfolding due overdue
  due_since settings two deep t i l h late o =
      rw (ne_eqb l.owed 0 (omega arith), le-leb (limit settings i) (t - l.owed) (omega (arith, limit-term settings two deep i h)))
      (or_right (overfull settings i (held l)) true refl)

  -- The first n levels are newer and below them the delete sinks, under these settings.
  record Advancing (settings : Settings) (n : ℕ) (w : Work S (Mark A)) : Type 0 where
    form : Formed w.state
    here : SunkFrom k b d n w.state.levels
    same : w.state.settings ≡ settings

  advance : (settings : Settings) (i : ℕ) (w : Work S (Mark A)) → i < settings.deepest → Advancing settings i w → Advancing settings (suc i) (merge_level i w)
  unfolding merge_level merge_state
  advance settings i w h p =
      let inside : i < w.state.settings.deepest = rw p.same h in
      record {
        form = (formed_kept (record { clock = 0; op = tick })).merging i w.state inside p.form;
        here = from_advance k b d i (eqb (suc i) w.state.settings.deepest) w.state.levels (fits i w.state p.form inside) p.here;
        same = p.same;
      }

  -- Past the last level no mark is left.
  ended : (settings : Settings) (w : Work S (Mark A)) → Advancing settings (0 + settings.deepest) w → NoMark k b w.state
  ended settings w p =
      let last : 0 + settings.deepest ≡ settings.deepest = omega arith in
      (p.form, from_end k b d (0 + settings.deepest) w.state.levels (p.form.size ∙ ap suc (ap (λ (x : Settings). x.deepest) p.same ∙ sym last)) p.here)

  started : (w : Work S (Mark A)) → Sinking k b d w.state → Advancing w.state.settings 0 w
  started w p = record { form = p.0; here = p.1; same = refl }

  -- Merging all levels erases.
  merge_all_erases : (s : State S (Mark A)) → Sinking k b d s → NoMark k b (merge_all s).state
  unfolding merge_all
  merge_all_erases s p = ended s.settings (merge_all s)
      (iterate_holds merge_level (Advancing s.settings) s.settings.deepest 0 (begin s) (λ i w from to q. advance s.settings i w (omega arith) q) (started (begin s) p))

  -- So does a pass at the term: every level that has owed since d is merged.
  module _ (t : ℕ) where
    pass_level_advances : (settings : Settings) (i : ℕ) (w : Work S (Mark A)) → i < settings.deepest → settings.term ≤ t - d → Advancing settings i w → Advancing settings (suc i) (pass_level t i w)
    unfolding pass_level
    pass_level_advances settings i w h late p =
        cond_elim (Advancing settings (suc i)) (due w.state.settings t i (level i w.state)) (merge_level i w) w
        (λ g. advance settings i w h p)
        (λ g. record {
          form = p.form;
          here = from_skip k b d i w.state.levels
              (λ o. both_false (due_since w.state.settings p.form.wide p.form.deep t i (level i w.state) (rw p.same h) (rw p.same late) o) g) p.here;
          same = p.same;
        })

    pass_erases : (w : Work S (Mark A)) → w.state.settings.term ≤ t - d → Sinking k b d w.state → NoMark k b (pass t w).state
    unfolding pass
    pass_erases w late p =
        let settings : Settings = w.state.settings in
        ended settings (pass t w)
        (iterate_holds (pass_level t) (Advancing settings) settings.deepest 0 w (λ i x from to q. pass_level_advances settings i x (omega arith) late q) (started w p))

-- The delete sinks, and once its term has passed no mark is left.
pub record Fated {S A : Type 0} (k b d : ℕ) (s : State S (Mark A)) : Type 0 where
  pub late : b ≤ s.clock
  pub sinks : Sinking k b d s
  pub done : s.settings.term ≤ s.clock - d → NoMark k b s

module _ {S A : Type 0} (k b d : ℕ) where
  clean_fated : (s : State S (Mark A)) → b ≤ s.clock → NoMark k b s → Fated k b d s
  clean_fated s l p = record { late = l; sinks = (p.0, erased p.1); done = λ late. p }

  -- A quiet call at b or later, and its pass.
  module _ (s : State S (Mark A)) (c : Call (Mark A)) (q : Quiet c) (h : b ≤ c.clock) where
    pub accepted_no_mark : NoMark k b (prepared c.clock c.op s).state → Fated k b d (accepted_outcome s c).state
    unfolding accepted_outcome worked
    accepted_no_mark p =
        let nk : Kept {S = S} (NoMark k b) c = no_mark_kept k b c q h in
        clean_fated _ h (nk.timing _ (pass_keeps (NoMark k b) nk.deep nk.merging c.clock (prepared c.clock c.op s) p).0)

    pub accepted_sinking : Sinking k b d (prepared c.clock c.op s).state → Fated k b d (accepted_outcome s c).state
    unfolding accepted_outcome worked
    accepted_sinking p =
        let w : Work S (Mark A) = prepared c.clock c.op s in
        let sk : Kept {S = S} (Sinking k b d) c = sinking_kept k b c q h d in
        let kept = pass_keeps (Sinking k b d) sk.deep sk.merging c.clock w p in
        record {
          late = h;
          sinks = sk.timing _ kept.0;
          done = λ late. (no_mark_kept k b c q h).timing _ (pass_erases k b d c.clock w (rw kept.1 at late) p);
        }

  -- Every call that follows keeps it so.
  step_fated : (s : State S (Mark A)) (c : Call (Mark A)) → Quiet c → Fated k b d s → Fated k b d (step s c).state
  step_fated s c q f = go (step s c) (step_view s c)
    where
      go : (r : Outcome S (Mark A)) → StepView s c r → Fated k b d r.state
      go r (turned_away a) = f
      go r (refused_7 a g) =
          clean_fated (merge_all s).state (rw (merge_all-clock s (omega (arith, f.sinks.0.deep))) f.late) (merge_all_erases k b d s f.sinks)
      go r (passed a g) =
          let h : b ≤ c.clock = omega (arith, f.late, (let_in_clock s.clock c a).1) in
          accepted_sinking s c q h (prepared_kept (Sinking k b d) c (sinking_kept k b c q h d) s f.sinks)

  pub run_fated : (s : State S (Mark A)) (cs : List (Call (Mark A))) → All Quiet cs → Fated k b d s → Fated k b d (run s cs)
  unfolding run
  run_fated s [] q f = f
  run_fated s (c ∷ cs) q f = run_fated (step s c).state cs q.1 (step_fated s c q.0 f)
