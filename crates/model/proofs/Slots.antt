-- Free slots and records are always as many as there are slots.
use mathlib.Core.Path.{◌≡◌, refl, sym, ◌∙◌}
use mathlib.Core.Bool.{true}
use mathlib.Core.List.{List}
use Prim.Native.Nat.{ℕ, suc, ◌+◌}
use native.Mathlib.Omega.{arith}
use lib.ListN.{length}
use Rattle.settings.specs.declared.Settings.{Settings}
use Rattle.settings.specs.Limits.{allowed}
use Rattle.lists.proofs.Tests.{all_every}
use Rattle.lists.proofs.Counting.{sum_zeros, sum_ones, sum_same}
use Rattle.model.specs.Records.{Level, State, empty, held, held_all, fresh}
use Rattle.model.specs.Steps.{merge_state, enter, act_deepest}
use Rattle.model.specs.Calls.{Call, step, run}
use Rattle.model.proofs.Keeps.{Kept, step_keeps, run_keeps}
use Rattle.model.proofs.Form.{Formed, formed_kept, fresh_formed}
use Rattle.model.proofs.Weights.{weight, weigh_level, merge_weight, enter-weight, act_weight}

abbrev one : {S : Type 0} → S → ℕ
one x = 1

module _ {S A : Type 0} where
  -- Free slots and records: the weight where every slot weighs 1.
  abbrev pub slots : State S A → ℕ
  slots s = length s.free + held_all s.levels

  slots-weight : (s : State S A) → weight one s ≡ slots s
  slots-weight s =
      rw (sum_ones s.free, sum_same (weigh_level (λ (x : S). 1)) held (λ l. rw (sum_ones l.points, sum_ones l.ranges)) s.levels)

  keeps : (s x : State S A) → weight one x ≡ weight one s → slots x ≡ slots s
  keeps s x e = sym (slots-weight x) ∙ e ∙ slots-weight s

-- A store in form with n slots.
pub record Whole {S A : Type 0} (n : ℕ) (s : State S A) : Type 0 where
  pub formed : Formed s
  pub all : slots s ≡ n

module _ {S A : Type 0} (n : ℕ) where
  pub whole_kept : (c : Call A) → Kept {S = S} (Whole n) c
  whole_kept c = record {
    deep = λ s f. (formed_kept c).deep s f.formed;
    merging = λ i s h f. record
        { formed = (formed_kept c).merging i s h f.formed; all = keeps s (merge_state i s) (merge_weight one i s (omega (arith, f.formed.size))) ∙ f.all };
    entering = λ w s e r f. record
        { formed = (formed_kept c).entering w s e r f.formed; all = keeps s (enter c.clock w s) (enter-weight one c.clock w s (omega (arith, f.formed.size)) r) ∙ f.all };
    acting = λ w s e f. record
        { formed = (formed_kept c).acting w s e f.formed; all = keeps s (act_deepest c.clock w s) (act_weight one c.clock w s (omega (arith, f.formed.size))) ∙ f.all };
    timing = λ s f. record { formed = (formed_kept c).timing s f.formed; all = f.all };
  }

  pub step_whole : (s : State S A) (c : Call A) → Whole n s → Whole n (step s c).state
  step_whole s c f = step_keeps (Whole n) c (whole_kept c) s f

  pub run_whole : (s : State S A) (cs : List (Call A)) → Whole n s → Whole n (run s cs)
  run_whole s cs f = run_keeps (Whole n) s cs (all_every (Kept {S = S} (Whole n)) whole_kept cs) f

module _ {S A : Type 0} where
  pub fresh_whole : (settings : Settings) (free : List S) → allowed settings ≡ true → Whole (length free) (fresh {A = A} settings free)
  unfolding fresh
  fresh_whole settings free h = record
      { formed = fresh_formed settings free h; all = omega (arith, sum_zeros {X = Level S A} held (suc settings.deepest) empty refl) }
