-- What each part of a call does to marks: none is made, and a delete that sinks goes on sinking.
use mathlib.Core.Path.{◌≡◌, refl}
use mathlib.Core.Bool.{true, false, false≢true}
use Prim.Native.Nat.{ℕ, suc, ◌≤◌, ◌<◌}
use native.Mathlib.Omega.{arith}
use lib.Dec.{eqb}
use Rattle.lists.proofs.Bools.{both_false}
use Rattle.model.specs.Records.{value, Point, State}
use Rattle.model.specs.Steps.{Write, put, delete, delete_range, single, merge_state}
use Rattle.model.specs.Calls.{Op, written, flush, tick, Call}
use Rattle.model.proofs.Keeps.{Kept}
use Rattle.model.proofs.Form.{Formed, formed_kept}
use Rattle.model.proofs.LookupSteps.{last_only}
use Rattle.model.proofs.Points.{Holding, Writes, act_levels, enter-levels, acted_points, holding_kept, holding_weaken}
use Rattle.model.proofs.Marks.{Mark, is_marked, Keyed, Newer}
use Rattle.model.proofs.Sinking.{Sunk, Fits, sunk_merge, sunk_enter, sunk_act}

module _ {A : Type 0} where
  -- A write that carries no mark; one at t that carries it of docket k at b only.
  abbrev pub QuietWrite : Write (Mark A) → Type 0
  QuietWrite (put n m) = is_marked (value m) ≡ false
  QuietWrite (delete n) = Unit {0}
  QuietWrite (delete_range lo hi date) = Unit {0}

  abbrev pub QuietOp : Op (Mark A) → Type 0
  QuietOp (written w) = QuietWrite w
  QuietOp flush = Unit {0}
  QuietOp tick = Unit {0}

  abbrev pub Quiet : Call (Mark A) → Type 0
  Quiet c = QuietOp c.op

  abbrev pub KeyedWrite : ℕ → ℕ → ℕ → Write (Mark A) → Type 0
  KeyedWrite k b t (put n m) = is_marked (value m) ≡ true → (n ≡ k) × (t ≡ b)
  KeyedWrite k b t (delete n) = Unit {0}
  KeyedWrite k b t (delete_range lo hi date) = Unit {0}

  abbrev pub KeyedOp : ℕ → ℕ → ℕ → Op (Mark A) → Type 0
  KeyedOp k b t (written w) = KeyedWrite k b t w
  KeyedOp k b t flush = Unit {0}
  KeyedOp k b t tick = Unit {0}

  abbrev pub KeyedCall : ℕ → ℕ → Call (Mark A) → Type 0
  KeyedCall k b c = KeyedOp k b c.clock c.op

module _ {S A : Type 0} (k b : ℕ) where
  -- Marked as `Keyed` says, and not stamped after t.
  abbrev pub KeyedUpto : ℕ → Point S (Mark A) → Type 0
  KeyedUpto t p = Keyed k b p × (p.stamp ≤ t)

  quiet_keyed : (t : ℕ) (w : Write (Mark A)) → QuietWrite w → Writes {S = S} (Keyed k b) t w
  unfolding single
  quiet_keyed t (put n m) q x = ((λ h. both_false h q), tt)
  quiet_keyed t (delete n) q x = ((λ h. absurd (false≢true h)), tt)
  quiet_keyed t (delete_range lo hi date) q x = tt

  quiet_newer : (t : ℕ) (w : Write (Mark A)) → b ≤ t → QuietWrite w → Writes {S = S} (Newer k b) t w
  unfolding single
  quiet_newer t (put n m) h q x = ((q, λ e. h), tt)
  quiet_newer t (delete n) h q x = ((refl, λ e. h), tt)
  quiet_newer t (delete_range lo hi date) h q x = tt

  keyed_upto : (t : ℕ) (w : Write (Mark A)) → KeyedWrite k b t w → Writes {S = S} (KeyedUpto t) t w
  unfolding single
  keyed_upto t (put n m) q x = ((q, omega arith), tt)
  keyed_upto t (delete n) q x = (((λ h. absurd (false≢true h)), omega arith), tt)
  keyed_upto t (delete_range lo hi date) q x = tt

pub fits : {S A : Type 0} (i : ℕ) (s : State S (Mark A)) → Formed s → i < s.settings.deepest → Fits (eqb (suc i) s.settings.deepest) i s.levels
fits i s f h = (omega (arith, f.size), last_only i s f)

-- Properties of a store in form. Before the delete: marks of docket k at b only, and no stamp after t. After it: all points newer, so that no mark is left; or the
-- delete, which came at d, sinks.
module _ {S A : Type 0} (k b : ℕ) where
  abbrev pub MarksOf : State S (Mark A) → Type 0
  MarksOf = Holding (Keyed k b)

  abbrev pub MarksUpto : ℕ → State S (Mark A) → Type 0
  MarksUpto t = Holding (KeyedUpto k b t)

  abbrev pub NoMark : State S (Mark A) → Type 0
  NoMark = Holding (Newer k b)

  abbrev pub Sinking : ℕ → State S (Mark A) → Type 0
  Sinking d s = Formed s × Sunk k b d s.levels

  pub marks_upto_kept : (c : Call (Mark A)) → KeyedCall k b c → Kept (MarksUpto c.clock) c
  marks_upto_kept c q = holding_kept (KeyedUpto k b c.clock) c (λ w e. keyed_upto k b c.clock w (rw e at q))

  pub marks_upto_later : (t u : ℕ) (s : State S (Mark A)) → t ≤ u → MarksUpto t s → MarksUpto u s
  marks_upto_later t u s h = holding_weaken (KeyedUpto k b t) (KeyedUpto k b u) (λ p q. (q.0, omega (arith, q.1))) s

  -- After the put, calls come at b or later.
  module _ (c : Call (Mark A)) (q : Quiet c) (h : b ≤ c.clock) where
    pub no_mark_kept : Kept NoMark c
    no_mark_kept = holding_kept (Newer k b) c (λ w e. quiet_newer k b c.clock w h (rw e at q))

    pub sinking_kept : (d : ℕ) → Kept (Sinking d) c
    unfolding merge_state
    sinking_kept d = record {
      deep = λ s p. (formed_kept c).deep s p.0;
      merging = λ i s l p. ((formed_kept c).merging i s l p.0, sunk_merge k b d _ i s.levels (fits i s p.0 l) p.1);
      entering = λ w s e m p. (
        (formed_kept c).entering w s e m p.0,
        enter-levels (Sunk k b d) c.clock w s m (λ x.
            sunk_enter k b d (single x c.clock w) s.levels (omega (arith, p.0.size)) (quiet_newer k b c.clock w h (rw e at q) x) p.1),
      );
      acting = λ w s e p. (
        (formed_kept c).acting w s e p.0,
        rw (act_levels c.clock w s) (sunk_act k b d s.settings.deepest _ s.levels p.0.size
            (λ a. acted_points (Newer k b) c.clock w _ (quiet_newer k b c.clock w h (rw e at q)) a)
            (λ a. acted_points (Keyed k b) c.clock w _ (quiet_keyed k b c.clock w (rw e at q)) a) p.1),
      );
      timing = λ s p. ((formed_kept c).timing s p.0, p.1);
    }
