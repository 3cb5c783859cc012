-- The call of a delete, and all calls after it: once its term has passed, no mark of what it covered is left.
use mathlib.Core.Path.{◌≡◌, refl, sym, ap, ◌∙◌}
use mathlib.Core.Bool.{true, false, false≢true}
use mathlib.Core.List.{List, [], ◌∷◌}
use Prim.Native.Nat.{ℕ, ◌≤◌, ◌<◌}
use native.Mathlib.Omega.{arith}
use lib.ListN.{length, get_or, set, replicate}
use Rattle.settings.specs.declared.Settings.{Settings}
use Rattle.lists.specs.Lists.{any}
use Rattle.lists.specs.All.{All}
use Rattle.lists.proofs.Bools.{cond_elim, by_cases}
use Rattle.lists.proofs.Tests.{all_append, all_replicate, all_get}
use Rattle.model.specs.Records.{Level, State, empty, level}
use Rattle.model.specs.Merge.{merged, settled}
use Rattle.model.specs.Steps.{write_covers, Work, Write, put, delete, delete_range, single, unplaced, merge_all, crowded, make_room, full, write}
use Rattle.model.specs.Calls.{written, Call, prepared, step, run}
use Rattle.model.specs.Erasure.{accepted}
use Rattle.model.proofs.Coverage.{over_one}
use Rattle.model.proofs.Keeps.{has_room}
use Rattle.model.proofs.Form.{formed_kept}
use Rattle.model.proofs.StepView.{accepted_outcome, Accepted, accepted_ends}
use Rattle.model.proofs.Deepest.{only_set, Drained, merge_all_drained}
use Rattle.model.proofs.LookupSteps.{full_room}
use Rattle.model.proofs.Points.{acted, act_levels, enter-levels, merge_all_holding}
use Rattle.model.proofs.Timed.{let_in_clock}
use Rattle.model.proofs.Marks.{Mark, Keyed, Newer, KeyedLevel, NewerLevel, reaches, staying_newer}
use Rattle.model.proofs.Sinking.{Front, Sunk, front, front_down}
use Rattle.model.proofs.MarkedSteps.{QuietWrite, Quiet, MarksOf, NoMark, Sinking}
use Rattle.model.proofs.Erasing.{Fated, accepted_no_mark, accepted_sinking, run_fated}

module _ {A : Type 0} where
  -- What covers a put carries no mark.
  delete_quiet : (k b : ℕ) (w : Write (Mark A)) → write_covers w k b ≡ true → QuietWrite w
  delete_quiet k b (put n m) h = absurd (false≢true h)
  delete_quiet k b (delete n) h = tt
  delete_quiet k b (delete_range lo hi date) h = tt

module _ {S A : Type 0} where
  reaches-single : (x : S) (t : ℕ) (k b : ℕ) (w : Write (Mark A)) → write_covers w k b ≡ true → reaches (single x t w) k b ≡ true
  unfolding single any
  reaches-single x t k b (put n m) h = absurd (false≢true h)
  reaches-single x t k b (delete n) h = rw (sym (over_one n k) ∙ h)
  reaches-single x t k b (delete_range lo hi date) h = rw h

module _ {S A : Type 0} (k b : ℕ) where
  single_front : (x : S) (t : ℕ) (w : Write (Mark A)) → 0 < t → b ≤ t → write_covers w k b ≡ true → Front k b t (single x t w)
  unfolding single
  single_front x t (put n m) p l h = absurd (false≢true h)
  single_front x t (delete n) p l h = record { newer = ((refl, λ e. l), tt); reach = reaches-single x t k b (delete n) h; owes = (p, omega arith) }
  single_front x t (delete_range lo hi date) p l h = record { newer = tt; reach = reaches-single x t k b (delete_range lo hi date) h; owes = (p, omega arith) }

  -- On level L it wipes every mark of its docket.
  acted_erases : (t : ℕ) (w : Write (Mark A)) (l : Level S (Mark A)) → write_covers w k b ≡ true → KeyedLevel k b l → All (Newer k b) (acted t w l.points)
  acted_erases t (put n m) l h a = absurd (false≢true h)
  acted_erases t (delete n) l h a = staying_newer k b (unplaced t (delete n)) l.points (reaches-single {S = Unit {0}} tt t k b (delete n) h) a
  acted_erases t (delete_range lo hi date) l h a =
      staying_newer k b (unplaced t (delete_range lo hi date)) l.points (reaches-single {S = Unit {0}} tt t k b (delete_range lo hi date) h) a

  entered_front : (d : ℕ) (w : Level S (Mark A)) (ls : List (Level S (Mark A))) → 0 < length ls → Front k b d w → All (KeyedLevel k b) ls
      → Sunk k b d (set ls 0 (merged w (get_or ls 0 empty)))
  entered_front d w [] h f a = absurd (omega arith)
  entered_front d w (l ∷ ls) h f a = front (front_down k b d w l f a.0) a.1

-- The delete's call c comes at b or later, to a store whose marks are of docket k at b, and covers them.
module _ {S A : Type 0} (k b : ℕ) (s : State S (Mark A)) (c : Call (Mark A)) (w : Write (Mark A)) (is : c.op ≡ written w) (covers : write_covers w k b ≡ true)
    (late : b ≤ c.clock) (marks : MarksOf k b s) (acc : accepted s c ≡ true) where
  ends : Accepted s c
  ends = accepted_ends s c acc

  quiet : Quiet c
  quiet = rw is (delete_quiet k b w covers)

  all_merged : MarksOf k b (merge_all s).state
  all_merged = merge_all_holding (Keyed k b) s marks

  -- It acted on level L.
  direct_clean : full c.clock w s ≡ true → NoMark k b (write c.clock w s).state
  unfolding write
  direct_clean h =
      let room : (make_room c.clock w s).state ≡ m = ap (λ (x : Work S (Mark A)). x.state) (full_room c.clock w s h) in
      rw (h, room) ((formed_kept c).acting w m is all_merged.0, rw (act_levels c.clock w m) emptied)
    where
      m : State S (Mark A)
      m = (merge_all s).state

      d : Drained s m
      d = merge_all_drained s marks.0

      i : ℕ
      i = m.settings.deepest

      v : Level S (Mark A)
      v = record { points = acted c.clock w (level i m).points; ranges = (level i m).ranges; owed = (level i m).owed }

      n : ℕ
      n = s.settings.deepest

      same : i ≡ n
      same = ap (λ (x : Settings). x.deepest) d.same

      emptied : All (NewerLevel k b) (set m.levels i v)
      emptied =
          rw (ap (λ j. set m.levels j v) same ∙ ap (λ ls. set ls n v) d.levels ∙ only_set n (settled d.source) v)
          (all_append (NewerLevel k b) (replicate n empty) (v ∷ []) (all_replicate (NewerLevel k b) n empty tt)
          (acted_erases k b c.clock w (level i m) covers (all_get (KeyedLevel k b) m.levels i empty all_merged.1 tt), tt))

  -- It entered the buffer, over levels whose marks are of its docket.
  entered_sunk : full c.clock w s ≡ false → Sinking k b c.clock (write c.clock w s).state
  unfolding write
  entered_sunk h =
      let r : State S (Mark A) = (make_room c.clock w s).state in
      let room : MarksOf k b r = roomed in
      let slot = has_room c.clock w s h in
      let positive : 0 < c.clock = (let_in_clock s.clock c ends.admitted).0 in
      rw h (
        (formed_kept c).entering w r is slot room.0,
        enter-levels (Sunk k b c.clock) c.clock w r slot (λ x.
            entered_front k b c.clock (single x c.clock w) r.levels (omega (arith, room.0.size)) (single_front k b x c.clock w positive late covers) room.1),
      )
    where
      roomed : MarksOf k b (make_room c.clock w s).state
      roomed = unfold make_room in cond_elim (λ (x : Work S (Mark A)). MarksOf k b x.state) (crowded c.clock w s) (merge_all s) _ (λ g. all_merged) (λ g. marks)

  prepared-write : prepared c.clock c.op s ≡ write c.clock w s
  unfolding prepared
  prepared-write = rw is

  pub delete_fated : (cs : List (Call (Mark A))) → All Quiet cs → Fated k b c.clock (run (step s c).state cs)
  delete_fated cs q = run_fated k b c.clock (step s c).state cs q (rw ends.ends (by_cases (full c.clock w s) acting entering))
    where
      acting : full c.clock w s ≡ true → Fated k b c.clock (accepted_outcome s c).state
      acting a = accepted_no_mark k b c.clock s c quiet late (rw prepared-write (direct_clean a))

      entering : full c.clock w s ≡ false → Fated k b c.clock (accepted_outcome s c).state
      entering a = accepted_sinking k b c.clock s c quiet late (rw prepared-write (entered_sunk a))
