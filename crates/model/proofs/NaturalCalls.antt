-- Every call and every list of calls commutes with a change of tags and tallies, and their answers see neither.
use mathlib.Core.Path.{◌≡◌, refl, sym, ap, ◌∙◌}
use mathlib.Core.Bool.{cond}
use mathlib.Core.List.{List, [], ◌∷◌, map}
use Prim.Native.Nat.{ℕ, zero, suc, max}
use lib.Dec.{leb, eqb}
use lib.ListN.{length, take, get_or-map, replicate}
use Rattle.lists.proofs.Bools.{cond_ap}
use Rattle.settings.specs.declared.Settings.{Settings}
use Rattle.model.specs.Records.{Entry, value, tombstone, Point, Range, Level, State, empty, fresh, slotless}
use Rattle.model.specs.Steps.{Work, Write, put, delete, delete_range, begin, pass, merge_all, still_due}
use Rattle.model.specs.Lookup.{Found, absent, reads, latest, judged, find, lookup_from, lookup}
use Rattle.model.specs.Calls.{Op, written, flush, tick, Call, Outcome, bad_docket, bad_date, early_refusal, count_written, prepared, out_of_slots, refused, finish, step, run, answers}
use Rattle.model.specs.Erasure.{call_at, erases, accepted, before, Erased}
use Rattle.model.specs.Renaming.{map_entry, map_found, map_point, map_range, map_level, map_state, map_work, map_write, map_op, map_call, map_outcome}
use Rattle.model.proofs.NaturalMerge.{held_all-map}
use Rattle.model.proofs.NaturalSteps.{merge_level_map, merge_all_map, write_map, no_slot_map, pass_map, still_due_map}

written_same : {A : Type 0} {v w : Write A} → written v ≡ written w → v ≡ w
written_same e = cc

module _ {S T A B : Type 0} (g : S → T) (f : A → B) where
  empties_map : (n : ℕ) → map (map_level g f) (replicate n empty) ≡ replicate n empty
  empties_map zero = refl
  empties_map (suc n) = ap (◌∷◌ empty) (empties_map n)

  pub fresh-map : (settings : Settings) (slots : List S) → fresh settings (map g slots) ≡ map_state g f (fresh settings slots)
  unfolding fresh
  fresh-map settings slots = rw (empties_map settings.deepest)

  bad_docket_map : (op : Op A) → bad_docket (map_op f op) ≡ bad_docket op
  bad_docket_map (written (put k a)) = refl
  bad_docket_map (written (delete k)) = refl
  bad_docket_map (written (delete_range lo hi date)) = refl
  bad_docket_map flush = refl
  bad_docket_map tick = refl

  bad_date_map : (t : ℕ) (op : Op A) → bad_date t (map_op f op) ≡ bad_date t op
  bad_date_map t (written (put k a)) = refl
  bad_date_map t (written (delete k)) = refl
  bad_date_map t (written (delete_range lo hi date)) = refl
  bad_date_map t flush = refl
  bad_date_map t tick = refl

  count_written_map : (op : Op A) → count_written (map_op f op) ≡ count_written op
  count_written_map (written w) = refl
  count_written_map flush = refl
  count_written_map tick = refl

  prepared_map : (t : ℕ) (op : Op A) (s : State S A) → prepared t (map_op f op) (map_state g f s) ≡ map_work g f (prepared t op s)
  unfolding prepared
  prepared_map t (written w) s = write_map g f t w s
  prepared_map t flush s = merge_level_map g f 0 (begin s)
  prepared_map t tick s = refl

  out_of_slots_map : (t : ℕ) (op : Op A) (s : State S A) → out_of_slots t (map_op f op) (map_state g f s) ≡ out_of_slots t op s
  out_of_slots_map t (written w) s = no_slot_map g f t w s
  out_of_slots_map t flush s = refl
  out_of_slots_map t tick s = refl

  finish_map : (t : ℕ) (op : Op A) (s : State S A) (w : Work S A) → finish t (map_op f op) (map_state g f s) (map_work g f w) ≡ map_outcome g f (finish t op s w)
  unfolding finish
  finish_map t op s w =
      rw (pass_map g f t w, still_due_map g f t (pass t w).state, held_all-map g f s.levels, held_all-map g f (pass t w).state.levels, count_written_map op)
      (sym (cond_ap (map_outcome g f) (still_due t (pass t w).state) _ _))

  pub step_map : (s : State S A) (c : Call A) → step (map_state g f s) (map_call f c) ≡ map_outcome g f (step s c)
  unfolding step
  step_map s c =
      let t : ℕ = c.clock in
      let last : Outcome S A = finish t c.op s (prepared t c.op s) in
      let second : Outcome S A = cond (out_of_slots t c.op s) (refused 7 (merge_all s).state) last in
      rw (
        bad_docket_map c.op,
        bad_date_map t c.op,
        out_of_slots_map t c.op s,
        merge_all_map g f s,
        prepared_map t c.op s,
        finish_map t c.op s (prepared t c.op s),
        ← (cond_ap (map_outcome g f) (out_of_slots t c.op s) (refused 7 (merge_all s).state) last),
      )
      (sym (cond_ap (map_outcome g f) (eqb (early_refusal s.clock c) 0) second (refused (early_refusal s.clock c) s)))

  pub run-map : (s : State S A) (cs : List (Call A)) → run (map_state g f s) (map (map_call f) cs) ≡ map_state g f (run s cs)
  unfolding run
  run-map s [] = refl
  run-map s (c ∷ cs) = ap (λ (r : Outcome T B). run r.state (map (map_call f) cs)) (step_map s c) ∙ run-map (step s c).state cs

  pub answers-map : (s : State S A) (cs : List (Call A)) → answers (map_state g f s) (map (map_call f) cs) ≡ answers s cs
  unfolding answers
  answers-map s [] = refl
  answers-map s (c ∷ cs) = rw (step_map s c, answers-map (step s c).state cs)

  reads_map : (e : Entry A) (t : ℕ) → reads (map_entry f e) t ≡ map_found f (reads e t)
  reads_map (value a) t = refl
  reads_map tombstone t = refl

  judged_map : (date : ℕ) (e : Entry A) (t : ℕ) → judged date (map_entry f e) t ≡ map_found f (judged date e t)
  judged_map date e t = rw (reads_map e t) (sym (cond_ap (map_found f) (leb t date) absent (reads e t)))

  find-map : (date : ℕ) (ps : List (Point S A)) (k : ℕ) (d : Found A) → find date (map (map_point g f) ps) k (map_found f d) ≡ map_found f (find date ps k d)
  unfolding find
  find-map date [] k d = refl
  find-map date (p ∷ ps) k d = rw (judged_map date p.entry p.stamp, find-map date ps k d) (sym (cond_ap (map_found f) (eqb p.key k) _ _))

  latest-map : (rs : List (Range S)) (k : ℕ) → latest (map (map_range g f) rs) k ≡ latest rs k
  unfolding latest
  latest-map [] k = refl
  latest-map (r ∷ rs) k = rw (latest-map rs k)

  lookup_from-map : (date : ℕ) (ls : List (Level S A)) (k : ℕ) → lookup_from date (map (map_level g f) ls) k ≡ map_found f (lookup_from date ls k)
  unfolding lookup_from
  lookup_from-map date [] k = refl
  lookup_from-map date (l ∷ ls) k = rw (latest-map l.ranges k, lookup_from-map (max date (latest l.ranges k)) ls k, find-map date l.points k)

  pub lookup-map : (ls : List (Level S A)) (k : ℕ) → lookup (map (map_level g f) ls) k ≡ map_found f (lookup ls k)
  lookup-map ls k = lookup_from-map 0 ls k

  -- Which put is erased.
  pub accepted_map : (s : State S A) (c : Call A) → accepted (map_state g f s) (map_call f c) ≡ accepted s c
  unfolding accepted
  accepted_map s c = rw (step_map s c)

  take-map : (n : ℕ) (cs : List (Call A)) → take n (map (map_call f) cs) ≡ map (map_call f) (take n cs)
  take-map zero cs = refl
  take-map (suc n) [] = refl
  take-map (suc n) (c ∷ cs) = ap (◌∷◌ (map_call f c)) (take-map n cs)

  call_at-map : (cs : List (Call A)) (i : ℕ) → call_at (map (map_call f) cs) i ≡ map_call f (call_at cs i)
  call_at-map cs i = get_or-map (map_call f) cs i (record { clock = 0; op = tick })

  erases_map : (t : ℕ) (w : Write A) (k b : ℕ) → erases t (map_write f w) k b ≡ erases t w k b
  erases_map t (put n a) k b = refl
  erases_map t (delete n) k b = refl
  erases_map t (delete_range lo hi date) k b = refl

  before-map : (s : State S A) (cs : List (Call A)) (j : ℕ) → before (map_state g f s) (map (map_call f) cs) j ≡ map_state g f (before s cs j)
  before-map s cs j = rw (take-map j cs) (run-map s (take j cs))

  -- What the changed list shows of a put and a delete, the list itself shows.
  pub erased_map : (s : State S A) (cs : List (Call A)) (i j k : ℕ) (a : A) (w : Write A) → (call_at cs i).op ≡ written (put k a) → (call_at cs j).op ≡ written w
      → Erased (map_state g f s) (map (map_call f) cs) i j k (f a) → Erased s cs i j k a
  erased_map s cs i j k a w p q e =
      let same : map_write f w ≡ e.write = written_same (ap (map_op f) (sym q) ∙ ap (λ (c : Call B). c.op) (sym (call_at-map cs j)) ∙ e.is_write) in
      let d : Call A = call_at cs j in
      let b : ℕ = (call_at cs i).clock in
      record {
        is_put = p;
        after = e.after;
        write = w;
        is_write = q;
        covers = sym (erases_map d.clock w k b) ∙ ap (λ v. erases d.clock v k b) same ∙ (rw (call_at-map cs i, call_at-map cs j) at e.covers);
        accept = sym (rw (before-map s cs j, call_at-map cs j) (accepted_map (before s cs j) d)) ∙ e.accept;
        term = rw (call_at-map cs j, run-map s cs) at e.term;
      }

-- What became of a delete does not hang on which slots are free, only on their number.
module _ {A : Type 0} where
  same_call : (c : Call A) → map_call (λ x. x) c ≡ c
  same_call c = ap (λ (op : Op A). record { clock = c.clock; op = op }) (go c.op)
    where
      go : (op : Op A) → map_op (λ x. x) op ≡ op
      go (written (put k a)) = refl
      go (written (delete k)) = refl
      go (written (delete_range lo hi date)) = refl
      go flush = refl
      go tick = refl

  same_calls : (cs : List (Call A)) → map (map_call (λ x. x)) cs ≡ cs
  same_calls [] = refl
  same_calls (c ∷ cs) = rw (same_call c, same_calls cs)

no_slots : {S : Type 0} (slots : List S) → map (λ (x : S). tt {0}) slots ≡ replicate (length slots) (tt {0})
no_slots [] = refl
no_slots (x ∷ slots) = ap (◌∷◌ tt) (no_slots slots)

module _ {S A : Type 0} where
  pub erased_with_slots : (settings : Settings) (slots : List S) (cs : List (Call A)) (i j k : ℕ) (a : A)
      → Erased (slotless (length slots) settings) cs i j k a → Erased (fresh settings slots) cs i j k a
  erased_with_slots settings slots cs i j k a e =
      erased_map (λ (x : S). tt {0}) (λ (x : A). x) (fresh settings slots) cs i j k a e.write e.is_put e.is_write
      (rw (sym (fresh-map (λ (x : S). tt {0}) (λ (x : A). x) settings slots), no_slots slots, same_calls cs) e)

  -- Without its slots the state that a list leaves is the one that it leaves where no slot is told.
  pub run-slotless : (settings : Settings) (slots : List S) (cs : List (Call A))
      → run (slotless (length slots) settings) cs ≡ map_state (λ (x : S). tt {0}) (λ (x : A). x) (run (fresh settings slots) cs)
  run-slotless settings slots cs =
      rw (sym (fresh-map (λ (x : S). tt {0}) (λ (x : A). x) settings slots), no_slots slots, same_calls cs) at
      (run-map (λ (x : S). tt {0}) (λ (x : A). x) (fresh settings slots) cs)

  -- Nor do the answers of a list.
  pub answers-slotless : (settings : Settings) (slots : List S) (cs : List (Call A)) → answers (fresh settings slots) cs ≡ answers (slotless (length slots) settings) cs
  answers-slotless settings slots cs =
      sym (answers-map (λ (x : S). tt {0}) (λ (x : A). x) (fresh settings slots) cs)
      ∙ rw (sym (fresh-map (λ (x : S). tt {0}) (λ (x : A). x) settings slots), no_slots slots, same_calls cs)
