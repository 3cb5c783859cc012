-- What a plain map has for a docket is what the last accepted put of it said, if no accepted delete that covers that put came after. By induction over the list,
-- for a map of any rows: what a docket had before the list counts too, as long as no accepted call of the list overrides it.
use mathlib.Core.Path.{◌≡◌, refl, sym, ap, ◌∙◌}
use mathlib.Core.Logic.{◌↔◌, ◌⊎◌, inl, inr}
use mathlib.Core.Bool.{Bool, true, false}
use mathlib.Core.List.{List, [], ◌∷◌, map}
use Prim.Native.Nat.{ℕ, zero, suc, ◌<◌, ◌≤◌}
use native.Mathlib.Omega.{arith}
use lib.Dec.{eqb, ltb}
use borrow.Author.Tests.{eqb-true, eqb-false, eq-eqb, ne_eqb, ltb-false}
use Rattle.settings.specs.declared.Settings.{Settings}
use Rattle.settings.specs.Limits.{allowed}
use Rattle.lists.proofs.Bools.{by_cases}
use Rattle.lists.proofs.Counting.{Distinct}
use Rattle.model.specs.declared.Tally.{Tally}
use Rattle.model.specs.Coverage.{over, covers}
use Rattle.model.specs.Steps.{put, delete, delete_range}
use Rattle.model.specs.Lookup.{Found, absent, found}
use Rattle.model.specs.Calls.{Op, written, flush, tick, Call, Answer, bad_docket}
use Rattle.model.specs.Erasure.{call_at}
use Rattle.model.specs.PlainMap.{PlainMap, get, map_refusal, map_step, map_run, map_refusals, no_rows}
use Rattle.model.proofs.Levels.{uncovered}
use Rattle.model.proofs.LookupSteps.{after_op}
use Rattle.model.proofs.PlainMaps.{keys, get-changed, distinct_step}
use Rattle.check_refusal.proofs.Refusals.{allowed_high}
use Rattle.lookup.specs.Lookup as answer
use Rattle.lookup.specs.Lookup.{answered, lookup_tables, numbers}
use Rattle.lookup.proofs.Numbers.{refused_exactly}
use Rattle.call_tables.specs.Calls.{made_tables, tables_after, answers_tables}
use Rattle.demands.proofs.Made.{lookups_as_map, refusals_as_map}
use Rattle.demands.specs.LastPut.{overrides, refusal_at, LastPut}

-- Of rows of different dockets an accepted call changes what its operation says; a refused one leaves the map.
step_accepted : (n : ℕ) (m : PlainMap Tally) (c : Call Tally) (k : ℕ) → Distinct (keys m.rows) → map_refusal n m c ≡ 0
    → get (map_step n m c).rows k ≡ after_op c.clock c.op (get m.rows) k
unfolding map_step
step_accepted n m c k d q = rw (eq-eqb (map_refusal n m c) 0 q) (get-changed c.clock c.op m.rows k d)

step_refused : (n : ℕ) (m : PlainMap Tally) (c : Call Tally) → (map_refusal n m c ≡ 0 → ⊥) → map_step n m c ≡ m
unfolding map_step
step_refused n m c q = rw (ne_eqb (map_refusal n m c) 0 q)

-- What hides no stamp t leaves what was put at t, and what it leaves was there and is not hidden.
uncovered_left : (hides : ℕ → Bool) (f : Found Tally) (a : Tally) (t : ℕ) → uncovered hides f ≡ found a t → (hides t ≡ false) × (f ≡ found a t)
uncovered_left hides absent a t q = (cc, cc)
uncovered_left hides (found b u) a t q = by_cases (hides u)
    (λ h. let no : absent ≡ found a t = rw h at q in (cc, cc))
    (λ h. let is : found b u ≡ found a t = rw h at q in (ap hides (sym (stamps is)) ∙ h, is))
  where
    stamps : found b u ≡ found a t → u ≡ t
    stamps is = cc is

module _ (k : ℕ) (a : Tally) (t : ℕ) where
  -- What does not override a put leaves it.
  spared : (t' : ℕ) (op : Op Tally) (look : ℕ → Found Tally) → overrides op k t ≡ false → look k ≡ found a t → after_op t' op look k ≡ found a t
  unfolding covers
  spared t' (written (put n b)) look h q = rw h q
  spared t' (written (delete n)) look h q = rw (q, h)
  spared t' (written (delete_range lo hi date)) look h q = rw (q, h)
  spared t' flush look h q = q
  spared t' tick look h q = q

  -- What a call leaves is that call's own put, or was there and is not overridden.
  left_by : (t' : ℕ) (op : Op Tally) (look : ℕ → Found Tally) → after_op t' op look k ≡ found a t
      → (◌≡◌ {A = Call Tally} (record { clock = t'; op = op }) (record { clock = t; op = written (put k a) })) ⊎ ((overrides op k t ≡ false) × (look k ≡ found a t))
  left_by t' (written (put n b)) look q = by_cases (eqb n k)
      (λ h. let is : found b t' ≡ found a t = rw h at q in let key : n ≡ k = eqb-true n k h in inl cc)
      (λ h. inr (h, rw h at q))
  left_by t' (written (delete n)) look q = inr (uncovered_left (λ u. over n n k) (look k) a t q)
  left_by t' (written (delete_range lo hi date)) look q = inr (uncovered_left (covers lo hi date k) (look k) a t q)
  left_by t' flush look q = inr (refl, q)
  left_by t' tick look q = inr (refl, q)

module _ (n k : ℕ) (a : Tally) (t : ℕ) where
  -- No accepted call of the list overrides the put.
  abbrev Spared : List ℕ → List (Call Tally) → Type 0
  Spared rs cs = (j : ℕ) → refusal_at rs j ≡ 0 → overrides (call_at cs j).op k t ≡ false

  -- The map has the put.
  abbrev Has : PlainMap Tally → Type 0
  Has m = get m.rows k ≡ found a t

  step_spared : (m : PlainMap Tally) (c : Call Tally) → Distinct (keys m.rows) → (map_refusal n m c ≡ 0 → overrides c.op k t ≡ false) → Has m → Has (map_step n m c)
  step_spared m c d h q = by_cases (eqb (map_refusal n m c) 0)
      (λ e. let z = eqb-true (map_refusal n m c) 0 e in step_accepted n m c k d z ∙ spared k a t c.clock c.op (get m.rows) (h z) q)
      (λ e. rw (step_refused n m c (eqb-false (map_refusal n m c) 0 e)) q)

  run_spared : (m : PlainMap Tally) (cs : List (Call Tally)) → Distinct (keys m.rows) → Spared (map_refusals n m cs) cs → Has m → Has (map_run n m cs)
  unfolding map_run map_refusals
  run_spared m [] d h q = q
  run_spared m (c ∷ cs) d h q = run_spared (map_step n m c) cs (distinct_step n m c d) (λ j. h (suc j)) (step_spared m c d (h 0) q)

  spared_more : (rs : List ℕ) (cs : List (Call Tally)) (r : ℕ) (c : Call Tally) → (r ≡ 0 → overrides c.op k t ≡ false) → Spared rs cs → Spared (r ∷ rs) (c ∷ cs)
  spared_more rs cs r c first rest zero q = first q
  spared_more rs cs r c first rest (suc j) q = rest j q

  -- The put is the first call and the others spare it, or it is the last put of the others.
  first_put : {rs : List ℕ} {cs : List (Call Tally)} (r : ℕ) (c : Call Tally) → c ≡ record { clock = t; op = written (put k a) } → r ≡ 0 → Spared rs cs
      → LastPut (r ∷ rs) (c ∷ cs) k a t
  first_put {rs} {cs} r c is accept rest = record { place = 0; is_put = is; accepted = accept; last = later }
    where
      later : (j : ℕ) → 0 < j → refusal_at (r ∷ rs) j ≡ 0 → overrides (call_at (c ∷ cs) j).op k t ≡ false
      later zero h q = absurd (omega arith)
      later (suc j) h q = rest j q

  later_put : {rs : List ℕ} {cs : List (Call Tally)} (r : ℕ) (c : Call Tally) → LastPut rs cs k a t → LastPut (r ∷ rs) (c ∷ cs) k a t
  later_put {rs} {cs} r c p = record { place = suc p.place; is_put = p.is_put; accepted = p.accepted; last = later }
    where
      later : (j : ℕ) → suc p.place < j → refusal_at (r ∷ rs) j ≡ 0 → overrides (call_at (c ∷ cs) j).op k t ≡ false
      later zero h q = absurd (omega arith)
      later (suc j) h q = p.last j (omega arith) q

  -- What the map has after the list was put in the list, or was there before and is spared.
  came : (m : PlainMap Tally) (cs : List (Call Tally)) → Distinct (keys m.rows) → Has (map_run n m cs)
      → LastPut (map_refusals n m cs) cs k a t ⊎ (Spared (map_refusals n m cs) cs × Has m)
  unfolding map_run map_refusals
  came m [] d h = inr ((λ j q. absurd (omega arith)), h)
  came m (c ∷ cs) d h = go (came (map_step n m c) cs (distinct_step n m c d) h)
    where
      r : ℕ
      r = map_refusal n m c

      rs : List ℕ
      rs = map_refusals n (map_step n m c) cs

      at_first : Spared rs cs → r ≡ 0
          → (c ≡ record { clock = t; op = written (put k a) }) ⊎ ((overrides c.op k t ≡ false) × Has m)
          → LastPut (r ∷ rs) (c ∷ cs) k a t ⊎ (Spared (r ∷ rs) (c ∷ cs) × Has m)
      at_first rest q (inl is) = inl (first_put r c is q rest)
      at_first rest q (inr p) = inr (spared_more rs cs r c (λ z. p.0) rest, p.1)

      go : LastPut rs cs k a t ⊎ (Spared rs cs × Has (map_step n m c))
          → LastPut (r ∷ rs) (c ∷ cs) k a t ⊎ (Spared (r ∷ rs) (c ∷ cs) × Has m)
      go (inl p) = inl (later_put r c p)
      go (inr p) = by_cases (eqb r 0)
          (λ e. let q = eqb-true r 0 e in at_first p.0 q (left_by k a t c.clock c.op (get m.rows) (sym (step_accepted n m c k d q) ∙ p.1)))
          (λ e. let q = eqb-false r 0 e in inr (spared_more rs cs r c (λ z. absurd (q z)) p.0, rw (step_refused n m c q) at p.1))

  stays : (m : PlainMap Tally) (cs : List (Call Tally)) → Distinct (keys m.rows) → LastPut (map_refusals n m cs) cs k a t → Has (map_run n m cs)
  unfolding map_run map_refusals
  stays m [] d p = absurd (omega arith)
  stays m (c ∷ cs) d p = go (stays (map_step n m c) cs (distinct_step n m c d)) p.place p.is_put p.accepted p.last
    where
      rs : List ℕ
      rs = map_refusals n m (c ∷ cs)

      go : (LastPut (map_refusals n (map_step n m c) cs) cs k a t → Has (map_run n (map_step n m c) cs))
          → (i : ℕ) → call_at (c ∷ cs) i ≡ record { clock = t; op = written (put k a) } → refusal_at rs i ≡ 0
          → ((j : ℕ) → i < j → refusal_at rs j ≡ 0 → overrides (call_at (c ∷ cs) j).op k t ≡ false) → Has (map_run n m (c ∷ cs))
      go others zero is accept last =
          run_spared (map_step n m c) cs (distinct_step n m c d) (λ j. last (suc j) (omega arith))
          (step_accepted n m c k d accept ∙ ap (λ (x : Call Tally). after_op x.clock x.op (get m.rows) k) is ∙ rw (eq-eqb k k refl))
      go others (suc i) is accept last = others (record { place = i; is_put = is; accepted = accept; last = λ j h. last (suc j) (omega arith) })

  -- What the map has for a docket after a list from no rows.
  pub map_has : (cs : List (Call Tally)) → (get (map_run n no_rows cs).rows k ≡ found a t) ↔ LastPut (map_refusals n no_rows cs) cs k a t
  unfolding get
  map_has cs = (λ h. go (came no_rows cs tt h), λ p. stays no_rows cs tt p)
    where
      go : LastPut (map_refusals n no_rows cs) cs k a t ⊎ (Spared (map_refusals n no_rows cs) cs × (absent ≡ found a t)) → LastPut (map_refusals n no_rows cs) cs k a t
      go (inl p) = p
      go (inr p) = let no : ◌≡◌ {A = ℕ} 0 1 = cc p.1 in absurd (omega arith)

-- An accepted call has dockets to 65,535.
accepted_docket : (n : ℕ) (m : PlainMap Tally) (cs : List (Call Tally)) (i : ℕ) → refusal_at (map_refusals n m cs) i ≡ 0 → bad_docket (call_at cs i).op ≡ false
unfolding map_refusals map_refusal
accepted_docket n m [] i q = absurd (omega arith)
accepted_docket n m (c ∷ cs) zero q =
    by_cases (bad_docket c.op) (λ b. let four : ◌≡◌ {A = ℕ} 4 0 = rw b at q in absurd (omega arith)) (λ b. b)
accepted_docket n m (c ∷ cs) (suc i) q = accepted_docket n (map_step n m c) cs i q

answered-found : (f : Found Tally) (a : Tally) (t : ℕ) → answered f ≡ answer.Found a t → f ≡ found a t
answered-found absent a t q = cc
answered-found (found b u) a t q = cc

-- On the words: a lookup after a list from a fresh store.
module _ (n : ℕ) (s : Settings) (low : 1 ≤ n) (high : n ≤ 65535) (ok : allowed s ≡ true) (cs : List (Call Tally)) (k : ℕ) (a : Tally) (t : ℕ) where
  abbrev found_there : Type 0
  found_there = lookup_tables (tables_after n s cs).entries (tables_after n s cs).levels k ≡ answer.Found a t

  -- A docket that is found is not above 65,535.
  found_docket : found_there → k ≤ 65535
  found_docket h =
      allowed_high (tables_after n s cs).entries (tables_after n s cs).levels k k
      (sym (refused_exactly (tables_after n s cs).entries (tables_after n s cs).levels k) ∙ ap (λ x. (numbers x).refusal) h)

  put_docket : LastPut (map_refusals n no_rows cs) cs k a t → k ≤ 65535
  put_docket p =
      let fits : ltb 65535 k ≡ false =
      sym (ap (λ (c : Call Tally). bad_docket c.op) p.is_put) ∙ accepted_docket n no_rows cs p.place p.accepted in
      omega (arith, ltb-false 65535 k fits)

  pub found_exactly : found_there ↔ LastPut (map (λ (r : Answer). r.refusal) (answers_tables (made_tables n s) cs)) cs k a t
  found_exactly = (
    λ h. rw (refusals_as_map n s low high ok cs)
        ((map_has n k a t cs).0 (answered-found (get (map_run n no_rows cs).rows k) a t (sym (lookups_as_map n s low high ok cs k (found_docket h)) ∙ h))),
    λ q.
        let p : LastPut (map_refusals n no_rows cs) cs k a t = rw (refusals_as_map n s low high ok cs) at q in
        lookups_as_map n s low high ok cs k (put_docket p) ∙ ap answered ((map_has n k a t cs).1 p),
  )
