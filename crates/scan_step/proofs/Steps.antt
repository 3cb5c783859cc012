-- A step of a sweep: what the least record to come says of its docket, and that passing it leaves what is to come of the others.
use mathlib.Core.Path.{◌≡◌, refl, sym, ap, ◌∙◌, subst}
use mathlib.Core.Logic.{◌≢◌}
use mathlib.Core.Bool.{true, cond, false≢true}
use mathlib.Core.List.{List}
use Prim.Native.Nat.{ℕ, suc, ◌+◌, ◌*◌, ◌<◌, ◌≤◌, max}
use native.Mathlib.Omega.{arith}
use borrow.Author.Tests.{ne_eqb, eqb-true, eqb-false, ltb-true, ltb-false}
use lib.Dec.{eqb, ltb, leb}
use Rattle.lists.proofs.Bools.{by_cases, cond_elim}
use Rattle.model.specs.Lookup.{absent, judged, add_row, lookup}
use Rattle.tables.specs.Words.{Fits32}
use Rattle.tables.specs.Slots.{InTable, next_of, kind_of, lo_of, stamp_of}
use Rattle.tables.specs.Placed.{read_point}
use Rattle.lookup_level.proofs.Walks.{points_say, points_here, points_next}
use Rattle.scan_heads.specs.Heads.{passed, point, left}
use Rattle.scan_heads.proofs.Packs.{key_on}
use Rattle.scan_heads.proofs.Passing.{points_least, points_later, slot-key, slot_on, level_inside, passed_fits, passed_later, passed_fewer, point_first, point-passed}
use Rattle.scan_fences.specs.Fences.{ranges_in}
use Rattle.scan_step.specs.declared.Sweep.{Sweep}
use Rattle.scan_step.specs.Sweeps.{to_come, next_key, next_level, date_above, is_hidden, Sweeping, told, standing, moved, gone, doubtful, neared, rest, listed, steps_ahead, Stepped}
use Rattle.scan_step.proofs.Branches.{gone_before, gone_hidden, gone_delete, gone_found, undoubted, neared_stands, neared-gone}
use Rattle.scan_step.proofs.LiveRows.{live_same, live_none, live_pass}
use Rattle.scan_step.proofs.Coming.{points_before, absent_all, found_at, looks_same, decides_same}

-- The same to come, whether the sweep is on its way or has come to a docket.
told_sweeping : {e : List ℕ} {m : Sweep} {going alive key slot : ℕ} → Sweeping e m → (eqb alive 1 ≡ true → InTable e slot) → Sweeping e (told m going alive key slot)
told_sweeping s here = record { points = s.points; ranges = s.ranges; covers = s.covers; bound = s.bound; last = s.last; here = here }

pub standing_sweeping : {e : List ℕ} {m : Sweep} {going : ℕ} → Sweeping e m → Sweeping e (standing m going)
standing_sweeping s = told_sweeping s s.here

module _ {e : List ℕ} {m : Sweep} (words : Fits32 e) (s : Sweeping e m) where
  abbrev k : ℕ
  k = next_key m

  -- Nothing is to come before the first record's docket.
  pub nothing_before : (j : ℕ) → j < k → lookup (to_come e m) j ≡ absent
  nothing_before j lt =
      absent_all e (point m.heads) (ranges_in e m.ranges) j m.levels 0 0
      (λ i a b.
      let least = points_least s.points i (omega arith) in
      points_before e words (point m.heads i) j least.0 (omega (arith, least.1)))

  pub stepped_none : m.hi < k → Stepped e m (told m 0 0 m.key m.slot)
  stepped_none past = record {
    sweeping = told_sweeping s (λ no. absurd (false≢true no));
    leads = live_none (lookup (to_come e m)) m.from k m.hi (λ j a b. nothing_before j b) past;
    fewer = λ g. absurd (g refl);
  }

  module _ (le : k ≤ m.hi) where
    low : k < 65536
    low = omega (arith, s.last)

    abbrev slot : ℕ
    slot = m.heads.slot

    key_here : lo_of e slot ≡ k
    key_here = sym (key_on e slot (slot_on s.points low)) ∙ slot-key s.points

    -- The record is judged by the latest date of the levels above.
    says_here : lookup (to_come e m) k ≡ judged (date_above e m) (read_point e slot).entry (stamp_of e slot)
    says_here =
        found_at e (point m.heads) (ranges_in e m.ranges) k (next_level m) (read_point e slot).entry (stamp_of e slot)
        (λ date. rw (point_first s.points low) (points_here e slot date k (slot_on s.points low) key_here))
        (next_level m) m.levels 0 0 (omega arith) (level_inside s.points low)
        (λ i a b.
        let inside = level_inside s.points low in
        points_before e words (point m.heads i) k (points_least s.points i (omega arith)).0 (points_later s.points low i (omega arith) b))
        ∙ ap (λ (date : ℕ). judged date (read_point e slot).entry (stamp_of e slot)) (zero_max (date_above e m))
      where
        zero_max : (n : ℕ) → max 0 n ≡ n
        zero_max n = omega arith

    abbrev after : ℕ → Sweep
    after from = moved m (passed e m.heads) from

    -- Of another docket the same is to come.
    passed_looks : (j : ℕ) → j ≢ k → lookup (to_come e (after 0)) j ≡ lookup (to_come e m) j
    passed_looks j other =
        looks_same e (point m.heads) (point (passed e m.heads)) (ranges_in e m.ranges) (ranges_in e m.ranges) j m.levels
        (λ i lt. decides_same e (point m.heads i) (point (passed e m.heads) i) (ranges_in e m.ranges i) (ranges_in e m.ranges i) j (says i) refl)
      where
        says : (i date : ℕ) → points_say e (point (passed e m.heads) i) date j ≡ points_say e (point m.heads i) date j
        says i date =
            rw (point-passed s.points low i)
            (cond_elim (λ h. points_say e h date j ≡ points_say e (point m.heads i) date j) (eqb (next_level m) i) (next_of e slot) (point m.heads i)
            (λ t. rw (← eqb-true (next_level m) i t, point_first s.points low)
            (sym (points_next e slot date j (slot_on s.points low) (λ q. other (sym q ∙ key_here)))))
            (λ t. refl))

    moved_sweeping : (from : ℕ) → Sweeping e (after from)
    moved_sweeping from = record {
      points = passed_fits s.points low;
      ranges = s.ranges;
      covers = λ j n a b c. s.covers j n (omega (arith, passed_later s.points low words)) b c;
      bound = s.bound;
      last = s.last;
      here = s.here;
    }

    -- Whether or not the next record lies past the fence.
    fewer : (from : ℕ) → steps_ahead e (after from) < steps_ahead e m
    fewer from =
        cond_elim (λ n. 2 * left e (passed e m.heads) + n < steps_ahead e m) (leb m.fence (next_key (after from))) 1 0
        (λ t. omega (arith, passed_fewer s.points low)) (λ t. omega (arith, passed_fewer s.points low))

    -- A record of its docket was passed before.
    stepped_before : k < m.from → Stepped e m (after m.from)
    stepped_before lt = record {
      sweeping = moved_sweeping m.from;
      leads = live_same (lookup (to_come e m)) (lookup (to_come e (after 0))) m.from m.hi (λ j a. sym (passed_looks j (λ q. omega arith)));
      fewer = λ _. fewer m.from;
    }

    module _ (from : m.from ≤ k) where
      -- The docket's row, if it is live, and then those past it.
      rest_passed : rest e m ≡ add_row k (lookup (to_come e m) k) (rest e (after (k + 1)))
      rest_passed =
          live_pass (lookup (to_come e m)) m.from k m.hi (λ j a b. nothing_before j b) from le
          ∙ ap (add_row k (lookup (to_come e m) k))
          (live_same (lookup (to_come e m)) (lookup (to_come e (after 0))) (k + 1) m.hi (λ j a. sym (passed_looks j (λ q. omega arith))))

      stepped_on : lookup (to_come e m) k ≡ absent → Stepped e m (after (k + 1))
      stepped_on q = record { sweeping = moved_sweeping (k + 1); leads = rest_passed ∙ rw q; fewer = λ _. fewer (k + 1) }

    -- However its docket stands, passing the first record is a step.
    pub gone_stepped : Stepped e m (gone e m)
    gone_stepped = by_cases (ltb k m.from)
        (λ t.
        let lt = ltb-true k m.from t in
        subst (Stepped e m) (sym (gone_before e m lt)) (stepped_before lt))
        (λ t.
        let from = ltb-false k m.from t in
        by_cases (is_hidden e m)
        (λ c. subst (Stepped e m) (sym (gone_hidden e m from c)) (stepped_on from (says_here ∙ rw c)))
        (λ c. by_cases (eqb (kind_of e slot) 1)
        (λ u. subst (Stepped e m) (sym (gone_found e m from c (eqb-true (kind_of e slot) 1 u)))
        (record {
          sweeping = told_sweeping (moved_sweeping (k + 1)) (λ _. (slot_on s.points low).within);
          leads = rest_passed from ∙ rw (says_here, c, u);
          fewer = λ g. absurd (g refl);
        }))
        (λ u. subst (Stepped e m) (sym (gone_delete e m from c (eqb-false (kind_of e slot) 1 u))) (stepped_on from (says_here ∙ rw (c, u))))))

  -- A record that is not doubtful is passed, and before one that is the sweep is still where it was.
  abbrev Leads : Sweep → Type 0
  Leads r = Sweeping e r × (rest e m ≡ listed e r)

  pub near_leads : Leads (neared e m)
  near_leads = by_cases (doubtful e m)
      (λ t. subst Leads (sym (neared_stands e m t)) (standing_sweeping s, refl))
      (λ t.
      let st = gone_stepped (omega (arith, (undoubted e m t).0, s.bound)) in
      subst Leads (sym (neared-gone e m t)) (st.sweeping, st.leads))

-- How many more steps there may be.
abbrev pub steps_left : List ℕ → Sweep → ℕ
steps_left e m = cond (eqb m.going 0) 0 (suc (steps_ahead e m))

module _ {e : List ℕ} {m r : Sweep} (st : Stepped e m r) (goes : m.going ≢ 0) where
  pub listed_same : listed e r ≡ listed e m
  listed_same = rw (ne_eqb m.going 0 goes) (sym st.leads)

  pub fewer_steps : steps_left e r < steps_left e m
  fewer_steps =
      rw (ne_eqb m.going 0 goes)
      (cond_elim (λ n. n < suc (steps_ahead e m)) (eqb r.going 0) 0 (suc (steps_ahead e r))
      (λ g. omega arith) (λ g. omega (arith, st.fewer (eqb-false r.going 0 g))))
