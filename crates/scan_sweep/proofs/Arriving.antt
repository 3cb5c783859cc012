-- A search: it lists what was to come, it ends, and more steps than there are records change nothing.
use mathlib.Core.Path.{◌≡◌, refl, sym, ap, ◌∙◌, subst}
use mathlib.Core.Logic.{◌≢◌}
use mathlib.Core.Bool.{cond}
use mathlib.Core.List.{List}
use Prim.Native.Nat.{ℕ, zero, suc, ◌<◌, ◌≤◌}
use native.Mathlib.Omega.{arith}
use borrow.Author.Tests.{eq-eqb, ne_eqb, eqb-true, eqb-false}
use lib.Dec.{eqb}
use Rattle.tables.specs.Words.{Fits32}
use Rattle.lists.proofs.Bools.{by_cases, cond_elim}
use Rattle.scan_step.specs.declared.Sweep.{Sweep}
use Rattle.scan_step.specs.Sweeps.{Sweeping, standing, neared, rest, rows_from, listed, steps_ahead}
use Rattle.scan_step.proofs.Steps.{standing_sweeping, near_leads, steps_left, listed_same, fewer_steps}
use Rattle.scan_sweep.specs.Sweeps.{step_of, arrived, searched, advanced}
use Rattle.scan_sweep.proofs.Crossing.{step_stepped}

module _ (e : List ℕ) (words : Fits32 e) where
  arrived_there : (n : ℕ) (m : Sweep) → m.going ≡ 0 → arrived n e m ≡ m
  unfolding arrived
  arrived_there zero m stops = refl
  arrived_there (suc n) m stops = rw (eq-eqb m.going 0 stops)

  arrived_on : (n : ℕ) (m : Sweep) → m.going ≢ 0 → arrived (suc n) e m ≡ arrived n e (step_of e m)
  unfolding arrived
  arrived_on n m goes = rw (ne_eqb m.going 0 goes)

  none_left : (m : Sweep) → steps_left e m ≤ 0 → m.going ≡ 0
  none_left m le = by_cases (eqb m.going 0) (λ t. eqb-true m.going 0 t) (λ t. absurd (omega (arith, rw t at le)))

  -- However many steps are allowed, if there are enough.
  arrived_enough : (n k : ℕ) (m : Sweep) → Sweeping e m → steps_left e m ≤ n → steps_left e m ≤ k → arrived n e m ≡ arrived k e m
  arrived_enough zero k m s p q =
      let stops = none_left m p in
      arrived_there zero m stops ∙ sym (arrived_there k m stops)
  arrived_enough (suc n) zero m s p q =
      let stops = none_left m q in
      arrived_there (suc n) m stops ∙ sym (arrived_there zero m stops)
  arrived_enough (suc n) (suc k) m s p q = by_cases (eqb m.going 0)
      (λ t.
      let stops = eqb-true m.going 0 t in
      arrived_there (suc n) m stops ∙ sym (arrived_there (suc k) m stops))
      (λ t.
      let goes = eqb-false m.going 0 t in
      let st = step_stepped words s in
      let fewer = fewer_steps st goes in
      arrived_on n m goes ∙ arrived_enough n k (step_of e m) st.sweeping (omega (arith, fewer)) (omega (arith, fewer)) ∙ sym (arrived_on k m goes))

  -- It lists the same all the way.
  arrived-listed : (n : ℕ) (m : Sweep) → Sweeping e m → Sweeping e (arrived n e m) × (listed e (arrived n e m) ≡ listed e m)
  unfolding arrived
  arrived-listed zero m s = (s, refl)
  arrived-listed (suc n) m s = by_cases (eqb m.going 0)
      (λ t. subst (λ (r : Sweep). Sweeping e r × (listed e r ≡ listed e m)) (sym (arrived_there (suc n) m (eqb-true m.going 0 t))) (s, refl))
      (λ t.
      let goes = eqb-false m.going 0 t in
      let st = step_stepped words s in
      let later = arrived-listed n (step_of e m) st.sweeping in
      subst (λ (r : Sweep). Sweeping e r × (listed e r ≡ listed e m)) (sym (arrived_on n m goes)) (later.0, later.1 ∙ listed_same st goes))

  -- With enough steps it ends.
  arrived_ends : (n : ℕ) (m : Sweep) → Sweeping e m → steps_left e m ≤ n → (arrived n e m).going ≡ 0
  arrived_ends zero m s p =
      let stops = none_left m p in
      ap (λ (r : Sweep). r.going) (arrived_there zero m stops) ∙ stops
  arrived_ends (suc n) m s p = by_cases (eqb m.going 0)
      (λ t.
      let stops = eqb-true m.going 0 t in
      ap (λ (r : Sweep). r.going) (arrived_there (suc n) m stops) ∙ stops)
      (λ t.
      let goes = eqb-false m.going 0 t in
      let st = step_stepped words s in
      ap (λ (r : Sweep). r.going) (arrived_on n m goes) ∙ arrived_ends n (step_of e m) st.sweeping (omega (arith, fewer_steps st goes)))

  -- A turn of the search, and its end.
  pub turned : (m : Sweep) → Sweeping e m → m.going ≢ 0 → arrived (steps_left e (step_of e m)) e (step_of e m) ≡ arrived (steps_left e m) e m
  turned m s goes =
      let st = step_stepped words s in
      let fewer : steps_left e (step_of e m) < suc (steps_ahead e m) = rw (ne_eqb m.going 0 goes) at (fewer_steps st goes) in
      arrived_enough (steps_left e (step_of e m)) (steps_ahead e m) (step_of e m) st.sweeping (omega arith) (omega (arith, fewer))
      ∙ rw (ne_eqb m.going 0 goes) (sym (arrived_on (steps_ahead e m) m goes))

  pub stopped : (m : Sweep) → m.going ≡ 0 → arrived (steps_left e m) e m ≡ m
  stopped m stops = arrived_there (steps_left e m) m stops

  -- A search comes to the first row of what was to come.
  module _ {m : Sweep} (s : Sweeping e m) where
    pub searched_sweeping : Sweeping e (searched e m)
    searched_sweeping = (arrived-listed (suc (steps_ahead e m)) (standing m 1) (standing_sweeping s)).0

    searched_ends : (searched e m).going ≡ 0
    searched_ends = arrived_ends (suc (steps_ahead e m)) (standing m 1) (standing_sweeping s) (omega arith)

    pub searched_rows : rows_from e (searched e m) ≡ rest e m
    searched_rows = rw (eq-eqb (searched e m).going 0 searched_ends) at (arrived-listed (suc (steps_ahead e m)) (standing m 1) (standing_sweeping s)).1

  -- So does an advance, by one step or by a search from there on.
  module _ (m r : Sweep) (s : Sweeping e r) (leads : rest e m ≡ listed e r) where
    abbrev Comes : Sweep → Type 0
    Comes x = Sweeping e x × (rows_from e x ≡ rest e m)

    comes : Comes (cond (eqb r.going 0) r (standing (searched e (standing r 1)) 0))
    comes =
        cond_elim Comes (eqb r.going 0) r (standing (searched e (standing r 1)) 0)
        (λ t. (s, sym (rw t at leads)))
        (λ t.
        let on : Sweeping e (standing r 1) = standing_sweeping s in
        (standing_sweeping (searched_sweeping on), searched_rows on ∙ sym (rw t at leads)))

  module _ (m : Sweep) {r : Sweep} (is : r ≡ neared e m) where
    pub advanced_at_once : r.going ≡ 0 → r ≡ advanced e m
    advanced_at_once stops = rw (← is, eq-eqb r.going 0 stops)

    pub advanced_later : r.going ≢ 0 → standing (searched e (standing r 1)) 0 ≡ advanced e m
    advanced_later goes = rw (← is, ne_eqb r.going 0 goes)

  module _ {m : Sweep} (s : Sweeping e m) where
    pub advanced_sweeping : Sweeping e (advanced e m)
    advanced_sweeping = (comes m (neared e m) (near_leads words s).0 (near_leads words s).1).0

    pub advanced_rows : rows_from e (advanced e m) ≡ rest e m
    advanced_rows = (comes m (neared e m) (near_leads words s).0 (near_leads words s).1).1
