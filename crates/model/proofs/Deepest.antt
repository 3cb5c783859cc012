-- When levels 0 to L−1 have been merged in order, only level L holds records, and only puts.
use mathlib.Core.Path.{◌≡◌, refl, sym, ap, ◌∙◌}
use mathlib.Core.Bool.{true}
use mathlib.Core.List.{List, [], ◌∷◌, ◌++◌}
use Prim.Native.Nat.{ℕ, zero, suc, ◌+◌, ◌<◌}
use native.Mathlib.Omega.{arith}
use native.Mathlib.Decide.{ℕ_discrete}
use lib.Dec.{eqb}
use lib.ListN.{length, get_or, set, length-set, replicate, length-replicate}
use lib.Seq.{get_or-set_same, get_or_at, set_at}
use borrow.Author.Tests.{eq-eqb}
use Rattle.settings.specs.declared.Settings.{Settings}
use Rattle.lists.specs.Lists.{sum}
use Rattle.lists.proofs.Loops.{iterate_holds}
use Rattle.model.specs.Records.{Point, Level, State, empty, level, held, held_all}
use Rattle.model.specs.Merge.{merged, settled, joined}
use Rattle.model.specs.Steps.{Work, begin, merge_state, merge_level, merge_all, set_points}
use Rattle.model.specs.Calls.{tick}
use Rattle.model.specs.Lookup.{lookup}
use Rattle.model.proofs.Form.{Ordered, Formed, formed_kept, level_ordered}
use Rattle.model.proofs.Settle.{merge_empties, merge_other}
use Rattle.model.proofs.Lookups.{lookup-empty}

module _ {S A : Type 0} where
  -- Levels of which only the last is not empty.
  abbrev pub only : ℕ → Level S A → List (Level S A)
  only n l = replicate n empty ++ (l ∷ [])

  only_from : (n : ℕ) (ls : List (Level S A)) → length ls ≡ suc n → ((i : ℕ) → i < n → get_or ls i empty ≡ empty) → ls ≡ only n (get_or ls n empty)
  only_from n [] e h = absurd (omega arith)
  only_from zero (l ∷ []) e h = refl
  only_from zero (l ∷ m ∷ ls) e h = absurd (omega arith)
  only_from (suc n) (l ∷ ls) e h = rw (h 0 (omega arith), ← (only_from n ls (omega arith) (λ i p. h (suc i) (omega arith))))

  pub only_level : (n : ℕ) (l : Level S A) → get_or (only n l) n empty ≡ l
  only_level n l = get_or_at (replicate n empty) l [] empty n (length-replicate n empty)

  pub only_set : (n : ℕ) (l v : Level S A) → set (only n l) n v ≡ only n v
  only_set n l v = set_at (replicate n empty) l [] v n (length-replicate n empty)

  -- Where only level L holds records, it alone has others after its points were set.
  pub set_points-only : (s : State S A) (n : ℕ) (l : Level S A) (ps : List (Point S A)) (free : List S) → s.settings.deepest ≡ n → s.levels ≡ only n l
      → (set_points s.settings.deepest ps s free).levels ≡ only n (record { points = ps; ranges = l.ranges; owed = l.owed })
  unfolding set_points
  set_points-only s n l ps free deep levels = rw (deep, levels, only_level n l) (only_set n l (record { points = ps; ranges = l.ranges; owed = l.owed }))

  pub lookup-only : (n : ℕ) (l : Level S A) (k : ℕ) → lookup (only n l) k ≡ lookup (l ∷ []) k
  lookup-only zero l k = refl
  lookup-only (suc n) l k = lookup-empty (only n l) k ∙ lookup-only n l k

  pub held-only : (n : ℕ) (l : Level S A) → held_all (only n l) ≡ held l
  unfolding sum
  held-only zero l = omega arith
  held-only (suc n) l = omega (arith, held-only n l)

  merge_lower : (i : ℕ) (s : State S A) → suc i < length s.levels
      → level (suc i) (merge_state i s) ≡ joined (eqb (suc i) s.settings.deepest) (level i s) (level (suc i) s)
  unfolding merge_state
  merge_lower i s h = get_or-set_same (set s.levels i empty) (suc i) (joined (eqb (suc i) s.settings.deepest) (level i s) (level (suc i) s)) empty (omega (arith, length-set s.levels i empty))

  -- The first i levels are empty; once level L was reached, it has been settled.
  record Draining (settings : Settings) (i : ℕ) (w : Work S A) : Type 0 where
    formed : Formed w.state
    same : w.state.settings ≡ settings
    empties : (n : ℕ) → n < i → level n w.state ≡ empty
    bottom : i ≡ settings.deepest → (l : Level S A) × (level i w.state ≡ settled l)

  drain : (settings : Settings) (i : ℕ) (w : Work S A) → i < settings.deepest → Draining settings i w → Draining settings (suc i) (merge_level i w)
  unfolding merge_level merge_state joined
  drain settings i w h d = record {
    formed = (formed_kept (record { clock = 0; op = tick })).merging i w.state (rw d.same h) d.formed;
    same = d.same;
    empties = λ n p. go n p (ℕ_discrete n i);
    bottom = λ e.
        let here : eqb (suc i) w.state.settings.deepest ≡ true = eq-eqb (suc i) w.state.settings.deepest (rw d.same e) in (
          merged (level i w.state) (level (suc i) w.state),
          merge_lower i w.state (omega (arith, d.formed.size, ap (λ (x : Settings). x.deepest) d.same)) ∙ rw here,
        );
  }
    where
      go : (n : ℕ) → n < suc i → Dec (n ≡ i) → level n (merge_state i w.state) ≡ empty
      go n p (yes e) = rw e (merge_empties i w.state)
      go n p (no e) = merge_other i n w.state e (omega arith) ∙ d.empties n (omega arith)

  drained : (s : State S A) → Formed s → Draining s.settings (0 + s.settings.deepest) (merge_all s)
  unfolding merge_all
  drained s f = iterate_holds merge_level (Draining s.settings) s.settings.deepest 0 (begin s) (λ j y a b. drain s.settings j y (omega arith))
      (record { formed = f; same = refl; empties = λ n p. absurd (omega arith); bottom = λ e. absurd (omega (arith, f.deep)) })

  -- What merging all levels leaves.
  pub record Drained (s m : State S A) : Type 0 where
    pub formed : Formed m
    pub same : m.settings ≡ s.settings
    pub source : Level S A
    pub levels : m.levels ≡ only s.settings.deepest (settled source)

  pub merge_all_drained : (s : State S A) → Formed s → Drained s (merge_all s).state
  merge_all_drained s f =
      let d : Draining s.settings (0 + s.settings.deepest) (merge_all s) = drained s f in
      let n : ℕ = s.settings.deepest in
      let zero_plus : 0 + n ≡ n = omega arith in
      let m : State S A = (merge_all s).state in
      let b = d.bottom zero_plus in
      record {
        formed = d.formed;
        same = d.same;
        source = b.0;
        levels = only_from n m.levels (d.formed.size ∙ ap (λ (x : Settings). suc x.deepest) d.same) (λ i p. d.empties i (omega arith))
            ∙ ap (only n) (ap (λ j. level j m) (sym zero_plus) ∙ b.1);
      }

  -- The level that is left is in order.
  pub drained_ordered : (s : State S A) (f : Formed s) → Ordered (settled (merge_all_drained s f).source)
  drained_ordered s f =
      let n : ℕ = s.settings.deepest in
      let d : Drained s (merge_all s).state = merge_all_drained s f in
      let here : level n (merge_all s).state ≡ settled d.source = ap (λ ls. get_or ls n empty) d.levels ∙ only_level n (settled d.source) in
      rw here at (level_ordered n (merge_all s).state d.formed)
