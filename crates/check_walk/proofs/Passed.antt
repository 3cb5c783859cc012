-- A walk whose slots all fit: what it asks of the rows and of the marks, apart, and what it leaves.
use mathlib.Core.Path.{◌≡◌, refl, sym, ap, ◌∙◌}
use mathlib.Core.Logic.{◌≢◌}
use mathlib.Core.Bool.{Bool, true, false, ◌&&◌}
use mathlib.Core.List.{List, [], ◌∷◌}
use Prim.Native.Nat.{ℕ, suc, ◌+◌, ◌*◌, ◌<◌}
use native.Mathlib.Omega.{arith}
use native.Mathlib.Nat.{zero-add, add-zero}
use lib.Dec.{leb, eqb}
use lib.ListN.{length}
use Rattle.lists.specs.All.{All}
use Rattle.lists.proofs.Bools.{cond_and, and_left, and_right}
use Rattle.check_marks.specs.Marks.{mark_of, with_mark}
use Rattle.tables.specs.Slots.{slots_of}
use Rattle.tables.specs.Sound.{chain_from, order_key}
use Rattle.std.specs.Prelude.{Option, Some, None, is_some}
use Rattle.check_walk.specs.Slots.{Asked, slot_fits}
use Rattle.check_walk.specs.Walks.{Marked, after, walked, unmarked}
use Rattle.check_walk.proofs.Chains.{chain_nonzero}
use Rattle.check_walk.proofs.Each.{unmarked_each, mark_each, total_count}

-- The rows alone, without the marks.
unfoldable pub rows_fit : Asked → List ℕ → ℕ → ℕ → List ℕ → Bool
rows_fit asked e owed least [] = true
rows_fit asked e owed least (s ∷ ss) = asked e owed least s && rows_fit asked e owed (order_key e s + 1) ss

-- All slots passed and marked.
abbrev pub passed : List ℕ → List ℕ → Marked (Option ℕ)
passed m ss = record { answer = Some (length ss); marks = mark_each m ss }

-- As many slots were passed as were marked.
pub passed_sum : (n : ℕ) (m ss : List ℕ) {m' : List ℕ} {k : ℕ} → n < 8 * length m → All (λ s. s ≢ 0) ss → unmarked_each n m ss ≡ true
    → record { answer = Some k; marks = m' } ≡ passed m ss → k + unmarked n m' ≡ unmarked n m
passed_sum n m ss {m'} {k} room z u p =
    let answer : Some k ≡ Some (length ss) = ap (λ (x : Marked (Option ℕ)). x.answer) p in
    let all : k ≡ length ss = cc in
    let marked : m' ≡ mark_each m ss = ap (λ (x : Marked (Option ℕ)). x.marks) p in
    rw (all, marked) (total_count n m ss room z u)

-- What is asked after an answer is asked after the one that it is known to be, and nothing is asked after none.
pub after_asks : {A : Type 0} (says : Marked A → Bool) (w : Marked (Option ℕ)) {k : ℕ} {m : List ℕ}
    (counted : ℕ → List ℕ → Marked A) (stops : List ℕ → Marked A)
    → ((x : List ℕ) → says (stops x) ≡ false) → (is_some w.answer ≡ true → w ≡ record { answer = Some k; marks = m })
    → says (after w counted stops) ≡ is_some w.answer && says (counted k m)
after_asks {A} says w {k} {m} counted stops none known = go w.answer refl
  where
    go : (a : Option ℕ) → w.answer ≡ a → says (after w counted stops) ≡ is_some w.answer && says (counted k m)
    go None q = rw q (none w.marks)
    go (Some x) q = let is : w ≡ record { answer = Some k; marks = m } = known (rw q) in rw is

walk_bool : (a b c x y : Bool) → (a && (b && c)) && (x && y) ≡ (c && x) && (a && (b && y))
walk_bool a b c x y = grind arith

module _ (asked : Asked) (e : List ℕ) (owed : ℕ) where
  walks_on : (least count : ℕ) (m : List ℕ) (s : ℕ) (ss : List ℕ)
      → is_some (walked asked e owed least count m (s ∷ ss)).answer
      ≡ slot_fits asked e owed least s m && is_some (walked asked e owed (order_key e s + 1) (count + 1) (with_mark m s) ss).answer
  unfolding walked
  walks_on least count m s ss =
      cond_and (λ (w : Marked (Option ℕ)). is_some w.answer) (slot_fits asked e owed least s m) _ _ refl

  -- A walk is what it asks of the rows, and what it asks of the marks.
  pub walk_means : (least count : ℕ) (m ss : List ℕ)
      → is_some (walked asked e owed least count m ss).answer ≡ rows_fit asked e owed least ss && unmarked_each (slots_of e) m ss
  unfolding walked slot_fits rows_fit unmarked_each
  walk_means least count m [] = refl
  walk_means least count m (s ∷ ss) =
      let inside = leb s (slots_of e) in
      let blank = eqb (mark_of m s) 0 in
      let fits = asked e owed least s in
      let rest_fit = rows_fit asked e owed (order_key e s + 1) ss in
      let rest_blank = unmarked_each (slots_of e) (with_mark m s) ss in
      walks_on least count m s ss
      ∙ rw (walk_means (order_key e s + 1) (count + 1) (with_mark m s) ss) (walk_bool inside blank fits rest_fit rest_blank)

  passes_from : (least count : ℕ) (m ss : List ℕ) → is_some (walked asked e owed least count m ss).answer ≡ true
      → walked asked e owed least count m ss ≡ record { answer = Some (count + length ss); marks = mark_each m ss }
  unfolding walked mark_each
  passes_from least count m [] q = rw add-zero
  passes_from least count m (s ∷ ss) q =
      let rest = walked asked e owed (order_key e s + 1) (count + 1) (with_mark m s) ss in
      let both = sym (walks_on least count m s ss) ∙ q in
      let next : count + 1 + length ss ≡ count + suc (length ss) = omega arith in
      rw (and_left (slot_fits asked e owed least s m) (is_some rest.answer) both, ← next)
      (passes_from (order_key e s + 1) (count + 1) (with_mark m s) ss (and_right (slot_fits asked e owed least s m) (is_some rest.answer) both))

  pub walk_passes : (m ss : List ℕ) → is_some (walked asked e owed 0 0 m ss).answer ≡ true → walked asked e owed 0 0 m ss ≡ passed m ss
  walk_passes m ss q = rw (zero-add (length ss)) at (passes_from 0 0 m ss q)

  pub walk_sum : (h : ℕ) (m : List ℕ) {m' : List ℕ} {k : ℕ} → slots_of e < 8 * length m
      → record { answer = Some k; marks = m' } ≡ walked asked e owed 0 0 m (chain_from e h) → k + unmarked (slots_of e) m' ≡ unmarked (slots_of e) m
  walk_sum h m room w =
      let ss = chain_from e h in
      let fits = ap (λ (x : Marked (Option ℕ)). is_some x.answer) (sym w) in
      let blank = and_right (rows_fit asked e owed 0 ss) (unmarked_each (slots_of e) m ss) (sym (walk_means 0 0 m ss) ∙ fits) in
      passed_sum (slots_of e) m ss room (chain_nonzero (length e) e h) blank (w ∙ walk_passes m ss fits)
