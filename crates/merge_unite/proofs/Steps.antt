-- A step through two chains of ranges: an upper range is passed, or a lower one goes or stays.
use mathlib.Core.Path.{◌≡◌, sym, ap, subst, ◌∙◌}
use mathlib.Core.Logic.{◌≢◌}
use mathlib.Core.Bool.{Bool, true, false}
use mathlib.Core.List.{List, [], ◌∷◌, ◌++◌, map, append_assoc}
use Prim.Native.Nat.{ℕ, ◌<◌}
use native.Mathlib.Omega.{arith}
use lib.ListN.{length, drop}
use borrow.Author.Tests.{ltb-true, lt-ltb}
use Rattle.lists.specs.All.{All}
use Rattle.lists.proofs.Tests.{all_append, all_weaken}
use Rattle.tables.specs.Slots.{next_of}
use Rattle.tables.specs.Placed.{Cell}
use Rattle.chain_cells.specs.Cells.{cell_at, cell_key, cell_before}
use Rattle.chain_cells.specs.Order.{CellsOrdered}
use Rattle.chain_cells.specs.Sifting.{Sift, Sifting, Sifts, sift_of}
use Rattle.chain_cells.specs.Splicing.{Chains}
use Rattle.chain_cells.specs.declared.Cursor.{Cursor}
use Rattle.chain_cells.proofs.Sieves.{left_after}
use Rattle.merge_unite.specs.Uniting.{doubled, later_cell, lower_chain, Uniting, to_see}
use Rattle.merge_unite.specs.declared.Progress.{Progress}
use Rattle.merge_unite.proofs.Spans.{before_trans}
use Rattle.merge_unite.proofs.Dates.{Apart, doubled_apart, later_apart}
use Rattle.merge_unite.proofs.Places.{First, lower_first, lower_cell, left_ordered, passed_before, passed_apart, upper_first, upper-length, upper_cell, upper_next, upper_none}

-- One step, which leaves less to see.
abbrev pub Unites : Chains → List ℕ → Progress → List ℕ → Progress → Type 0
Unites g e m e' m' = Uniting g e' m' × (to_see e' m' < to_see e m)

-- The upper range comes first: it is passed.
pub passes_upper : (g : Chains) (e : List ℕ) (m : Progress) (upper : ℕ) → upper ≡ next_of e m.upper → m.cursor.at ≢ 0 → m.upper ≢ 0
    → cell_key (cell_at e m.upper) < cell_key (cell_at e m.cursor.at) → Uniting g e m → Unites g e m e (record { upper = upper; cursor = m.cursor })
passes_upper g e m upper next≡ some-lower Some-Upper less u =
    let l : First u.left = lower_first g e m u some-lower in
    let a : First u.ahead = upper_first g e m u Some-Upper in
    let x : Cell = l.cell in
    let c : Cell = a.cell in
    let upper≡ = ap cell_key (upper_cell g e m u c a.rest a.is) in
    let lower≡ = ap cell_key (lower_cell g e m u x l.rest l.is) in
    let before : cell_before c x ≡ true = lt-ltb (cell_key c) (cell_key x) (omega (arith, upper≡, lower≡)) in
    let after_lower = (left_ordered g e m u x l.rest l.is).ascend.0 in
    let all_before : All (λ q. cell_before c q ≡ true) u.left =
    subst (All (λ q. cell_before c q ≡ true)) (sym l.is)
    (before, all_weaken (λ q. cell_before x q ≡ true) (λ q. cell_before c q ≡ true) (λ q h. before_trans c x q before h) l.rest after_lower) in
    let ordered : CellsOrdered (c ∷ a.rest) = subst CellsOrdered a.is u.upper_ordered in
    let next : Uniting g e (record { upper = upper; cursor = m.cursor }) = record {
      upper = u.upper;
      passed = u.passed ++ c ∷ [];
      ahead = a.rest;
      left = u.left;
      sifting = u.sifting;
      left_is = u.left_is;
      parts = u.parts ∙ ap (λ (cs : List Cell). u.passed ++ cs) a.is ∙ sym (append_assoc u.passed (c ∷ []) a.rest);
      upper_is = next≡ ∙ upper_next g e m u c a.rest a.is;
      below = all_append (λ d. All (λ q. cell_before d q ≡ true) u.left) u.passed (c ∷ []) u.below (all_before, tt);
      upper_ordered = record { ascend = ordered.ascend.1; fit = ordered.fit.1 };
      lower_ordered = u.lower_ordered;
      doubles = u.doubles;
      later = u.later;
    } in
    (next, omega (arith, upper-length g e m u, upper-length g e (record { upper = upper; cursor = m.cursor }) next, ap length a.is))

-- The lower range at the cursor, of which it is known whether it goes, and whose date and stamp no upper range has still to take.
pub record Seen (goes : Bool) (g : Chains) (e : List ℕ) (m : Progress) : Type 0 where
  pub uniting : Uniting g e m
  pub cell : Cell
  pub rest : List Cell
  pub is : uniting.left ≡ cell ∷ rest
  pub test : goes ≡ doubled g.upper cell
  pub same : map (later_cell (cell ∷ rest)) uniting.upper ≡ map (later_cell rest) uniting.upper

-- It goes or stays.
module _ (goes : Bool) (g : Chains) (e e' : List ℕ) (m : Progress) (m' : Cursor)
    (step : (g : Sift) → Sifting g e m.cursor → goes ≡ g.test (cell_at e m.cursor.at) → Sifts g e m.cursor e' m') where
  pub passes_lower : Seen goes g e m → Unites g e m e' (record { upper = m.upper; cursor = m' })
  passes_lower s =
      let u : Uniting g e m = s.uniting in
      let h : Sift = sift_of (doubled g.upper) (lower_chain g u.upper) in
      let here : s.cell ≡ cell_at e m.cursor.at = sym (lower_cell g e m u s.cell s.rest s.is) in
      let test : goes ≡ doubled g.upper (cell_at e m.cursor.at) = s.test ∙ ap (doubled g.upper) here in
      let ordered : CellsOrdered (s.cell ∷ s.rest) = left_ordered g e m u s.cell s.rest s.is in
      let next : Uniting g e' (record { upper = m.upper; cursor = m' }) = record {
        upper = u.upper;
        passed = u.passed;
        ahead = u.ahead;
        left = s.rest;
        sifting = (step h u.sifting test).0;
        left_is = left_after h e e' m.cursor m' u.sifting (step h u.sifting test) ∙ ap (drop 1) (u.left_is ∙ s.is);
        parts = u.parts;
        upper_is = u.upper_is;
        below =
            all_weaken (λ c. All (λ q. cell_before c q ≡ true) (s.cell ∷ s.rest)) (λ c. All (λ q. cell_before c q ≡ true) s.rest)
            (λ c a. a.1) u.passed (passed_before g e m u s.cell s.rest s.is);
        upper_ordered = u.upper_ordered;
        lower_ordered = record { ascend = ordered.ascend.1; fit = ordered.fit.1 };
        doubles = u.doubles;
        later = sym s.same ∙ ap (λ (qs : List Cell). map (later_cell qs) u.upper) (sym s.is) ∙ u.later;
      } in
      (next, omega (arith, upper-length g e m u, upper-length g e' (record { upper = m.upper; cursor = m' }) next, (step h u.sifting test).1))

-- No upper range is alike: it stays.
module _ (g : Chains) (e : List ℕ) (m : Progress) (lower : m.cursor.at ≢ 0) (u : Uniting g e m) where
  alone : ((x : Cell) → cell_at e m.cursor.at ≡ x → Apart x u.ahead) → Seen false g e m
  alone apart =
      let l : First u.left = lower_first g e m u lower in
      let x : Cell = l.cell in
      let behind : Apart x u.passed = passed_apart g e m u x l.rest l.is in
      let ahead : Apart x u.ahead = apart x (lower_cell g e m u x l.rest l.is) in
      let none : Apart x u.upper = subst (Apart x) (sym u.parts) (all_append (λ c. cell_key c ≢ cell_key x) u.passed u.ahead behind ahead) in
      record {
        uniting = u;
        cell = x;
        rest = l.rest;
        is = l.is;
        test = sym (sym (u.doubles x) ∙ doubled_apart x u.upper none);
        same = later_apart x l.rest u.upper none;
      }

  -- All upper ranges are passed.
  pub alone_last : m.upper ≡ 0 → Seen false g e m
  alone_last z = alone (λ x q. subst (Apart x) (sym (upper_none g e m u z)) tt)

  -- The first upper range ahead comes after it.
  pub alone_before : m.upper ≢ 0 → cell_key (cell_at e m.cursor.at) < cell_key (cell_at e m.upper) → Seen false g e m
  alone_before upper less = alone (λ x q.
      let a : First u.ahead = upper_first g e m u upper in
      let c : Cell = a.cell in
      let ordered : CellsOrdered (c ∷ a.rest) = subst CellsOrdered a.is u.upper_ordered in
      let below : cell_key x < cell_key c = omega (arith, ap cell_key (upper_cell g e m u c a.rest a.is), ap cell_key q) in
      let after : Apart x a.rest =
      all_weaken (λ d. cell_before c d ≡ true) (λ d. cell_key d ≢ cell_key x)
      (λ d h k. absurd (omega (arith, ltb-true (cell_key c) (cell_key d) h))) a.rest ordered.ascend.0 in
      subst (Apart x) (sym a.is) (omega arith, after))
