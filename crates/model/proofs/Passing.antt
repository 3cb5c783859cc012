-- Merging never makes more points of any kind: of those that pass a test, no more are left than there were.
use mathlib.Core.Path.{◌≡◌, refl, ap}
use mathlib.Core.Bool.{Bool, true, false, not}
use mathlib.Core.List.{List, [], ◌∷◌}
use Prim.Native.Nat.{ℕ, suc, ◌+◌, ◌≤◌, ◌<◌}
use native.Mathlib.Omega.{arith}
use lib.Dec.{eqb}
use lib.ListN.{length, set, length-set}
use lib.Seq.{get_or-set_other}
use Rattle.lists.specs.Lists.{count, reject, sum}
use Rattle.lists.proofs.Counting.{count-merge, count_append, count-select, sum-set}
use Rattle.model.specs.Records.{Point, Level, State, is_put, empty, level}
use Rattle.model.specs.Merge.{point_before, point_goes, merged, settled, joined}
use Rattle.model.specs.Steps.{merge_state, merge_all}
use Rattle.model.specs.Live.{all_points}
use Rattle.model.specs.Calls.{tick}
use Rattle.model.proofs.Keeps.{merge_all_keeps}
use Rattle.model.proofs.Form.{Formed, formed_kept}

-- The points that pass a test, of a level and of all levels; no merge makes more of them.
module _ {S A : Type 0} (q : Point S A → Bool) where
  abbrev pub passing : Level S A → ℕ
  passing l = count q l.points

  passing-merged : (u l : Level S A) → passing (merged u l) ≤ passing u + passing l
  unfolding merged
  passing-merged u l = omega (
    arith,
    count-merge q point_before u.points (reject (point_goes u) l.points),
    count-select q (λ p. not (point_goes u p)) l.points,
  )

  passing-joined : (b : Bool) (u l : Level S A) → passing (joined b u l) ≤ passing u + passing l
  unfolding joined settled
  passing-joined true u l = omega (arith, count-select q (λ p. is_put p.entry) (merged u l).points, passing-merged u l)
  passing-joined false u l = passing-merged u l

  merge_passing : (i : ℕ) (s : State S A) → suc i < length s.levels → sum passing (merge_state i s).levels ≤ sum passing s.levels
  unfolding merge_state
  merge_passing i s h =
      let b : Bool = eqb (suc i) s.settings.deepest in
      let v : Level S A = joined b (level i s) (level (suc i) s) in
      let nothing : passing empty ≡ 0 = unfold count in refl in
      omega (
        arith,
        sum-set passing s.levels i empty empty (omega arith),
        nothing,
        sum-set passing (set s.levels i empty) (suc i) v empty (omega (arith, length-set s.levels i empty)),
        ap passing (get_or-set_other s.levels i (suc i) empty empty (omega arith)),
        passing-joined b (level i s) (level (suc i) s),
      )

  -- A store in form of whose points at most m pass.
  Most : ℕ → State S A → Type 0
  Most m s = Formed s × (sum passing s.levels ≤ m)

  pub merge_all-passing : (s : State S A) → Formed s → sum passing (merge_all s).state.levels ≤ sum passing s.levels
  unfolding Most
  merge_all-passing s f = (merge_all_keeps (Most (sum passing s.levels)) (λ x p. omega (arith, p.0.deep))
      (λ i x h p. ((formed_kept (record { clock = 0; op = tick })).merging i x h p.0, omega (arith, merge_passing i x (omega (arith, p.0.size))))) s (f, omega arith)).0.1

  passing_all : (ls : List (Level S A)) → sum passing ls ≡ count q (all_points ls)
  unfolding sum count
  passing_all [] = refl
  passing_all (l ∷ ls) = omega (arith, count_append q l.points (all_points ls), passing_all ls)

  pub merge_all_counts : (s : State S A) → Formed s → count q (all_points (merge_all s).state.levels) ≤ count q (all_points s.levels)
  merge_all_counts s f = omega (arith, merge_all-passing s f, passing_all (merge_all s).state.levels, passing_all s.levels)
