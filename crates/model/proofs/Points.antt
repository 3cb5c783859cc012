-- What all points of a store have, every call keeps, if the point that it writes has it too.
use mathlib.Core.Path.{◌≡◌, refl}
use mathlib.Core.Bool.{Bool, true, false, true≢false}
use mathlib.Core.List.{List, [], ◌∷◌, map}
use Prim.Native.Nat.{ℕ, suc, ◌<◌}
use native.Mathlib.Omega.{arith}
use lib.Dec.{eqb}
use lib.ListN.{get_or, set}
use borrow.Author.Tests.{eqb-true}
use Rattle.lists.specs.Lists.{none, reject}
use Rattle.lists.specs.All.{All}
use Rattle.lists.proofs.Bools.{cond_elim}
use Rattle.lists.proofs.Tests.{all_set, all_get, all_select, all_map, all_weaken}
use Rattle.lists.proofs.Merges.{all_merge}
use Rattle.model.specs.Records.{value, Point, Level, State, is_put, empty, level}
use Rattle.model.specs.Merge.{point_before, point_goes, release, merged, settled, joined}
use Rattle.model.specs.Steps.{Write, put, delete, delete_range, single, unplaced, merge_state, merge_all, displaced, enter_at, enter, overwrite, set_points, wipe, act_deepest}
use Rattle.model.specs.Calls.{written, tick, Call}
use Rattle.model.proofs.Keeps.{Kept, merge_all_keeps}
use Rattle.model.proofs.Form.{Formed, formed_kept}

module _ {S A : Type 0} where
  -- Level i merged into level i+1.
  abbrev pub merge_in : Bool → ℕ → List (Level S A) → List (Level S A)
  merge_in b i ls = set (set ls i empty) (suc i) (joined b (get_or ls i empty) (get_or ls (suc i) empty))

  -- What an empty level has, and a merge hands on, every level has afterwards.
  pub merge_in_all : (Q : Level S A → Type 0) → Q empty → ((b : Bool) (u l : Level S A) → Q u → Q l → Q (joined b u l))
      → (b : Bool) (i : ℕ) (ls : List (Level S A)) → All Q ls → All Q (merge_in b i ls)
  merge_in_all Q none join b i ls a =
      all_set Q (set ls i empty) (suc i) _ (all_set Q ls i empty a none)
      (join b (get_or ls i empty) (get_or ls (suc i) empty) (all_get Q ls i empty a none) (all_get Q ls (suc i) empty a none))

  -- The points of level L after an action on it.
  abbrev pub acted : ℕ → Write A → List (Point S A) → List (Point S A)
  acted t (put n a) ps = map (overwrite n a t) ps
  acted t (delete n) ps = reject (point_goes (unplaced {A = A} t (delete n))) ps
  acted t (delete_range lo hi date) ps = reject (point_goes (unplaced {A = A} t (delete_range lo hi date))) ps

  pub act_levels : (t : ℕ) (w : Write A) (s : State S A)
      → (act_deepest t w s).levels ≡ set s.levels s.settings.deepest
      (record { points = acted t w (level s.settings.deepest s).points; ranges = (level s.settings.deepest s).ranges; owed = (level s.settings.deepest s).owed })
  unfolding act_deepest set_points wipe
  act_levels t (put n a) s = refl
  act_levels t (delete n) s = refl
  act_levels t (delete_range lo hi date) s = refl

  -- The levels after an entry, which found a slot.
  pub enter-levels : (Q : List (Level S A) → Type 0) (t : ℕ) (w : Write A) (s : State S A) → none (release (displaced t w s) s.free) ≡ false
      → ((x : S) → Q (set s.levels 0 (merged (single x t w) (level 0 s)))) → Q (enter t w s).levels
  unfolding enter enter_at
  enter-levels Q t w s h q = go (release (displaced t w s) s.free) h
    where
      go : (free : List S) → none free ≡ false → Q (enter_at t w s free).levels
      go [] e = absurd (true≢false e)
      go (x ∷ free) e = q x

module _ {S A : Type 0} (P : Point S A → Type 0) where
  -- All points of a level have it.
  abbrev pub AllPoints : Level S A → Type 0
  AllPoints l = All P l.points

  -- A store in form, all of whose points have it.
  abbrev pub Holding : State S A → Type 0
  Holding s = Formed s × All AllPoints s.levels

  -- The point that a write at t makes has it, in any slot.
  abbrev pub Writes : ℕ → Write A → Type 0
  Writes t w = (x : S) → AllPoints (single x t w)

  merged_all : (u l : Level S A) → AllPoints u → All P (reject (point_goes u) l.points) → AllPoints (merged u l)
  unfolding merged
  merged_all u l a c = all_merge point_before P u.points (reject (point_goes u) l.points) a c

  pub merged_points : (u l : Level S A) → AllPoints u → AllPoints l → AllPoints (merged u l)
  merged_points u l a c = merged_all u l a (all_select P _ l.points c)

  -- Of the lower level only what stays is asked.
  pub joined_all : (b : Bool) (u l : Level S A) → AllPoints u → All P (reject (point_goes u) l.points) → AllPoints (joined b u l)
  unfolding joined settled
  joined_all true u l a c = all_select P (λ p. is_put p.entry) (merged u l).points (merged_all u l a c)
  joined_all false u l a c = merged_all u l a c

  pub joined_points : (b : Bool) (u l : Level S A) → AllPoints u → AllPoints l → AllPoints (joined b u l)
  joined_points b u l a c = joined_all b u l a (all_select P _ l.points c)

  pub merge_points : (b : Bool) (i : ℕ) (ls : List (Level S A)) → All AllPoints ls → All AllPoints (merge_in b i ls)
  merge_points b i ls a = merge_in_all AllPoints tt joined_points b i ls a

  pub acted_points : (t : ℕ) (w : Write A) (ps : List (Point S A)) → Writes t w → All P ps → All P (acted t w ps)
  unfolding single
  acted_points t (put n a) ps h c = all_map (overwrite n a t) P ps (all_weaken _ _ (λ p q. cond_elim P (eqb p.key n) _ p (written_over p) (λ e. q)) ps c)
    where
      written_over : (p : Point S A) → eqb p.key n ≡ true → P (record { slot = p.slot; key = p.key; entry = value a; stamp = t })
      written_over p e = rw (eqb-true p.key n e) (h p.slot).0
  acted_points t (delete n) ps h c = all_select P _ ps c
  acted_points t (delete_range lo hi date) ps h c = all_select P _ ps c

  pub holding_deep : (s : State S A) → Holding s → 0 < s.settings.deepest
  holding_deep s p = omega (arith, p.0.deep)

  pub holding_merging : (i : ℕ) (s : State S A) → i < s.settings.deepest → Holding s → Holding (merge_state i s)
  unfolding merge_state
  holding_merging i s h p =
      ((formed_kept (record { clock = 0; op = tick })).merging i s h p.0, merge_points (eqb (suc i) s.settings.deepest) i s.levels p.1)

  pub holding_kept : (c : Call A) → ((w : Write A) → c.op ≡ written w → Writes c.clock w) → Kept Holding c
  unfolding joined
  holding_kept c h = record {
    deep = holding_deep;
    merging = holding_merging;
    entering = λ w s e n p. (
      (formed_kept c).entering w s e n p.0,
      enter-levels (All AllPoints) c.clock w s n (λ x. all_set AllPoints s.levels 0 _ p.1
          (joined_points false (single x c.clock w) (level 0 s) (h w e x) (all_get AllPoints s.levels 0 empty p.1 tt))),
    );
    acting = λ w s e p. (
      (formed_kept c).acting w s e p.0,
      rw (act_levels c.clock w s) (all_set AllPoints s.levels s.settings.deepest _ p.1
          (acted_points c.clock w _ (h w e) (all_get AllPoints s.levels s.settings.deepest empty p.1 tt))),
    );
    timing = λ s p. ((formed_kept c).timing s p.0, p.1);
  }

  pub merge_all_holding : (s : State S A) → Holding s → Holding (merge_all s).state
  merge_all_holding s p = (merge_all_keeps Holding holding_deep holding_merging s p).0

module _ {S A : Type 0} (P Q : Point S A → Type 0) where
  pub holding_weaken : ((p : Point S A) → P p → Q p) → (s : State S A) → Holding P s → Holding Q s
  holding_weaken h s p = (p.0, all_weaken (AllPoints P) (AllPoints Q) (λ l. all_weaken P Q h l.points) s.levels p.1)
