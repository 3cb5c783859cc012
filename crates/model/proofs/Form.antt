-- The form of a store: a level for each of 0 to L, whose points ascend. Every call keeps it.
use mathlib.Core.Path.{◌≡◌, refl, ◌∙◌}
use mathlib.Core.Bool.{Bool, true, false, not}
use mathlib.Core.List.{List, [], ◌∷◌, map}
use Prim.Native.Nat.{ℕ, suc, ◌≤◌}
use native.Mathlib.Omega.{arith}
use lib.Dec.{eqb}
use lib.ListN.{length, set, length-set, length-replicate}
use borrow.Author.Tests.{ltb-true, ltb-false, lt-ltb, eqb-false, not-true}
use Rattle.settings.specs.declared.Settings.{Settings}
use Rattle.settings.specs.Limits.{allowed}
use Rattle.settings.proofs.Allowed.{allowed_bounds}
use Rattle.lists.specs.Lists.{any, reject}
use Rattle.lists.specs.All.{All, Ascending}
use Rattle.lists.proofs.Bools.{cond_elim, or_false_left, or_false_right}
use Rattle.lists.proofs.Tests.{all_set, all_get, all_weaken, all_selected, all_every, all_replicate}
use Rattle.lists.proofs.Merges.{Apart, merge_ascending, select_ascending, map_ascending}
use Rattle.model.specs.Records.{Point, Level, State, empty, level, fresh}
use Rattle.model.specs.Merge.{covered, names, point_before, point_goes, release, merged, settled, joined}
use Rattle.model.specs.Steps.{Write, put, delete, delete_range, single, unplaced, merge_state, displaced, enter_at, enter, overwrite, set_points, wipe, act_deepest}
use Rattle.model.specs.Calls.{Call, step, run}
use Rattle.model.proofs.Keeps.{Kept, step_keeps, run_keeps}

module _ {S A : Type 0} where
  abbrev pub Ordered : Level S A → Type 0
  Ordered l = Ascending point_before l.points

  before_trans : (p q r : Point S A) → point_before p q ≡ true → point_before q r ≡ true → point_before p r ≡ true
  before_trans p q r a b = lt-ltb p.key r.key (omega (arith, ltb-true p.key q.key a, ltb-true q.key r.key b))

  -- Points of which no docket is named among others are apart from them.
  points_apart : (ps qs : List (Point S A)) → All (λ q. names ps q.key ≡ false) qs → Apart point_before ps qs
  unfolding any
  points_apart [] qs a = tt
  points_apart (p ∷ ps) qs a = (
    all_weaken _ _ (λ q h e. lt-ltb q.key p.key (omega (arith, ltb-false p.key q.key e, eqb-false p.key q.key (or_false_left (eqb p.key q.key) _ h)))) qs a,
    points_apart ps qs (all_weaken _ _ (λ q h. or_false_right (eqb p.key q.key) _ h) qs a),
  )

  -- What stays of a lower level is not named by the upper one.
  pub staying_unnamed : (u : Level S A) (ps : List (Point S A)) → All (λ p. names u.points p.key ≡ false) (reject (point_goes u) ps)
  staying_unnamed u ps = all_selected _ (λ p. not (point_goes u p))
      (λ p h. or_false_left (names u.points p.key) (covered u.ranges p.key p.stamp) (not-true (point_goes u p) h)) ps

  pub merged_ordered : (u l : Level S A) → Ordered u → Ordered l → Ordered (merged u l)
  unfolding merged
  merged_ordered u l a b = merge_ascending point_before before_trans u.points (reject (point_goes u) l.points) a
      (select_ascending point_before _ l.points b) (points_apart u.points (reject (point_goes u) l.points) (staying_unnamed u l.points))

  pub settled_ordered : (l : Level S A) → Ordered l → Ordered (settled l)
  unfolding settled
  settled_ordered l a = select_ascending point_before _ l.points a

  pub joined_ordered : (b : Bool) (u l : Level S A) → Ordered u → Ordered l → Ordered (joined b u l)
  unfolding joined
  joined_ordered b u l p q = cond_elim Ordered b (settled (merged u l)) (merged u l) (λ e. settled_ordered (merged u l) (merged_ordered u l p q)) (λ e. merged_ordered u l p q)

  pub single_ordered : (x : S) (t : ℕ) (w : Write A) → Ordered (single x t w)
  unfolding single
  single_ordered x t (put k a) = (tt, tt)
  single_ordered x t (delete k) = (tt, tt)
  single_ordered x t (delete_range lo hi date) = tt

  pub overwrite-key : (k : ℕ) (a : A) (t : ℕ) (p : Point S A) → (overwrite k a t p).key ≡ p.key
  overwrite-key k a t p = cond_elim (λ (q : Point S A). q.key ≡ p.key) (eqb p.key k) _ p (λ e. refl) (λ e. refl)

  pub overwrite_ordered : (k : ℕ) (a : A) (t : ℕ) (ps : List (Point S A)) → Ascending point_before ps → Ascending point_before (map (overwrite k a t) ps)
  overwrite_ordered k a t ps h = map_ascending (overwrite k a t) point_before point_before (λ p q. rw (overwrite-key k a t p, overwrite-key k a t q)) ps h

-- A store in form.
pub record Formed {S A : Type 0} (s : State S A) : Type 0 where
  pub deep : 2 ≤ s.settings.deepest
  pub wide : 2 ≤ s.settings.ratio
  pub size : length s.levels ≡ suc s.settings.deepest
  pub ordered : All Ordered s.levels

module _ {S A : Type 0} where
  pub level_ordered : (i : ℕ) (s : State S A) → Formed s → Ordered (level i s)
  level_ordered i s f = all_get Ordered s.levels i empty f.ordered tt

  merge_formed : (i : ℕ) (s : State S A) → Formed s → Formed (merge_state i s)
  unfolding merge_state
  merge_formed i s f = record {
    deep = f.deep;
    wide = f.wide;
    size = length-set (set s.levels i empty) (suc i) _ ∙ length-set s.levels i empty ∙ f.size;
    ordered = all_set Ordered (set s.levels i empty) (suc i) _ (all_set Ordered s.levels i empty f.ordered tt)
        (joined_ordered _ (level i s) (level (suc i) s) (level_ordered i s f) (level_ordered (suc i) s f));
  }

  enter_at_formed : (t : ℕ) (w : Write A) (s : State S A) (free : List S) → Formed s → Formed (enter_at t w s free)
  unfolding enter_at
  enter_at_formed t w s [] f = f
  enter_at_formed t w s (x ∷ free) f = record {
    deep = f.deep;
    wide = f.wide;
    size = length-set s.levels 0 _ ∙ f.size;
    ordered = all_set Ordered s.levels 0 _ f.ordered (merged_ordered (single x t w) (level 0 s) (single_ordered x t w) (level_ordered 0 s f));
  }

  pub enter_formed : (t : ℕ) (w : Write A) (s : State S A) → Formed s → Formed (enter t w s)
  unfolding enter
  enter_formed t w s f = enter_at_formed t w s (release (displaced t w s) s.free) f

  set_points_formed : (i : ℕ) (ps : List (Point S A)) (s : State S A) (free : List S) → Ascending point_before ps → Formed s → Formed (set_points i ps s free)
  unfolding set_points
  set_points_formed i ps s free a f = record
      { deep = f.deep; wide = f.wide; size = length-set s.levels i _ ∙ f.size; ordered = all_set Ordered s.levels i _ f.ordered a }

  wipe_formed : (u : Level (Unit {0}) A) (i : ℕ) (s : State S A) → Formed s → Formed (wipe u i s)
  unfolding wipe
  wipe_formed u i s f = set_points_formed i _ s _ (select_ascending point_before _ (level i s).points (level_ordered i s f)) f

  pub act_formed : (t : ℕ) (w : Write A) (s : State S A) → Formed s → Formed (act_deepest t w s)
  unfolding act_deepest
  act_formed t (put k a) s f = set_points_formed s.settings.deepest _ s s.free (overwrite_ordered k a t (level s.settings.deepest s).points (level_ordered s.settings.deepest s f)) f
  act_formed t (delete k) s f = wipe_formed (unplaced t (delete k)) s.settings.deepest s f
  act_formed t (delete_range lo hi date) s f = wipe_formed (unplaced t (delete_range lo hi date)) s.settings.deepest s f

  pub formed_kept : (c : Call A) → Kept {S = S} Formed c
  formed_kept c = record {
    deep = λ s f. omega (arith, f.deep);
    merging = λ i s h f. merge_formed i s f;
    entering = λ w s e n f. enter_formed c.clock w s f;
    acting = λ w s e f. act_formed c.clock w s f;
    timing = λ s f. record { deep = f.deep; wide = f.wide; size = f.size; ordered = f.ordered };
  }

  pub step_formed : (s : State S A) (c : Call A) → Formed s → Formed (step s c).state
  step_formed s c f = step_keeps Formed c (formed_kept c) s f

  pub run_formed : (s : State S A) (cs : List (Call A)) → Formed s → Formed (run s cs)
  run_formed s cs f = run_keeps Formed s cs (all_every (Kept {S = S} Formed) formed_kept cs) f

  pub fresh_formed : (settings : Settings) (slots : List S) → allowed settings ≡ true → Formed (fresh {A = A} settings slots)
  unfolding fresh
  fresh_formed settings slots h = record {
    deep = (allowed_bounds settings h).deepest_low;
    wide = (allowed_bounds settings h).ratio_low;
    size = length-replicate (suc settings.deepest) empty;
    ordered = all_replicate Ordered (suc settings.deepest) empty tt;
  }
