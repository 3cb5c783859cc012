-- What each part of a call does to lookups: merges and the pass nothing, a write what it says.
use mathlib.Core.Path.{◌≡◌, refl, sym, ap, ◌∙◌}
use mathlib.Core.Bool.{Bool, true, false, cond, ◌||◌, false≢true, true≢false}
use mathlib.Core.List.{List, [], ◌∷◌, map}
use Prim.Native.Nat.{ℕ, suc, ◌≤◌, ◌<◌}
use native.Mathlib.Omega.{arith}
use lib.Dec.{eqb}
use lib.ListN.{length, get_or, set}
use borrow.Author.Tests.{eqb-true, eqb-false, eq-eqb, ne_eqb, lt-leb, not-false}
use Rattle.settings.specs.declared.Settings.{Settings}
use Rattle.lists.specs.Lists.{none, any}
use Rattle.lists.specs.All.{All}
use Rattle.lists.proofs.Bools.{cond_elim, by_cases, and_left, and_second_false, or_false}
use Rattle.lists.proofs.Tests.{all_weaken, all_every}
use Rattle.model.specs.Records.{value, Point, Level, State, empty, level}
use Rattle.model.specs.Coverage.{over, covers}
use Rattle.model.specs.Merge.{covered, names, release, merged, settled}
use Rattle.model.specs.Steps.{write_covers, Work, Write, put, delete, delete_range, single, unplaced, begin, merge_state, merge_level, merge_all, displaced}
use Rattle.model.specs.Steps.{enter_at, enter, overwrite, wipe, set_points, act_deepest, crowded, make_room, full, write, no_slot, pass}
use Rattle.model.specs.Lookup.{Found, absent, found, judged, find, lookup_from, lookup}
use Rattle.model.specs.Calls.{Op, written, flush, tick, prepared, out_of_slots}
use Rattle.model.proofs.Coverage.{over_one}
use Rattle.model.proofs.Keeps.{merge_all_keeps, pass_keeps, has_room}
use Rattle.model.proofs.Form.{Ordered, Formed, formed_kept}
use Rattle.model.proofs.Levels.{uncovered, uncovered_same, uncovered_all, lookup_level}
use Rattle.model.proofs.Lookups.{find-reject, Yielding, lookup-merged, lookup_merge}
use Rattle.model.proofs.Aged.{Aged, Bare, Steady, aged_steady, bare_steady}
use Rattle.model.proofs.Deepest.{only, only_level, set_points-only, lookup-only, Drained, merge_all_drained, drained_ordered}

module _ {A : Type 0} where
  -- The answers after a write, by the answers before it.
  abbrev pub after : ℕ → Write A → (ℕ → Found A) → ℕ → Found A
  after t (put n a) look k = cond (eqb n k) (found a t) (look k)
  after t (delete n) look k = uncovered (write_covers {A = A} (delete n) k) (look k)
  after t (delete_range lo hi date) look k = uncovered (write_covers {A = A} (delete_range lo hi date) k) (look k)

  abbrev pub after_op : ℕ → Op A → (ℕ → Found A) → ℕ → Found A
  after_op t (written w) look k = after t w look k
  after_op t flush look k = look k
  after_op t tick look k = look k

  after_same : (t : ℕ) (w : Write A) (f g : ℕ → Found A) (k : ℕ) → f k ≡ g k → after t w f k ≡ after t w g k
  after_same t (put n a) f g k h = rw h
  after_same t (delete n) f g k h = rw h
  after_same t (delete_range lo hi date) f g k h = rw h

  pub after_op_same : (t : ℕ) (op : Op A) (f g : ℕ → Found A) (k : ℕ) → f k ≡ g k → after_op t op f k ≡ after_op t op g k
  after_op_same t (written w) f g k h = after_same t w f g k h
  after_op_same t flush f g k h = h
  after_op_same t tick f g k h = h

  -- A put with a stamp is found.
  judged_put : (a : A) (t : ℕ) → 1 ≤ t → judged 0 (value a) t ≡ found a t
  judged_put a t low = rw (lt-leb t 0 low)

module _ {S A : Type 0} where
  pub last_only : (i : ℕ) (s : State S A) → Formed s → eqb (suc i) s.settings.deepest ≡ true → length s.levels ≡ suc (suc i)
  last_only i s f e = omega (arith, f.size, eqb-true (suc i) s.settings.deepest e)

  merge_lookup : (i : ℕ) (s : State S A) (k : ℕ) → Formed s → Yielding s.levels → i < s.settings.deepest → lookup (merge_state i s).levels k ≡ lookup s.levels k
  unfolding merge_state
  merge_lookup i s k f y h = lookup_merge (eqb (suc i) s.settings.deepest) i s.levels k (omega (arith, f.size)) (last_only i s f) f.ordered y

  module _ (P : List (Level S A) → Type 0) (steady : Steady P) where
    -- A store in form that answers as `look` does and will go on to.
    abbrev Answering : (ℕ → Found A) → State S A → Type 0
    Answering look s = Formed s × P s.levels × ((k : ℕ) → lookup s.levels k ≡ look k)

    answering_deep : (look : ℕ → Found A) (s : State S A) → Answering look s → 0 < s.settings.deepest
    answering_deep look s p = omega (arith, p.0.deep)

    answering_merging : (look : ℕ → Found A) (i : ℕ) (s : State S A) → i < s.settings.deepest → Answering look s → Answering look (merge_state i s)
    unfolding merge_state
    answering_merging look i s h p = (
      (formed_kept (record { clock = 0; op = tick })).merging i s h p.0,
      steady.merging (eqb (suc i) s.settings.deepest) i s.levels p.1,
      λ k. merge_lookup i s k p.0 (steady.yields s.levels p.1) h ∙ p.2 k,
    )

    -- Merging all levels, and the pass, change no lookup.
    pub merge_all_steady : (s : State S A) → Formed s → P s.levels → Answering (lookup s.levels) (merge_all s).state
    merge_all_steady s f a = (merge_all_keeps (Answering (lookup s.levels)) (answering_deep _) (answering_merging _) s (f, a, λ j. refl)).0

    pass_steady : (t : ℕ) (w : Work S A) → Formed w.state → P w.state.levels → Answering (lookup w.state.levels) (pass t w).state
    pass_steady t w f a = (pass_keeps (Answering (lookup w.state.levels)) (answering_deep _) (answering_merging _) t w (f, a, λ j. refl)).0

  pub merge_all-lookup : (s : State S A) (k : ℕ) → Formed s → Aged s.levels → lookup (merge_all s).state.levels k ≡ lookup s.levels k
  merge_all-lookup s k f a = (merge_all_steady Aged aged_steady s f a).2 k

  -- Where no level has a range, age does not matter.
  pub merge_all-lookup_bare : (s : State S A) (k : ℕ) → Formed s → All Bare s.levels → lookup (merge_all s).state.levels k ≡ lookup s.levels k
  merge_all-lookup_bare s k f a = (merge_all_steady (All Bare) bare_steady s f a).2 k

  pub pass-lookup : (t : ℕ) (w : Work S A) (k : ℕ) → Formed w.state → Aged w.state.levels → lookup (pass t w).state.levels k ≡ lookup w.state.levels k
  pass-lookup t w k f a = (pass_steady Aged aged_steady t w f a).2 k

  lookup-single : (x : S) (t : ℕ) (w : Write A) (ls : List (Level S A)) (k : ℕ) → 1 ≤ t → lookup (single x t w ∷ ls) k ≡ after t w (lookup ls) k
  unfolding single find any
  lookup-single x t w ls k low = lookup_level (single x t w) ls k ∙ go w
    where
      go : (w : Write A) → find 0 (single x t w).points k (uncovered (covered (single x t w).ranges k) (lookup ls k)) ≡ after t w (lookup ls) k
      go (put n a) = rw (judged_put a t low, uncovered_all false (lookup ls k))
      go (delete n) = rw (uncovered_all false (lookup ls k), lt-leb t 0 low) (sym (uncovered_all (over n n k) (lookup ls k) ∙ rw (over_one n k)))
      go (delete_range lo hi date) = uncovered_same _ _ (λ u. or_false (covers lo hi date k u)) (lookup ls k)

  enter_at-lookup : (t : ℕ) (w : Write A) (s : State S A) (free : List S) (k : ℕ) → 1 ≤ t → none free ≡ false → Formed s → Aged s.levels
      → lookup (enter_at t w s free).levels k ≡ after t w (lookup s.levels) k
  unfolding enter_at
  enter_at-lookup t w s [] k low h f a = absurd (true≢false h)
  enter_at-lookup t w s (x ∷ free) k low h f a = go s.levels (omega (arith, f.size)) f.ordered a
    where
      go : (ls : List (Level S A)) → 0 < length ls → All Ordered ls → Aged ls → lookup (set ls 0 (merged (single x t w) (get_or ls 0 empty))) k ≡ after t w (lookup ls) k
      go [] q o a = absurd (omega arith)
      go (b ∷ ls) q o a = lookup-merged (single x t w) b ls k o.0 (all_weaken _ _ (λ p h c. h) b.points a.0) ∙ lookup-single x t w (b ∷ ls) k low

  enter-lookup : (t : ℕ) (w : Write A) (s : State S A) (k : ℕ) → 1 ≤ t → Formed s → Aged s.levels → none (release (displaced t w s) s.free) ≡ false
      → lookup (enter t w s).levels k ≡ after t w (lookup s.levels) k
  unfolding enter
  enter-lookup t w s k low f a h = enter_at-lookup t w s (release (displaced t w s) s.free) k low h f a

  -- A put over its own docket, and over others.
  find_overwritten : (n : ℕ) (a : A) (t : ℕ) (ps : List (Point S A)) (k : ℕ) (d : Found A) → 1 ≤ t → n ≡ k → names ps n ≡ true
      → find 0 (map (overwrite n a t) ps) k d ≡ found a t
  unfolding find any
  find_overwritten n a t [] k d low e h = absurd (false≢true h)
  find_overwritten n a t (p ∷ ps) k d low e h = go (eqb p.key n) refl h (find_overwritten n a t ps k d low e)
    where
      go : (b : Bool) → eqb p.key n ≡ b → b || names ps n ≡ true → (names ps n ≡ true → find 0 (map (overwrite n a t) ps) k d ≡ found a t)
          → find 0 (map (overwrite n a t) (p ∷ ps)) k d ≡ found a t
      go true q g ih = rw (q, eq-eqb p.key k (eqb-true p.key n q ∙ e)) (judged_put a t low)
      go false q g ih = rw (q, ne_eqb p.key k (λ r. eqb-false p.key n q (r ∙ sym e))) (ih g)

  find_other : (n : ℕ) (a : A) (t : ℕ) (ps : List (Point S A)) (k : ℕ) (d : Found A) → eqb n k ≡ false → find 0 (map (overwrite n a t) ps) k d ≡ find 0 ps k d
  unfolding find
  find_other n a t [] k d e = refl
  find_other n a t (p ∷ ps) k d e = go (eqb p.key n) refl (find_other n a t ps k d e)
    where
      go : (b : Bool) → eqb p.key n ≡ b → find 0 (map (overwrite n a t) ps) k d ≡ find 0 ps k d → find 0 (map (overwrite n a t) (p ∷ ps)) k d ≡ find 0 (p ∷ ps) k d
      go true q ih = rw (q, ne_eqb p.key k (λ r. eqb-false n k e (sym (eqb-true p.key n q) ∙ r))) ih
      go false q ih = rw (q, ih)

  -- The level has the docket of a put.
  abbrev Holds : Level S A → Write A → Type 0
  Holds l (put j a) = names l.points j ≡ true
  Holds l (delete j) = Unit {0}
  Holds l (delete_range lo hi date) = Unit {0}

  -- Only level L holds records: what an action on it does.
  module _ (s : State S A) (n : ℕ) (l : Level S A) (deep : s.settings.deepest ≡ n) (levels : s.levels ≡ only n l) (ordered : Ordered l) where
    at_deepest : level s.settings.deepest s ≡ l
    at_deepest = rw (deep, levels) (only_level n l)

    lookup_before : (k : ℕ) → lookup s.levels k ≡ find 0 l.points k absent
    unfolding lookup_from
    lookup_before k = rw levels (lookup-only n l k)

    lookup_set : (ps : List (Point S A)) (free : List S) (k : ℕ) → lookup (set_points s.settings.deepest ps s free).levels k ≡ find 0 ps k absent
    unfolding lookup_from
    lookup_set ps free k = ap (λ ls. lookup ls k) (set_points-only s n l ps free deep levels) ∙ lookup-only n _ k

    lookup-wipe : (u : Level (Unit {0}) A) (k : ℕ)
        → lookup (wipe u s.settings.deepest s).levels k ≡ uncovered (λ t. names u.points k || covered u.ranges k t) (lookup s.levels k)
    unfolding wipe
    lookup-wipe u k =
        lookup_set _ _ k ∙ rw (at_deepest, lookup_before k)
        (find-reject (λ j t. names u.points j || covered u.ranges j t) l.points k absent ordered (all_every _ (λ p e c. refl) l.points))

    pub act_lookup : (t : ℕ) (w : Write A) (k : ℕ) → 1 ≤ t → Holds l w → lookup (act_deepest t w s).levels k ≡ after t w (lookup s.levels) k
    unfolding act_deepest single any
    act_lookup t (put j a) k low h =
        lookup_set _ s.free k ∙ rw (at_deepest, lookup_before k)
        (by_cases (eqb j k)
        (λ e. find_overwritten j a t l.points k absent low (eqb-true j k e) h ∙ rw e)
        (λ e. find_other j a t l.points k absent e ∙ rw e))
    act_lookup t (delete j) k low h =
        lookup-wipe (unplaced t (delete j)) k ∙ uncovered_same _ _ (λ u. or_false (eqb j k || false) ∙ or_false (eqb j k) ∙ sym (over_one j k)) (lookup s.levels k)
    act_lookup t (delete_range lo hi date) k low h =
        lookup-wipe (unplaced t (delete_range lo hi date)) k ∙ uncovered_same _ _ (λ u. or_false (covers lo hi date k u)) (lookup s.levels k)

  make_room-lookup : (t : ℕ) (w : Write A) (s : State S A) → Formed s → Aged s.levels → Answering Aged aged_steady (lookup s.levels) (make_room t w s).state
  unfolding make_room
  make_room-lookup t w s f a =
      cond_elim (λ (x : Work S A). Answering Aged aged_steady (lookup s.levels) x.state) (crowded t w s) (merge_all s) (begin s)
      (λ g. merge_all_steady Aged aged_steady s f a) (λ g. (f, a, λ j. refl))

  pub full_room : (t : ℕ) (w : Write A) (s : State S A) → full t w s ≡ true → make_room t w s ≡ merge_all s
  unfolding make_room full
  full_room t w s h = rw (and_left (crowded t w s) (none (merge_all s).state.free) h)

  -- Where no slot is left and the write is not refused, level L has the put's docket.
  has_docket : (t : ℕ) (w : Write A) (s : State S A) (f : Formed s) → no_slot t w s ≡ false → full t w s ≡ true → Holds (settled (merge_all_drained s f).source) w
  unfolding no_slot
  has_docket t (put k a) s f h g =
      let n : ℕ = s.settings.deepest in
      let d : Drained s (merge_all s).state = merge_all_drained s f in
      ap (λ (l : Level S A). names l.points k) (sym (ap (λ ls. get_or ls n empty) d.levels ∙ only_level n (settled d.source)))
      ∙ not-false (names (level n (merge_all s).state).points k) (and_second_false (full t (put k a) s) _ h g)
  has_docket t (delete k) s f h g = tt
  has_docket t (delete_range lo hi date) s f h g = tt

  pub write-lookup : (t : ℕ) (w : Write A) (s : State S A) (k : ℕ) → 1 ≤ t → Formed s → Aged s.levels → no_slot t w s ≡ false
      → lookup (write t w s).state.levels k ≡ after t w (lookup s.levels) k
  unfolding write
  write-lookup t w s k low f a h =
      cond_elim (λ (x : State S A). lookup x.levels k ≡ after t w (lookup s.levels) k) (full t w s) (act_deepest t w r) (enter t w r) acting entering
    where
      r : State S A
      r = (make_room t w s).state

      room : Answering Aged aged_steady (lookup s.levels) r
      room = make_room-lookup t w s f a

      acting : full t w s ≡ true → lookup (act_deepest t w r).levels k ≡ after t w (lookup s.levels) k
      acting g =
          let d : Drained s (merge_all s).state = merge_all_drained s f in
          let e : r ≡ (merge_all s).state = ap (λ (x : Work S A). x.state) (full_room t w s g) in
          act_lookup r s.settings.deepest (settled d.source) (ap (λ (x : State S A). x.settings.deepest) e ∙ ap (λ (x : Settings). x.deepest) d.same)
          (ap (λ (x : State S A). x.levels) e ∙ d.levels) (drained_ordered s f) t w k low (has_docket t w s f h g)
          ∙ after_same t w (lookup r.levels) (lookup s.levels) k (room.2 k)

      entering : full t w s ≡ false → lookup (enter t w r).levels k ≡ after t w (lookup s.levels) k
      entering g = enter-lookup t w r k low room.0 room.1 (has_room t w s g) ∙ after_same t w (lookup r.levels) (lookup s.levels) k (room.2 k)

  -- An accepted call answers afterwards as its write says.
  pub prepared-lookup : (t : ℕ) (op : Op A) (s : State S A) (k : ℕ) → 1 ≤ t → Formed s → Aged s.levels → out_of_slots t op s ≡ false
      → lookup (prepared t op s).state.levels k ≡ after_op t op (lookup s.levels) k
  unfolding prepared merge_level
  prepared-lookup t (written w) s k low f a h = write-lookup t w s k low f a h
  prepared-lookup t flush s k low f a h = merge_lookup 0 s k f (aged_steady.yields s.levels a) (omega (arith, f.deep))
  prepared-lookup t tick s k low f a h = refl
