-- A put finds no slot exactly when, after the merging, every slot holds a different live docket and its own is not among them.
use mathlib.Core.Path.{◌≡◌, refl, sym, ap, ◌∙◌}
use mathlib.Core.Bool.{Bool, true, false, cond, ◌||◌, not, false≢true}
use mathlib.Core.List.{List, [], ◌∷◌, append-nil}
use Prim.Native.Nat.{ℕ, zero, suc, ◌+◌, ◌≤◌}
use native.Mathlib.Omega.{arith}
use lib.Dec.{eqb}
use lib.ListN.{length, get_or, length-append}
use borrow.Author.Tests.{eq-eqb, lt-leb, not-true}
use Rattle.lists.specs.Lists.{count, none, any, sum}
use Rattle.lists.specs.All.{All, Ascending}
use Rattle.lists.proofs.Bools.{by_cases, and_left, and_right, and_intro, or_left, or_right, or_false, eqb_sym}
use Rattle.lists.proofs.Tests.{none_of_length, length_of_none, all_weaken, all_append, all_selected, any_same, select_none, select_never}
use Rattle.lists.proofs.Counts.{count_rest, count_none, none_counted}
use Rattle.lists.proofs.Counting.{count_most, count_append}
use Rattle.model.specs.Records.{Entry, value, tombstone, Point, Level, State, is_put, empty, level, held, held_all}
use Rattle.model.specs.Merge.{names, point_before, range_goes, point_goes, settled}
use Rattle.model.specs.Steps.{put, single, unplaced, merge_state, merge_all, displaced, crowded, full, no_slot}
use Rattle.model.specs.Lookup.{Found, absent, judged, is_found, find, lookup_from, lookup}
use Rattle.model.specs.Live.{all_points, SlotsLive}
use Rattle.model.specs.Calls.{tick}
use Rattle.model.proofs.Keeps.{merge_all_keeps}
use Rattle.model.proofs.Form.{Formed, formed_kept}
use Rattle.model.proofs.Slots.{Whole, whole_kept}
use Rattle.model.proofs.Numbers.{merge_all-free}
use Rattle.model.proofs.Lookups.{find_unnamed}
use Rattle.model.proofs.Deepest.{only, only_level, lookup-only, held-only, Drained, merge_all_drained, drained_ordered}
use Rattle.model.proofs.Aged.{Stamped}
use Rattle.model.proofs.Points.{merge_points}
use Rattle.model.proofs.Passing.{merge_all-passing, merge_all_counts}

put_found : {A : Type 0} (e : Entry A) (t : ℕ) → 1 ≤ t → is_put e ≡ true → is_found (judged 0 e t) ≡ true
put_found (value a) t low h = rw (lt-leb t 0 low)
put_found tombstone t low h = absurd (false≢true h)

module _ {S A : Type 0} where
  abbrev pub AllPuts : List (Point S A) → Type 0
  AllPuts ps = All (λ p. is_put p.entry ≡ true) ps

  -- Among puts with stamps a docket is found where it is named.
  pub puts_found : (t : ℕ) (ps : List (Point S A)) (k : ℕ) (d : Found A) → AllPuts ps → All (λ p. (1 ≤ p.stamp) × (p.stamp ≤ t)) ps → names ps k ≡ true
      → is_found (find 0 ps k d) ≡ true
  unfolding any find
  puts_found t [] k d a s h = absurd (false≢true h)
  puts_found t (p ∷ ps) k d a s h = go (eqb p.key k) h (puts_found t ps k d a.1 s.1)
    where
      go : (b : Bool) → b || names ps k ≡ true → (names ps k ≡ true → is_found (find 0 ps k d) ≡ true) → is_found (cond b (judged 0 p.entry p.stamp) (find 0 ps k d)) ≡ true
      go true g ih = put_found p.entry p.stamp s.0.0 a.0
      go false g ih = ih g

  pub found_named : (ps : List (Point S A)) (k : ℕ) → is_found (find 0 ps k absent) ≡ true → names ps k ≡ true
  found_named ps k h = by_cases (names ps k) (λ e. e) (λ e. absurd (false≢true (rw (find_unnamed 0 ps k absent e) at h)))

  pub names_own : (ps : List (Point S A)) → All (λ p. names ps p.key ≡ true) ps
  unfolding any
  names_own [] = tt
  names_own (p ∷ ps) = (or_left (eqb p.key p.key) _ (eq-eqb p.key p.key refl), all_weaken _ _ (λ q h. or_right (eqb p.key q.key) _ h) ps (names_own ps))

  -- The puts of a level, and of all levels; no merge makes more of them.
  abbrev pub puts_of : Level S A → ℕ
  puts_of l = count (λ p. is_put p.entry) l.points

  pub puts_held : (l : Level S A) → puts_of l ≤ held l
  puts_held l = omega (arith, count_most (λ p. is_put p.entry) l.points)

  merge_all_puts : (s : State S A) → Formed s → sum puts_of (merge_all s).state.levels ≤ sum puts_of s.levels
  merge_all_puts s f = merge_all-passing (λ p. is_put p.entry) s f

  -- What holds of every level's points holds of all points.
  pub points_all : (P : Point S A → Type 0) (ls : List (Level S A)) → All (λ l. All P l.points) ls → All P (all_points ls)
  points_all P [] a = tt
  points_all P (l ∷ ls) a = all_append P l.points (all_points ls) a.0 (points_all P ls a.1)

  points_held : (ls : List (Level S A)) → length (all_points ls) ≤ held_all ls
  unfolding sum
  points_held [] = omega arith
  points_held (l ∷ ls) = omega (arith, length-append l.points (all_points ls), points_held ls)

  merge_all_stamps : (t : ℕ) (s : State S A) → Formed s → All (Stamped t) s.levels → All (Stamped t) (merge_all s).state.levels
  unfolding merge_state
  merge_all_stamps t s f a = (merge_all_keeps (λ (x : State S A). Formed x × All (Stamped t) x.levels) (λ x p. omega (arith, p.0.deep))
      (λ i x h p. ((formed_kept (record { clock = 0; op = tick })).merging i x h p.0, merge_points _ (eqb (suc i) x.settings.deepest) i x.levels p.1)) s (f, a)).0.1

  merge_all_whole : (n : ℕ) (s : State S A) → Whole n s → Whole n (merge_all s).state
  merge_all_whole n s f = (merge_all_keeps (Whole n) (whole_kept n (record { clock = 0; op = tick })).deep (whole_kept n (record { clock = 0; op = tick })).merging s f).0

  points-only : (n : ℕ) (l : Level S A) → all_points (only n l) ≡ l.points
  points-only zero l = append-nil l.points
  points-only (suc n) l = points-only n l

  puts_only : (n : ℕ) (l : Level S A) → sum puts_of (only n l) ≡ puts_of l
  unfolding sum
  puts_only zero l = omega arith
  puts_only (suc n) l = omega (arith, puts_only n l, no_puts)
    where
      no_puts : puts_of empty ≡ 0
      no_puts = unfold count in refl

  -- All puts: as many as there are points.
  count_all : (ps : List (Point S A)) → AllPuts ps → count (λ p. is_put p.entry) ps ≡ length ps
  unfolding count
  count_all [] a = refl
  count_all (p ∷ ps) a = rw a.0 (omega (arith, count_all ps a.1))

  settled_puts : (l : Level S A) → AllPuts (settled l).points
  unfolding settled
  settled_puts l = all_selected _ (λ p. is_put p.entry) (λ p h. h) l.points

  held-settled-points : (l : Level S A) → held (settled l) ≡ length (settled l).points
  unfolding settled
  held-settled-points l = omega arith

-- The state s with all levels merged: its records are the points of one settled level.
pub record Bottom {S A : Type 0} (n : ℕ) (s : State S A) : Type 0 where
  pub points : List (Point S A)
  pub puts : AllPuts points
  pub ordered : Ascending point_before points
  pub are : all_points (merge_all s).state.levels ≡ points
  pub at_deepest : (level s.settings.deepest (merge_all s).state).points ≡ points
  pub finds : (k : ℕ) → lookup (merge_all s).state.levels k ≡ find 0 points k absent
  pub counted : length (merge_all s).state.free + length points ≡ n
  pub kept_puts : length points ≤ sum puts_of s.levels

module _ {S A : Type 0} (n : ℕ) (s : State S A) (w : Whole n s) where
  pub bottom : Bottom n s
  unfolding lookup_from
  bottom =
      let m : State S A = (merge_all s).state in
      let d : Drained s m = merge_all_drained s w.formed in
      let i : ℕ = s.settings.deepest in
      let l : Level S A = settled d.source in
      record {
        points = l.points;
        puts = settled_puts d.source;
        ordered = drained_ordered s w.formed;
        are = ap all_points d.levels ∙ points-only i l;
        at_deepest = ap (λ ls. (get_or ls i empty).points) d.levels ∙ ap (λ (x : Level S A). x.points) (only_level i l);
        finds = λ k. ap (λ ls. lookup ls k) d.levels ∙ lookup-only i l k;
        counted = omega (arith, (merge_all_whole n s w).all, ap held_all d.levels, held-only i l, held-settled-points d.source);
        kept_puts = omega (arith, merge_all_puts s w.formed, ap (sum puts_of) d.levels, puts_only i l, count_all l.points (settled_puts d.source));
      }

  abbrev b : Bottom n s
  b = bottom

  -- Stamps from 1 to the last clock are so after the merging too, and every put is then found.
  module _ (stamps : All (Stamped s.clock) s.levels) where
    bottom_stamps : All (λ p. (1 ≤ p.stamp) × (p.stamp ≤ s.clock)) bottom.points
    bottom_stamps = rw b.are at (points_all _ (merge_all s).state.levels (merge_all_stamps s.clock s w.formed stamps))

    pub bottom_found : (k : ℕ) → names bottom.points k ≡ true → is_found (find 0 bottom.points k absent) ≡ true
    bottom_found k h = puts_found s.clock b.points k absent b.puts bottom_stamps h

    -- As many points as slots are all live.
    pub live_slots : (k : ℕ) → length bottom.points ≡ n → names bottom.points k ≡ false → SlotsLive n k (merge_all s).state
    live_slots k e lacking = record {
      every = rw b.are e;
      different = rw b.are b.ordered;
      live = rw b.are (all_weaken _ _ (λ p q. rw (b.finds p.key) (bottom_found p.key q)) b.points (names_own b.points));
      without = rw b.are lacking;
    }

  -- Refused 7: there are as many points as slots, and the put's docket is none of theirs.
  module _ (t k : ℕ) (a : A) (h : no_slot t (put k a) s ≡ true) where
    pub full_every : length bottom.points ≡ n
    unfolding no_slot full
    full_every =
        let lacks : Bool = not (names (level s.settings.deepest (merge_all s).state).points k) in
        let f : full t (put k a) s ≡ true = and_left (full t (put k a) s) lacks h in
        let e : length (merge_all s).state.free ≡ 0 = length_of_none (merge_all s).state.free (and_right (crowded t (put k a) s) (none (merge_all s).state.free) f) in
        omega (arith, b.counted)

    pub full_without : names bottom.points k ≡ false
    unfolding no_slot
    full_without =
        let lacks : Bool = not (names (level s.settings.deepest (merge_all s).state).points k) in
        rw b.at_deepest at (not-true (names (level s.settings.deepest (merge_all s).state).points k) (and_right (full t (put k a) s) lacks h))

  -- So the slots are all live.
  pub full_live : All (Stamped s.clock) s.levels → (t k : ℕ) (a : A) → no_slot t (put k a) s ≡ true → SlotsLive n k (merge_all s).state
  full_live stamps t k a h = live_slots stamps k (full_every t k a h) (full_without t k a h)

  -- As many points are left as there are slots: so many there were, and of every kind.
  module _ (every : length bottom.points ≡ n) where
    all_before : length (all_points s.levels) ≡ n
    all_before =
        let put : Point S A → Bool = λ p. is_put p.entry in
        omega (
          arith,
          points_held s.levels,
          w.all,
          merge_all_counts put s w.formed,
          merge_all_counts (λ p. not (put p)) s w.formed,
          count_rest put (all_points s.levels),
          count_rest put (all_points (merge_all s).state.levels),
          ap length b.are,
        )

    pub counts_stay : (q : Point S A → Bool) → count q (all_points s.levels) ≤ count q bottom.points
    counts_stay q = omega (
      arith,
      merge_all_counts (λ p. not (q p)) s w.formed,
      ap (count (λ p. not (q p))) b.are,
      count_rest q (all_points s.levels),
      count_rest q b.points,
      all_before,
      every,
    )

    pub lacked_before : (k : ℕ) → names bottom.points k ≡ false → count (λ p. eqb p.key k) (all_points s.levels) ≡ 0
    lacked_before k h = omega (arith, counts_stay (λ p. eqb p.key k), count_none (λ p. eqb p.key k) b.points h)

  -- And then only: no slot is free, the entry would free none, and level L lacks the docket.
  module _ (k : ℕ) (live : SlotsLive n k (merge_all s).state) where
    all_held : length b.points ≡ n
    all_held = ap length (sym b.are) ∙ live.every

    none_free : none s.free ≡ true
    none_free = none_of_length s.free (omega (arith, merge_all-free s w.formed, b.counted, all_held))

    unnamed : names b.points k ≡ false
    unnamed = ap (λ ps. names ps k) (sym b.are) ∙ live.without

    -- Merging has taken nothing away, so that the buffer lacks the docket too.
    buffer_unnamed : names (level 0 s).points k ≡ false
    buffer_unnamed = go s.levels (lacked_before all_held k unnamed)
      where
        go : (ls : List (Level S A)) → count (λ p. eqb p.key k) (all_points ls) ≡ 0 → names (get_or ls 0 empty).points k ≡ false
        go [] c = unfold any in refl
        go (l ∷ ls) c = none_counted (λ p. eqb p.key k) l.points (omega (arith, count_append (λ p. eqb p.key k) l.points (all_points ls)))

    displaced-none : (t : ℕ) (a : A) → none (displaced t (put k a) s) ≡ true
    unfolding single any
    displaced-none t a =
        rw (
          select_none (point_goes (unplaced t (put k a))) (level 0 s).points
              (any_same _ (λ p. eqb p.key k) (λ p. or_false _ ∙ or_false _ ∙ eqb_sym k p.key) (level 0 s).points ∙ buffer_unnamed),
          select_never (range_goes (unplaced t (put k a)).ranges) (λ r. refl) (level 0 s).ranges,
        )

    pub live_full : (t : ℕ) (a : A) → no_slot t (put k a) s ≡ true
    unfolding no_slot full crowded
    live_full t a =
        let m : State S A = (merge_all s).state in
        and_intro (full t (put k a) s) (not (names (level s.settings.deepest m).points k))
        (and_intro (crowded t (put k a) s) (none m.free) (and_intro (none s.free) (none (displaced t (put k a) s)) none_free (displaced-none t a))
        (none_of_length m.free (omega (arith, b.counted, all_held))))
        (rw b.at_deepest (ap not unnamed))
