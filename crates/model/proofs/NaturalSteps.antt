-- Merges by level, writes and the pass commute with a change of tags and tallies.
use mathlib.Core.Path.{◌≡◌, refl, sym, ap}
use mathlib.Core.Bool.{Bool, false}
use mathlib.Core.List.{List, [], ◌∷◌, map}
use Prim.Native.Nat.{ℕ, suc, ◌-◌}
use lib.Dec.{eqb}
use lib.ListN.{set, get_or-map}
use Rattle.settings.specs.declared.Settings.{Settings}
use Rattle.lists.specs.Lists.{select, reject}
use Rattle.lists.proofs.Bools.{cond_ap}
use Rattle.lists.proofs.Tests.{none-map, reverse_map, set-map}
use Rattle.lists.proofs.Loops.{iterate_map}
use Rattle.model.specs.Records.{Point, Level, State, empty, level}
use Rattle.model.specs.Merge.{point_slots, point_goes, release, merged, joined, freed}
use Rattle.model.specs.Steps.{Work, Write, put, delete, delete_range, single, unplaced, begin, merge_state, merge_level}
use Rattle.model.specs.Steps.{merge_all, displaced, enter_at, enter, overwrite, set_points, wipe, act_deepest, crowded, make_room}
use Rattle.model.specs.Steps.{full, write, no_slot, due, pass_level, pass, still_due}
use Rattle.model.specs.Renaming.{map_point, map_level, map_state, map_work, map_write}
use Rattle.model.proofs.NaturalMerge.{names-map, held_map, point_slots-map, going_map, staying_map, gone-map, merged_map, joined_map, freed-map}

pub unplaced_map : {A B : Type 0} (f : A → B) (t : ℕ) (w : Write A) → unplaced t (map_write f w) ≡ map_level (λ x. x) f (unplaced t w)
unfolding single
unplaced_map f t (put k a) = refl
unplaced_map f t (delete k) = refl
unplaced_map f t (delete_range lo hi date) = refl

module _ {S T A B : Type 0} (g : S → T) (f : A → B) where
  pub level_map : (i : ℕ) (s : State S A) → level i (map_state g f s) ≡ map_level g f (level i s)
  level_map i s = get_or-map (map_level g f) s.levels i empty

  pub single_map : (x : S) (t : ℕ) (w : Write A) → single (g x) t (map_write f w) ≡ map_level g f (single x t w)
  unfolding single
  single_map x t (put k a) = refl
  single_map x t (delete k) = refl
  single_map x t (delete_range lo hi date) = refl

  pub merge_state_map : (i : ℕ) (s : State S A) → merge_state i (map_state g f s) ≡ map_state g f (merge_state i s)
  unfolding merge_state
  merge_state_map i s =
      let b : Bool = eqb (suc i) s.settings.deepest in
      let u : Level S A = level i s in
      let l : Level S A = level (suc i) s in
      rw (
        level_map i s,
        level_map (suc i) s,
        freed-map g f b u l,
        joined_map g f b u l,
        reverse_map g (freed b u l) s.free,
        set-map (map_level g f) s.levels i empty,
        set-map (map_level g f) (set s.levels i empty) (suc i) (joined b u l),
      )

  pub merge_level_map : (i : ℕ) (w : Work S A) → merge_level i (map_work g f w) ≡ map_work g f (merge_level i w)
  unfolding merge_level
  merge_level_map i w = rw (merge_state_map i w.state, level_map i w.state, held_map g f (level i w.state))

  pub merge_all_map : (s : State S A) → merge_all (map_state g f s) ≡ map_work g f (merge_all s)
  unfolding merge_all
  merge_all_map s = iterate_map (map_work g f) merge_level merge_level merge_level_map s.settings.deepest 0 (begin s)

  module _ (t : ℕ) (w : Write A) (s : State S A) where
    pub displaced-map : displaced t (map_write f w) (map_state g f s) ≡ map g (displaced t w s)
    displaced-map = rw (unplaced_map f t w, level_map 0 s) (gone-map g f (λ x. x) f (unplaced t w) (level 0 s))

    pub crowded_map : crowded t (map_write f w) (map_state g f s) ≡ crowded t w s
    unfolding crowded
    crowded_map = rw (displaced-map, none-map g s.free, none-map g (displaced t w s))

    pub make_room_map : make_room t (map_write f w) (map_state g f s) ≡ map_work g f (make_room t w s)
    unfolding make_room
    make_room_map = rw (crowded_map, merge_all_map s) (sym (cond_ap (map_work g f) (crowded t w s) _ _))

    pub full_map : full t (map_write f w) (map_state g f s) ≡ full t w s
    unfolding full
    full_map = rw (crowded_map, merge_all_map s, none-map g (merge_all s).state.free)

    enter_at-map : (free : List S) → enter_at t (map_write f w) (map_state g f s) (map g free) ≡ map_state g f (enter_at t w s free)
    unfolding enter_at
    enter_at-map [] = refl
    enter_at-map (x ∷ free) =
        rw (single_map x t w, level_map 0 s, merged_map g f (single x t w) (level 0 s), set-map (map_level g f) s.levels 0 (merged (single x t w) (level 0 s)))

    pub enter_map : enter t (map_write f w) (map_state g f s) ≡ map_state g f (enter t w s)
    unfolding enter
    enter_map = rw (displaced-map, reverse_map g (displaced t w s) s.free) (enter_at-map (release (displaced t w s) s.free))

  overwrite-map : (k : ℕ) (a : A) (t : ℕ) (ps : List (Point S A)) → map (overwrite k (f a) t) (map (map_point g f) ps) ≡ map (map_point g f) (map (overwrite k a t) ps)
  overwrite-map k a t [] = refl
  overwrite-map k a t (p ∷ ps) = rw (overwrite-map k a t ps) (ap (λ x. x ∷ map (map_point g f) (map (overwrite k a t) ps)) (sym (cond_ap (map_point g f) (eqb p.key k) _ _)))

  set_points-map : (i : ℕ) (ps : List (Point S A)) (s : State S A) (free : List S)
      → set_points i (map (map_point g f) ps) (map_state g f s) (map g free) ≡ map_state g f (set_points i ps s free)
  unfolding set_points
  set_points-map i ps s free =
      rw (level_map i s, set-map (map_level g f) s.levels i (record { points = ps; ranges = (level i s).ranges; owed = (level i s).owed }))

  wipe_map : (u : Level (Unit {0}) A) (i : ℕ) (s : State S A) → wipe (map_level (λ x. x) f u) i (map_state g f s) ≡ map_state g f (wipe u i s)
  unfolding wipe
  wipe_map u i s =
      rw (
        level_map i s,
        going_map g f (λ x. x) f u (level i s).points,
        staying_map g f (λ x. x) f u (level i s).points,
        point_slots-map g f (select (point_goes u) (level i s).points),
        reverse_map g (point_slots (select (point_goes u) (level i s).points)) s.free,
      )
      (set_points-map i (reject (point_goes u) (level i s).points) s (release (point_slots (select (point_goes u) (level i s).points)) s.free))

  pub act_deepest_map : (t : ℕ) (w : Write A) (s : State S A) → act_deepest t (map_write f w) (map_state g f s) ≡ map_state g f (act_deepest t w s)
  unfolding act_deepest single
  act_deepest_map t (put k a) s =
      let i : ℕ = s.settings.deepest in
      rw (level_map i s, overwrite-map k a t (level i s).points) (set_points-map i (map (overwrite k a t) (level i s).points) s s.free)
  act_deepest_map t (delete k) s = wipe_map (unplaced t (delete k)) s.settings.deepest s
  act_deepest_map t (delete_range lo hi date) s = wipe_map (unplaced t (delete_range lo hi date)) s.settings.deepest s

  pub write_map : (t : ℕ) (w : Write A) (s : State S A) → write t (map_write f w) (map_state g f s) ≡ map_work g f (write t w s)
  unfolding write
  write_map t w s =
      rw (full_map t w s, make_room_map t w s, act_deepest_map t w (make_room t w s).state, enter_map t w (make_room t w s).state)
      (ap (λ x. record { state = x; merges = (make_room t w s).merges }) (sym (cond_ap (map_state g f) (full t w s) _ _)))

  pub no_slot_map : (t : ℕ) (w : Write A) (s : State S A) → no_slot t (map_write f w) (map_state g f s) ≡ no_slot t w s
  unfolding no_slot
  no_slot_map t (put k a) s =
      let m : State S A = (merge_all s).state in
      rw (full_map t (put k a) s, merge_all_map s, level_map s.settings.deepest m, names-map g f (level s.settings.deepest m).points k)
  no_slot_map t (delete k) s = refl
  no_slot_map t (delete_range lo hi date) s = refl

  pub due_map : (settings : Settings) (t i : ℕ) (l : Level S A) → due settings t i (map_level g f l) ≡ due settings t i l
  unfolding due
  due_map settings t i l = rw (held_map g f l)

  pass_level_map : (t i : ℕ) (w : Work S A) → pass_level t i (map_work g f w) ≡ map_work g f (pass_level t i w)
  unfolding pass_level
  pass_level_map t i w =
      rw (level_map i w.state, due_map w.state.settings t i (level i w.state), merge_level_map i w)
      (sym (cond_ap (map_work g f) (due w.state.settings t i (level i w.state)) _ _))

  pub pass_map : (t : ℕ) (w : Work S A) → pass t (map_work g f w) ≡ map_work g f (pass t w)
  unfolding pass
  pass_map t w = iterate_map (map_work g f) (pass_level t) (pass_level t) (pass_level_map t) w.state.settings.deepest 0 w

  pub still_due_map : (t : ℕ) (s : State S A) → still_due t (map_state g f s) ≡ still_due t s
  unfolding still_due
  still_due_map t s = iterate_map (λ b. b) _ _ (λ i b. rw (level_map i s, due_map s.settings t i (level i s))) (s.settings.deepest - 1) 1 false
