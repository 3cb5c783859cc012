-- How a delete sinks through the levels: those above it are newer than the mark, and so is what is left of a level that it is merged into.
use mathlib.Core.Path.{◌≡◌, refl}
use mathlib.Core.Bool.{Bool, true, false, false≢true}
use mathlib.Core.List.{List, [], ◌∷◌}
use Prim.Native.Nat.{ℕ, zero, suc, ◌<◌}
use native.Mathlib.Omega.{arith}
use lib.ListN.{length, get_or, set}
use Rattle.lists.specs.All.{All}
use Rattle.lists.proofs.Tests.{all_set, all_get}
use Rattle.model.specs.Records.{Level, empty}
use Rattle.model.specs.Merge.{merged, joined}
use Rattle.model.proofs.Points.{merge_in, joined_all, joined_points, merge_points}
use Rattle.model.proofs.Marks.{Mark, Keyed, Newer, KeyedLevel, NewerLevel, reaches, reaches_upper, reaches_lower, staying_newer, Since, earlier_left, earlier_right}

-- A level newer than the put of docket k at b, which reaches that put and has owed since d or before.
pub record Front {S A : Type 0} (k b d : ℕ) (l : Level S (Mark A)) : Type 0 where
  pub newer : NewerLevel k b l
  pub reach : reaches l k b ≡ true
  pub owes : Since d l.owed

-- All levels are newer; or a front lies over levels whose marks are the put's; or a newer level lies over such a list.
pub data Sunk {S A : Type 0} (k b d : ℕ) : List (Level S (Mark A)) → Type 0 where
  erased : {ls : List (Level S (Mark A))} → All (NewerLevel k b) ls → Sunk k b d ls
  front : {l : Level S (Mark A)} {ls : List (Level S (Mark A))} → Front k b d l → All (KeyedLevel k b) ls → Sunk k b d (l ∷ ls)
  below : {l : Level S (Mark A)} {ls : List (Level S (Mark A))} → NewerLevel k b l → Sunk k b d ls → Sunk k b d (l ∷ ls)

module _ {S A : Type 0} where
  -- What is merged into, at i+1, is the deepest level only where it is the last.
  abbrev pub Fits : Bool → ℕ → List (Level S (Mark A)) → Type 0
  Fits deepest i ls = (suc i < length ls) × (deepest ≡ true → length ls ≡ suc (suc i))

module _ {S A : Type 0} (k b d : ℕ) where
  -- The first n levels are newer, and the rest have it.
  abbrev pub SunkFrom : ℕ → List (Level S (Mark A)) → Type 0
  SunkFrom zero ls = Sunk k b d ls
  SunkFrom (suc n) [] = Unit {0}
  SunkFrom (suc n) (l ∷ ls) = NewerLevel k b l × SunkFrom n ls

  front_over : (deepest : Bool) (u l : Level S (Mark A)) → Front k b d u → KeyedLevel k b l → NewerLevel k b (joined deepest u l)
  front_over deepest u l f a = joined_all (Newer k b) deepest u l f.newer (staying_newer k b u l.points f.reach a)

  pub front_down : (u l : Level S (Mark A)) → Front k b d u → KeyedLevel k b l → Front k b d (merged u l)
  unfolding merged joined
  front_down u l f a = record {
    newer = front_over false u l f a;
    reach = reaches_upper k b u l f.reach;
    owes = earlier_left u.owed l.owed d f.owes;
  }

  pub front_under : (u l : Level S (Mark A)) → NewerLevel k b u → Front k b d l → Front k b d (merged u l)
  unfolding merged joined
  front_under u l c f = record {
    newer = joined_points (Newer k b) false u l c f.newer;
    reach = reaches_lower k b u l f.newer f.reach;
    owes = earlier_right u.owed l.owed d f.owes;
  }

  -- The deepest level is the last.
  abbrev Last : Bool → List (Level S (Mark A)) → Type 0
  Last deepest ls = deepest ≡ true → length ls ≡ 0

  sink_front : (deepest : Bool) (u l : Level S (Mark A)) (ls : List (Level S (Mark A))) → Last deepest ls → Front k b d u → All (KeyedLevel k b) (l ∷ ls) → Sunk k b d (joined deepest u l ∷ ls)
  unfolding joined
  sink_front true u l [] h f a = erased {ls = joined true u l ∷ []} (front_over true u l f a.0, tt)
  sink_front true u l (m ∷ ls) h f a = absurd (omega (arith, h refl))
  sink_front false u l ls h f a = front (front_down u l f a.0) a.1

  sink_newer : (deepest : Bool) (u l : Level S (Mark A)) (ls : List (Level S (Mark A))) → Last deepest ls → NewerLevel k b u → Sunk k b d (l ∷ ls) → Sunk k b d (joined deepest u l ∷ ls)
  unfolding joined
  sink_newer deepest u l ls h c (erased a) = erased {ls = joined deepest u l ∷ ls} (joined_points (Newer k b) deepest u l c a.0, a.1)
  sink_newer true u l [] h c (front f a) = erased {ls = joined true u l ∷ []} (joined_points (Newer k b) true u l c f.newer, tt)
  sink_newer true u l (m ∷ ls) h c (front f a) = absurd (omega (arith, h refl))
  sink_newer false u l ls h c (front f a) = front (front_under u l c f) a
  sink_newer deepest u l ls h c (below c' s) = below (joined_points (Newer k b) deepest u l c c') s

  sink : (deepest : Bool) (u l : Level S (Mark A)) (ls : List (Level S (Mark A))) → Last deepest ls → Sunk k b d (u ∷ l ∷ ls) → Sunk k b d (joined deepest u l ∷ ls)
  sink deepest u l ls h (erased a) = erased {ls = joined deepest u l ∷ ls} (joined_points (Newer k b) deepest u l a.0 a.1.0, a.1.1)
  sink deepest u l ls h (front f a) = sink_front deepest u l ls h f a
  sink deepest u l ls h (below c s) = sink_newer deepest u l ls h c s

  fits_rest : (deepest : Bool) (i : ℕ) (l : Level S (Mark A)) (ls : List (Level S (Mark A))) → Fits deepest (suc i) (l ∷ ls) → Fits deepest i ls
  fits_rest deepest i l ls h = (omega arith, λ e. omega (arith, h.1 e))

  fits_last : (deepest : Bool) (u l : Level S (Mark A)) (ls : List (Level S (Mark A))) → Fits deepest zero (u ∷ l ∷ ls) → Last deepest ls
  fits_last deepest u l ls h e = omega (arith, h.1 e)

  -- A merge keeps how far it has sunk.
  pub sunk_merge : (deepest : Bool) (i : ℕ) (ls : List (Level S (Mark A))) → Fits deepest i ls → Sunk k b d ls → Sunk k b d (merge_in deepest i ls)
  sunk_merge deepest i [] h s = absurd (omega (arith, h.0))
  sunk_merge deepest zero (u ∷ []) h s = absurd (omega (arith, h.0))
  sunk_merge deepest zero (u ∷ l ∷ ls) h s = below tt (sink deepest u l ls (fits_last deepest u l ls h) s)
  sunk_merge deepest (suc i) (u ∷ ls) h (erased a) = erased {ls = u ∷ merge_in deepest i ls} (a.0, merge_points (Newer k b) deepest i ls a.1)
  sunk_merge deepest (suc i) (u ∷ ls) h (front f a) = front f (merge_points (Keyed k b) deepest i ls a)
  sunk_merge deepest (suc i) (u ∷ ls) h (below c s) = below c (sunk_merge deepest i ls (fits_rest deepest i u ls h) s)

  -- The merge of level n makes one more level newer.
  pub from_advance : (n : ℕ) (deepest : Bool) (ls : List (Level S (Mark A))) → Fits deepest n ls → SunkFrom n ls → SunkFrom (suc n) (merge_in deepest n ls)
  from_advance n deepest [] h s = absurd (omega (arith, h.0))
  from_advance zero deepest (u ∷ []) h s = absurd (omega (arith, h.0))
  from_advance zero deepest (u ∷ l ∷ ls) h s = (tt, sink deepest u l ls (fits_last deepest u l ls h) s)
  from_advance (suc n) deepest (u ∷ ls) h s = (s.0, from_advance n deepest ls (fits_rest deepest n u ls h) s.1)

  -- So does leaving it, where it has not owed since d.
  pub from_skip : (n : ℕ) (ls : List (Level S (Mark A))) → (Since d (get_or ls n empty).owed → ⊥) → SunkFrom n ls → SunkFrom (suc n) ls
  from_skip n [] h s = tt
  from_skip zero (l ∷ ls) h (erased a) = (a.0, erased a.1)
  from_skip zero (l ∷ ls) h (front f a) = absurd (h f.owes)
  from_skip zero (l ∷ ls) h (below c s) = (c, s)
  from_skip (suc n) (l ∷ ls) h s = (s.0, from_skip n ls h s.1)

  -- At the last level nothing is left.
  pub from_end : (n : ℕ) (ls : List (Level S (Mark A))) → length ls ≡ suc n → SunkFrom n ls → All (NewerLevel k b) ls
  from_end n [] e s = absurd (omega arith)
  from_end zero (l ∷ m ∷ ls) e s = absurd (omega arith)
  from_end zero (l ∷ []) e (erased a) = a
  from_end zero (l ∷ []) e (front f a) = (f.newer, tt)
  from_end zero (l ∷ []) e (below c s) = (c, tt)
  from_end (suc n) (l ∷ ls) e s = (s.0, from_end n ls (omega arith) s.1)

  -- A newer write into the buffer.
  pub sunk_enter : (w : Level S (Mark A)) (ls : List (Level S (Mark A))) → 0 < length ls → NewerLevel k b w → Sunk k b d ls → Sunk k b d (set ls 0 (merged w (get_or ls 0 empty)))
  unfolding joined
  sunk_enter w [] h c s = absurd (omega arith)
  sunk_enter w (l ∷ ls) h c s = sink_newer false w l ls (λ e. absurd (false≢true e)) c s

  -- A change of the last level that brings no mark.
  pub sunk_act : (n : ℕ) (v : Level S (Mark A)) (ls : List (Level S (Mark A))) → length ls ≡ suc n → (NewerLevel k b (get_or ls n empty) → NewerLevel k b v)
      → (KeyedLevel k b (get_or ls n empty) → KeyedLevel k b v) → Sunk k b d ls → Sunk k b d (set ls n v)
  sunk_act n v [] e c g s = absurd (omega arith)
  sunk_act zero v (l ∷ m ∷ ls) e c g s = absurd (omega arith)
  sunk_act zero v (l ∷ []) e c g (erased a) = erased {ls = v ∷ []} (c a.0, tt)
  sunk_act zero v (l ∷ []) e c g (front f a) = erased {ls = v ∷ []} (c f.newer, tt)
  sunk_act zero v (l ∷ []) e c g (below c' s) = erased {ls = v ∷ []} (c c', tt)
  sunk_act (suc n) v (l ∷ ls) e c g (erased a) = erased {ls = l ∷ set ls n v} (a.0, all_set (NewerLevel k b) ls n v a.1 (c (all_get (NewerLevel k b) ls n empty a.1 tt)))
  sunk_act (suc n) v (l ∷ ls) e c g (front f a) = front f (all_set (KeyedLevel k b) ls n v a (g (all_get (KeyedLevel k b) ls n empty a tt)))
  sunk_act (suc n) v (l ∷ ls) e c g (below c' s) = below c' (sunk_act n v ls (omega arith) c g s)
