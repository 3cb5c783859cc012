-- A merge commutes with a change of tags and tallies: which records stand where hangs on neither.
use mathlib.Core.Path.{◌≡◌, refl, sym, ap, ◌∙◌}
use mathlib.Core.Bool.{Bool, cond, not}
use mathlib.Core.List.{List, [], ◌∷◌, map}
use Prim.Native.Nat.{ℕ}
use lib.Dec.{eqb}
use lib.ListN.{length-map}
use Rattle.lists.specs.Lists.{select, reject, sum}
use Rattle.lists.proofs.Bools.{cond_ap}
use Rattle.lists.proofs.Tests.{any-map, select-map, select_same, append_map, map-map}
use Rattle.lists.proofs.Merges.{merge-map}
use Rattle.model.specs.Records.{Entry, value, tombstone, Point, Range, Level, is_put, held, held_all}
use Rattle.model.specs.Merge.{range_covers, covered, range_before, range_slots, names, point_before, point_slots, same_range}
use Rattle.model.specs.Merge.{range_goes, point_goes, gone, united, later, merged, settled, delete_slots, joined, freed}
use Rattle.model.specs.Renaming.{map_entry, map_point, map_range, map_level}

module _ {S T A B : Type 0} (g : S → T) (f : A → B) where
  is_put_map : (e : Entry A) → is_put (map_entry f e) ≡ is_put e
  is_put_map (value a) = refl
  is_put_map tombstone = refl

  pub names-map : (ps : List (Point S A)) (k : ℕ) → names (map (map_point g f) ps) k ≡ names ps k
  names-map ps k = any-map (map_point g f) (λ p. eqb p.key k) ps

  pub covered-map : (rs : List (Range S)) (k t : ℕ) → covered (map (map_range g f) rs) k t ≡ covered rs k t
  covered-map rs k t = any-map (map_range g f) (λ r. range_covers r k t) rs

  pub held_map : (l : Level S A) → held (map_level g f l) ≡ held l
  held_map l = rw (length-map l.points (map_point g f), length-map l.ranges (map_range g f))

  pub held_all-map : (ls : List (Level S A)) → held_all (map (map_level g f) ls) ≡ held_all ls
  unfolding sum
  held_all-map [] = refl
  held_all-map (l ∷ ls) = rw (held_map l, held_all-map ls)

  pub point_slots-map : (ps : List (Point S A)) → point_slots (map (map_point g f) ps) ≡ map g (point_slots ps)
  point_slots-map ps = map-map (map_point g f) (λ p. p.slot) ps ∙ sym (map-map (λ p. p.slot) g ps)

  pub range_slots-map : (rs : List (Range S)) → range_slots (map (map_range g f) rs) ≡ map g (range_slots rs)
  range_slots-map rs = map-map (map_range g f) (λ r. r.slot) rs ∙ sym (map-map (λ r. r.slot) g rs)

  pub later-map : (qs : List (Range S)) (r : Range S) → later (map (map_range g f) qs) (map_range g f r) ≡ map_range g f (later qs r)
  unfolding later
  later-map [] r = refl
  later-map (q ∷ qs) r =
      ap (later (map (map_range g f) qs)) (sym (cond_ap (map_range g f) (same_range q r) (united r q) r)) ∙ later-map qs (cond (same_range q r) (united r q) r)

  laters_map : (qs rs : List (Range S)) → map (later (map (map_range g f) qs)) (map (map_range g f) rs) ≡ map (map_range g f) (map (later qs) rs)
  laters_map qs [] = refl
  laters_map qs (r ∷ rs) = rw (later-map qs r, laters_map qs rs)

  pub settled_map : (l : Level S A) → settled (map_level g f l) ≡ map_level g f (settled l)
  unfolding settled
  settled_map l =
      rw (
        select-map (map_point g f) (λ p. is_put p.entry) l.points,
        select_same (λ p. is_put (map_entry f p.entry)) (λ p. is_put p.entry) (λ p. is_put_map p.entry) l.points,
      )

  pub delete_slots-map : (l : Level S A) → delete_slots (map_level g f l) ≡ map g (delete_slots l)
  delete_slots-map l =
      rw (
        select-map (map_point g f) (λ p. not (is_put p.entry)) l.points,
        select_same (λ p. not (is_put (map_entry f p.entry))) (λ p. not (is_put p.entry)) (λ p. ap not (is_put_map p.entry)) l.points,
        point_slots-map (reject (λ p. is_put p.entry) l.points),
        range_slots-map l.ranges,
      )
      (sym (append_map g (point_slots (reject (λ p. is_put p.entry) l.points)) (range_slots l.ranges)))

  -- The upper level may have tags and tallies of its own.
  module _ {R Q C D : Type 0} (h : R → Q) (e : C → D) (u : Level R C) where
    pub point_goes_map : (p : Point S A) → point_goes (map_level h e u) (map_point g f p) ≡ point_goes u p
    point_goes_map p = rw (any-map (map_point h e) (λ q. eqb q.key p.key) u.points, any-map (map_range h e) (λ r. range_covers r p.key p.stamp) u.ranges)

    pub range_goes-map : (r : Range S) → range_goes (map (map_range h e) u.ranges) (map_range g f r) ≡ range_goes u.ranges r
    range_goes-map r = any-map (map_range h e) (λ q. same_range q r) u.ranges

    pub going_map : (ps : List (Point S A)) → select (point_goes (map_level h e u)) (map (map_point g f) ps) ≡ map (map_point g f) (select (point_goes u) ps)
    going_map ps = select-map (map_point g f) (point_goes (map_level h e u)) ps ∙ ap (map (map_point g f)) (select_same _ _ point_goes_map ps)

    pub staying_map : (ps : List (Point S A)) → reject (point_goes (map_level h e u)) (map (map_point g f) ps) ≡ map (map_point g f) (reject (point_goes u) ps)
    staying_map ps = select-map (map_point g f) (λ p. not (point_goes (map_level h e u) p)) ps ∙ ap (map (map_point g f)) (select_same _ _ (λ p. ap not (point_goes_map p)) ps)

    ranges_going_map : (rs : List (Range S)) → select (range_goes (map (map_range h e) u.ranges)) (map (map_range g f) rs) ≡ map (map_range g f) (select (range_goes u.ranges) rs)
    ranges_going_map rs = select-map (map_range g f) (range_goes (map (map_range h e) u.ranges)) rs ∙ ap (map (map_range g f)) (select_same _ _ range_goes-map rs)

    pub ranges_staying_map : (rs : List (Range S)) → reject (range_goes (map (map_range h e) u.ranges)) (map (map_range g f) rs) ≡ map (map_range g f) (reject (range_goes u.ranges) rs)
    ranges_staying_map rs = select-map (map_range g f) (λ r. not (range_goes (map (map_range h e) u.ranges) r)) rs ∙ ap (map (map_range g f)) (select_same _ _ (λ r. ap not (range_goes-map r)) rs)

    pub gone-map : (l : Level S A) → gone (map_level h e u) (map_level g f l) ≡ map g (gone u l)
    gone-map l =
        rw (going_map l.points, ranges_going_map l.ranges, point_slots-map (select (point_goes u) l.points), range_slots-map (select (range_goes u.ranges) l.ranges))
        (sym (append_map g (point_slots (select (point_goes u) l.points)) (range_slots (select (range_goes u.ranges) l.ranges))))

  pub merged_map : (u l : Level S A) → merged (map_level g f u) (map_level g f l) ≡ map_level g f (merged u l)
  unfolding merged
  merged_map u l =
      rw (
        staying_map g f u l.points,
        ranges_staying_map g f u l.ranges,
        laters_map l.ranges u.ranges,
        merge-map (map_point g f) point_before point_before (λ p q. refl) u.points,
        merge-map (map_range g f) range_before range_before (λ p q. refl) (map (later l.ranges) u.ranges),
      )

  pub joined_map : (b : Bool) (u l : Level S A) → joined b (map_level g f u) (map_level g f l) ≡ map_level g f (joined b u l)
  unfolding joined
  joined_map b u l = rw (merged_map u l, settled_map (merged u l)) (sym (cond_ap (map_level g f) b _ _))

  pub freed-map : (b : Bool) (u l : Level S A) → freed b (map_level g f u) (map_level g f l) ≡ map g (freed b u l)
  unfolding freed
  freed-map b u l =
      rw (merged_map u l, delete_slots-map (merged u l), gone-map g f u l, ← (append_map g (gone u l) (delete_slots (merged u l))))
      (sym (cond_ap (map g) b _ _))
