-- What the test of a level says, sentence by sentence, and what the level then reads as.
use mathlib.Core.Path.{◌≡◌, refl, ap}
use mathlib.Core.Bool.{Bool, true, false, cond, ◌&&◌, ◌||◌, not}
use mathlib.Core.List.{List, [], ◌∷◌, ◌++◌, map}
use Prim.Native.Nat.{ℕ, ◌+◌, ◌≤◌}
use native.Mathlib.Omega.{arith}
use lib.Dec.{eqb, leb, ltb}
use lib.ListN.{length, length-append, length-map}
use borrow.Author.Tests.{eqb-true, eqb-false, eq-eqb, leb-true, le-leb, lt-ltb, ne_eqb, not-true}
use Rattle.lists.specs.Lists.{none, every}
use Rattle.lists.specs.All.{All, Ascending}
use Rattle.lists.proofs.Bools.{and_left, and_right, and_intro, or_second, or_left, or_right, by_cases}
use Rattle.lists.proofs.Tests.{none_of_length, every_all, all_every-true, all_every, all_left, all_right, all_weaken, all_map}
use Rattle.model.specs.Records.{value, tombstone, is_put}
use Rattle.model.specs.Merge.{point_before, range_before}
use Rattle.tables.specs.Slots.{kind_of, lo_of, hi_of, tally_of, stamp_of, clock_of}
use Rattle.tables.specs.Rows.{level_row}
use Rattle.tables.specs.Words.{Fits32}
use Rattle.tables.specs.Sound.{point_chain, range_chain, is_untallied, is_point, is_range, order_key, ascend, is_stamped, owed_before, level_sound}
use Rattle.tables.specs.Placed.{read_point, read_range, read_level}
use Rattle.tables.specs.Formed.{LevelFormed}
use Rattle.tables.proofs.Slots.{hi_small}
use Rattle.tables.proofs.Linked.{range_parts}

module _ (e l : List ℕ) (i : ℕ) where
  abbrev points : List ℕ
  points = point_chain e l i

  abbrev ranges : List ℕ
  ranges = range_chain e l i

  abbrev owed : ℕ
  owed = (level_row l i).owed

  pub record LevelSound : Type 0 where
    pub point_forms : All (λ s. is_point e s ≡ true) (point_chain e l i)
    pub point_order : ascend e 0 (point_chain e l i) ≡ true
    pub range_forms : All (λ s. is_range e s ≡ true) (range_chain e l i)
    pub range_order : ascend e 0 (range_chain e l i) ≡ true
    pub stamps : All (λ s. is_stamped e s ≡ true) (point_chain e l i ++ range_chain e l i)
    pub owes : All (λ s. owed_before e (level_row l i).owed s ≡ true) (point_chain e l i ++ range_chain e l i)
    pub number : (level_row l i).held ≡ length (point_chain e l i ++ range_chain e l i)
    pub owed_clock : (level_row l i).owed ≤ clock_of e
    pub owed_empty : none (point_chain e l i ++ range_chain e l i) ≡ true → (level_row l i).owed ≡ 0

  pub level_facts : level_sound e l i ≡ true → LevelSound
  unfolding level_sound
  level_facts h =
      let a1 : Bool = every (is_point e) points in
      let a2 : Bool = ascend e 0 points in
      let a3 : Bool = every (is_range e) ranges in
      let a4 : Bool = ascend e 0 ranges in
      let a5 : Bool = every (is_stamped e) (points ++ ranges) in
      let a6 : Bool = every (owed_before e owed) (points ++ ranges) in
      let a7 : Bool = eqb (level_row l i).held (length (points ++ ranges)) in
      let a8 : Bool = leb owed (clock_of e) in
      let a9 : Bool = not (none (points ++ ranges)) || eqb owed 0 in
      let h8 = and_left (a1 && a2 && (a3 && a4) && a5 && a6 && a7 && a8) a9 h in
      let h7 = and_left (a1 && a2 && (a3 && a4) && a5 && a6 && a7) a8 h8 in
      let h6 = and_left (a1 && a2 && (a3 && a4) && a5 && a6) a7 h7 in
      let h5 = and_left (a1 && a2 && (a3 && a4) && a5) a6 h6 in
      let h4 = and_left (a1 && a2 && (a3 && a4)) a5 h5 in
      let h2 = and_left (a1 && a2) (a3 && a4) h4 in
      let h34 = and_right (a1 && a2) (a3 && a4) h4 in
      let h9 = and_right (a1 && a2 && (a3 && a4) && a5 && a6 && a7 && a8) a9 h in
      record {
        point_forms = every_all (is_point e) points (and_left a1 a2 h2);
        point_order = and_right a1 a2 h2;
        range_forms = every_all (is_range e) ranges (and_left a3 a4 h34);
        range_order = and_right a3 a4 h34;
        stamps = every_all (is_stamped e) (points ++ ranges) (and_right (a1 && a2 && (a3 && a4)) a5 h5);
        owes = every_all (owed_before e owed) (points ++ ranges) (and_right (a1 && a2 && (a3 && a4) && a5) a6 h6);
        number = eqb-true (level_row l i).held (length (points ++ ranges)) (and_right (a1 && a2 && (a3 && a4) && a5 && a6) a7 h7);
        owed_clock = leb-true owed (clock_of e) (and_right (a1 && a2 && (a3 && a4) && a5 && a6 && a7) a8 h8);
        owed_empty = λ n. eqb-true owed 0 (or_second (not (none (points ++ ranges))) (eqb owed 0) h9 (ap not n));
      }

  pub facts_level : LevelSound → level_sound e l i ≡ true
  unfolding level_sound
  facts_level f =
      rw (
        all_every-true (is_point e) points f.point_forms,
        f.point_order,
        all_every-true (is_range e) ranges f.range_forms,
        f.range_order,
        all_every-true (is_stamped e) (points ++ ranges) f.stamps,
        all_every-true (owed_before e owed) (points ++ ranges) f.owes,
        eq-eqb (level_row l i).held (length (points ++ ranges)) f.number,
        le-leb owed (clock_of e) f.owed_clock,
      )
      (by_cases (none (points ++ ranges))
      (λ n. or_right (not (none (points ++ ranges))) (eqb owed 0) (eq-eqb owed 0 (f.owed_empty n)))
      (λ n. or_left (not (none (points ++ ranges))) (eqb owed 0) (ap not n)))

-- The order by key, for all pairs.
ascend_above : (e : List ℕ) (least : ℕ) (ss : List ℕ) → ascend e least ss ≡ true → All (λ s. least ≤ order_key e s) ss
unfolding ascend
ascend_above e least [] h = tt
ascend_above e least (s ∷ ss) h =
    let here : least ≤ order_key e s = leb-true least (order_key e s) (and_left (leb least (order_key e s)) _ h) in
    (here, all_weaken _ _ (λ t b. omega arith) ss (ascend_above e (order_key e s + 1) ss (and_right (leb least (order_key e s)) _ h)))

module _ (e : List ℕ) where
  point_spans : (s : ℕ) → is_point e s ≡ true → lo_of e s ≡ hi_of e s
  point_spans s h =
      eqb-true (lo_of e s) (hi_of e s) (and_left (eqb (lo_of e s) (hi_of e s)) (eqb (kind_of e s) 1 || (eqb (kind_of e s) 2 && is_untallied e s)) h)

  points_ascend : (least : ℕ) (ss : List ℕ) → All (λ s. is_point e s ≡ true) ss → ascend e least ss ≡ true → Ascending point_before (map (read_point e) ss)
  unfolding ascend
  points_ascend least [] f h = tt
  points_ascend least (s ∷ ss) f h =
      let rest : ascend e (order_key e s + 1) ss ≡ true = and_right (leb least (order_key e s)) _ h in (
        all_map (read_point e) (λ q. point_before (read_point e s) q ≡ true) ss
            (both ss f.1 (ascend_above e (order_key e s + 1) ss rest)),
        points_ascend (order_key e s + 1) ss f.1 rest,
      )
    where
      both : (ts : List ℕ) → All (λ t. is_point e t ≡ true) ts → All (λ t. order_key e s + 1 ≤ order_key e t) ts
          → All (λ t. point_before (read_point e s) (read_point e t) ≡ true) ts
      both [] a b = tt
      both (t ∷ ts) a b = (lt-ltb (lo_of e s) (lo_of e t) (omega (arith, point_spans s f.0, point_spans t a.0, b.0)), both ts a.1 b.1)

  range_less : Fits32 e → (s t : ℕ) → order_key e s + 1 ≤ order_key e t → range_before (read_range e s) (read_range e t) ≡ true
  range_less w s t h = by_cases (eqb (lo_of e s) (lo_of e t))
      (λ q. or_right (ltb (lo_of e s) (lo_of e t)) _ (and_intro (eqb (lo_of e s) (lo_of e t)) (ltb (hi_of e s) (hi_of e t)) q
      (lt-ltb (hi_of e s) (hi_of e t) (omega (arith, eqb-true (lo_of e s) (lo_of e t) q)))))
      (λ q. or_left (ltb (lo_of e s) (lo_of e t)) _
      (lt-ltb (lo_of e s) (lo_of e t) (omega (arith, eqb-false (lo_of e s) (lo_of e t) q, hi_small e w s, hi_small e w t))))

  ranges_ascend : Fits32 e → (least : ℕ) (ss : List ℕ) → ascend e least ss ≡ true → Ascending range_before (map (read_range e) ss)
  unfolding ascend
  ranges_ascend w least [] h = tt
  ranges_ascend w least (s ∷ ss) h =
      let rest : ascend e (order_key e s + 1) ss ≡ true = and_right (leb least (order_key e s)) _ h in (
        all_map (read_range e) (λ q. range_before (read_range e s) q ≡ true) ss
            (all_weaken _ _ (λ t b. range_less w s t b) ss (ascend_above e (order_key e s + 1) ss rest)),
        ranges_ascend w (order_key e s + 1) ss rest,
      )

-- A sound level reads as a formed one.
module _ (e l : List ℕ) (i : ℕ) (w : Fits32 e) (f : LevelSound e l i) where
  ps : List ℕ
  ps = point_chain e l i

  rs : List ℕ
  rs = range_chain e l i

  stamped : (s : ℕ) → is_stamped e s ≡ true → (1 ≤ stamp_of e s) × (stamp_of e s ≤ clock_of e)
  stamped s h = (
    leb-true 1 (stamp_of e s) (and_left (leb 1 (stamp_of e s)) (leb (stamp_of e s) (clock_of e)) h),
    leb-true (stamp_of e s) (clock_of e) (and_right (leb 1 (stamp_of e s)) (leb (stamp_of e s) (clock_of e)) h),
  )

  -- A record that is no put has the level owing since its stamp or before.
  owing : (s : ℕ) → owed_before e (level_row l i).owed s ≡ true → eqb (kind_of e s) 1 ≡ false
      → (1 ≤ (level_row l i).owed) × ((level_row l i).owed ≤ stamp_of e s)
  owing s h k =
      let owed = (level_row l i).owed in
      let both = or_second (eqb (kind_of e s) 1) (not (eqb owed 0) && leb owed (stamp_of e s)) h k in
      let ne = eqb-false owed 0 (not-true (eqb owed 0) (and_left (not (eqb owed 0)) (leb owed (stamp_of e s)) both)) in
      (omega arith, leb-true owed (stamp_of e s) (and_right (not (eqb owed 0)) (leb owed (stamp_of e s)) both))

  put_kind : (s : ℕ) (b : Bool) → eqb (kind_of e s) 1 ≡ b → is_put (cond b (value (tally_of e s)) tombstone) ≡ false → b ≡ false
  put_kind s true q h = h
  put_kind s false q h = refl

  range_kind : (s : ℕ) → is_range e s ≡ true → eqb (kind_of e s) 1 ≡ false
  range_kind s h =
      let three : kind_of e s ≡ 3 = (range_parts e s h).kind in
      ne_eqb (kind_of e s) 1 (omega arith)

  range_span : (s : ℕ) → is_range e s ≡ true → (lo_of e s ≤ hi_of e s) × (hi_of e s ≤ 65535)
  range_span s h = ((range_parts e s h).span, hi_small e w s)

  both_ranges : (ss : List ℕ) → All (λ s. is_range e s ≡ true) ss → All (λ s. owed_before e (level_row l i).owed s ≡ true) ss
      → All (λ s. (1 ≤ (level_row l i).owed) × ((level_row l i).owed ≤ stamp_of e s)) ss
  both_ranges [] a b = tt
  both_ranges (s ∷ ss) a b = (owing s b.0 (range_kind s a.0), both_ranges ss a.1 b.1)

  pub level_reads_formed : LevelFormed (clock_of e) (read_level e l i)
  unfolding ps rs
  level_reads_formed = record {
    keys = all_map (read_point e) _ ps (all_every _ (λ s. omega arith) ps);
    points_ascend = points_ascend e 0 ps f.point_forms f.point_order;
    spans = all_map (read_range e) _ rs (all_weaken _ _ range_span rs f.range_forms);
    ranges_ascend = ranges_ascend e w 0 rs f.range_order;
    point_stamps = all_map (read_point e) _ ps (all_weaken _ _ stamped ps (all_left _ ps rs f.stamps));
    range_stamps = all_map (read_range e) _ rs (all_weaken _ _ stamped rs (all_right _ ps rs f.stamps));
    range_dates = all_map (read_range e) _ rs (all_weaken _ _ (λ s h. (range_parts e s h).date) rs f.range_forms);
    owed_clock = f.owed_clock;
    owed_points = all_map (read_point e) _ ps (all_weaken _ _ (λ s h q. owing s h (put_kind s (eqb (kind_of e s) 1) refl q)) ps (all_left _ ps rs f.owes));
    owed_ranges = all_map (read_range e) _ rs (both_ranges rs f.range_forms (all_right _ ps rs f.owes));
    owed_empty = λ h. f.owed_empty
        (none_of_length (ps ++ rs) (omega (arith, length-append ps rs, length-map ps (read_point e), length-map rs (read_range e))));
  }
