-- Where an upper chain is looked at: what is left of it can be walked, says what all of it does, and stays so when its front is passed or lower cells are done with.
use mathlib.Core.Path.{◌≡◌, refl, sym, ap, subst, ◌∙◌}
use mathlib.Core.Logic.{◌≢◌}
use mathlib.Core.List.{List, [], ◌∷◌, map}
use Prim.Native.Nat.{ℕ, ◌+◌, ◌≤◌}
use lib.Dec.{eqb, ltb, leb}
use borrow.Author.Tests.{eqb-true, eqb-false}
use Rattle.lists.specs.All.{All, Ascending}
use Rattle.lists.proofs.Bools.{by_cases, cond_elim, and_right}
use Rattle.lists.proofs.Tests.{all_both, all_every, all_weaken}
use Rattle.tables.specs.Slots.{lo_of, hi_of}
use Rattle.tables.specs.Sound.{chain_from, ascend, order_key}
use Rattle.tables.specs.Placed.{Cell, head}
use Rattle.chain_cells.specs.Cells.{cell_at, cell_lo, cell_before, cells_cover, cells_name}
use Rattle.chain_cells.specs.Held.{Held}
use Rattle.chain_cells.specs.Order.{CellsOrdered}
use Rattle.chain_cover.specs.declared.Front.{Front}
use Rattle.chain_cover.specs.Walks.{Ordered}
use Rattle.chain_cover.specs.Skips.{first_slot, beginning, Ahead}
use Rattle.chain_cover.specs.Fronts.{front_slots, front_at, ended, reach, pass_behind, advanced, FrontOrdered}
use Rattle.chain_cover.proofs.Chains.{chain_end, go_on}
use Rattle.chain_cover.proofs.Walks.{slots_say}
use Rattle.chain_cover.proofs.Skips.{front_ahead, seek_names}
use Rattle.chain_cover.proofs.Fronts.{front_none, front_some, front_ascends, front_at_ordered, front_at_slots, advanced_ordered, advanced_covers}
use Rattle.merge_strike.specs.Striking.{Place, PointsAt, front_cells, RangesAt}
use Rattle.merge_strike.proofs.Places.{names_read, covers_read, all_ascend, cells_ascend, place_reads, place_within, place_ordered, place_front, place_behind}
use Rattle.merge_strike.proofs.Suffixes.{Suffix, suffix_all}

-- A whole chain.
abbrev pub place_begins : {cells : List Cell} {at : ℕ} → at ≡ head cells → Place cells at
place_begins {cells} is = record { passed = []; rest = cells; whole = refl; at_is = is }

-- Of the docket of a lower cell these points say what all do, and these ranges of its docket and stamp.
abbrev SameName : List Cell → List Cell → Cell → Type 0
SameName rest cells c = cells_name rest (cell_lo c) ≡ cells_name cells (cell_lo c)

abbrev SameCover : List Cell → List Cell → Cell → Type 0
SameCover rest cells c = cells_cover rest (cell_lo c) c.stamp ≡ cells_cover cells (cell_lo c) c.stamp

pub points_begin : {cells lower : List Cell} {at : ℕ} → at ≡ head cells → PointsAt cells lower at
points_begin {cells} {lower} is = record { place = place_begins is; same = all_every (SameName cells cells) (λ c. refl) lower }

-- Lower cells are done with.
module _ {cells lower lower' : List Cell} (s : Suffix lower' lower) where
  pub points_left : {at : ℕ} → PointsAt cells lower at → PointsAt cells lower' at
  points_left w = record { place = w.place; same = suffix_all (SameName w.place.rest cells) lower' lower s w.same }

  pub ranges_left : {f : Front} → RangesAt cells lower f → RangesAt cells lower' f
  ranges_left w = record {
    first = w.first;
    behind = w.behind;
    ascend = w.ascend;
    same = suffix_all (SameCover (front_cells w.first.rest w.behind.rest) cells) lower' lower s w.same;
  }

module _ {n clock : ℕ} {free : List ℕ} {cells : List Cell} {others : List (List Cell)} {e : List ℕ}
    (h : Held n clock free (cells ∷ others) e) (o : CellsOrdered cells) where
  -- The points from a slot on.
  module _ {lower : List Cell} {at : ℕ} (w : PointsAt cells lower at) where
    pub points_ordered : Ordered e at
    points_ordered = place_ordered h w.place o

    pub points_say : (k : ℕ) → cells_name (map (cell_at e) (chain_from e at)) k ≡ cells_name w.place.rest k
    points_say k = ap (λ (cs : List Cell). cells_name cs k) (place_reads h w.place)

    module _ (k at' : ℕ) (is : at' ≡ first_slot (beginning e k (chain_from e at))) where
      pub points_ahead : Ahead e (lo_of e) at' k
      points_ahead = front_ahead e (lo_of e) at k points_ordered at' is

      -- Those that lie before docket k are passed, where no lower cell is before it.
      pub points_skip : All (λ c. k ≤ cell_lo c) lower → PointsAt cells lower at'
      points_skip low =
          let p : Place cells at' = place_front h w.place o (lo_of e) k at' is in
          record {
            place = p;
            same =
                all_both (λ c. k ≤ cell_lo c) (SameName w.place.rest cells) (SameName p.rest cells)
                (λ c le same. left_say p (cell_lo c) le ∙ same) lower low w.same;
          }
        where
          left_say : (p : Place cells at') (j : ℕ) → k ≤ j → cells_name p.rest j ≡ cells_name w.place.rest j
          left_say p j le =
              ap (λ (cs : List Cell). cells_name cs j) (sym (place_reads h p)) ∙ sym (names_read e (chain_from e at') j)
              ∙ sym (seek_names e at k points_ordered at' is j le) ∙ names_read e (chain_from e at) j ∙ points_say j

  -- The cells of a front.
  module _ (f : Front) (first : Place cells f.first) (behind : Place cells f.behind) where
    front_reads : map (cell_at e) (front_slots e f) ≡ front_cells first.rest behind.rest
    front_reads =
        by_cases (eqb f.first 0) (λ z. none (eqb-true f.first 0 z)) (λ s. some (eqb-false f.first 0 s))
      where
        none : f.first ≡ 0 → map (cell_at e) (front_slots e f) ≡ front_cells first.rest behind.rest
        none z =
            ap (map (cell_at e)) (front_none e f z)
            ∙ ap (λ (cs : List Cell). front_cells cs behind.rest) (sym (ap (map (cell_at e)) (chain_end e f.first z)) ∙ place_reads h first)

        some : f.first ≢ 0 → map (cell_at e) (front_slots e f) ≡ front_cells first.rest behind.rest
        some nz =
            ap (map (cell_at e)) (front_some e f nz) ∙ ap (◌∷◌ (cell_at e f.first)) (place_reads h behind)
            ∙ ap (λ (cs : List Cell). front_cells cs behind.rest) (sym (ap (map (cell_at e)) (go_on e f.first (place_ordered h first o) nz).whole) ∙ place_reads h first)

    front_say : (k t : ℕ) → slots_say e (front_slots e f) k t ≡ cells_cover (front_cells first.rest behind.rest) k t
    front_say k t = covers_read e (front_slots e f) k t ∙ ap (λ (cs : List Cell). cells_cover cs k t) front_reads

    -- A front in order that says of lower cells what all ranges do.
    ranges_made : (lower : List Cell) → FrontOrdered e f
        → All (λ c. slots_say e (front_slots e f) (cell_lo c) c.stamp ≡ cells_cover cells (cell_lo c) c.stamp) lower → RangesAt cells lower f
    ranges_made lower fo says = record {
      first = first;
      behind = behind;
      ascend = subst (Ascending cell_before) front_reads (cells_ascend e 0 (front_slots e f) (front_ascends e f fo));
      same =
          all_weaken (λ c. slots_say e (front_slots e f) (cell_lo c) c.stamp ≡ cells_cover cells (cell_lo c) c.stamp)
          (SameCover (front_cells first.rest behind.rest) cells) (λ c q. sym (front_say (cell_lo c) c.stamp) ∙ q) lower says;
    }

  -- The front of the whole chain.
  pub ranges_begin : {lower : List Cell} {at : ℕ} → at ≡ head cells → RangesAt cells lower (front_at e at)
  unfolding front_at
  ranges_begin {lower} {at} is =
      let p : Place cells at = place_begins is in
      let og : Ordered e at = place_ordered h p o in
      ranges_made (front_at e at) p (place_behind h p o) lower (front_at_ordered e at og)
      (all_every (λ c. slots_say e (front_slots e (front_at e at)) (cell_lo c) c.stamp ≡ cells_cover cells (cell_lo c) c.stamp)
      (λ c. ap (λ (ss : List ℕ). slots_say e ss (cell_lo c) c.stamp) (front_at_slots e at og) ∙ covers_read e (chain_from e at) (cell_lo c) c.stamp
      ∙ ap (λ (cs : List Cell). cells_cover cs (cell_lo c) c.stamp) (place_reads h p)) lower)

  -- Both places of a front that is advanced are places of the chain.
  abbrev Places : Front → Type 0
  Places f = Place cells f.first × Place cells f.behind

  module _ (k : ℕ) where
    reach_place : {at : ℕ} → Place cells at → Place cells (reach e k at)
    reach_place {at} p = place_front h p o (hi_of e) k (reach e k at) refl

    next_places : {at : ℕ} → Place cells at → Places (pass_behind e k (front_at e at))
    unfolding front_at
    next_places p = (p, reach_place (place_behind h p o))

    advanced_places : (f : Front) → Places f → Places (advanced e k f)
    unfolding advanced
    advanced_places f p =
        cond_elim Places (eqb f.first 0) f _ (λ z. p)
        (λ some. cond_elim Places (ltb k (lo_of e f.first)) f _ (λ early. p)
        (λ from. cond_elim Places (ended e k f.first) _ (pass_behind e k f) (λ past. next_places (reach_place p.1)) (λ reaches. (p.0, reach_place p.1))))

  module _ {lower : List Cell} {f : Front} (w : RangesAt cells lower f) where
    pub ranges_ordered : FrontOrdered e f
    unfolding ascend
    ranges_ordered = record {
      within = λ nz. place_within h w.first;
      after = λ nz.
          and_right (leb 0 (order_key e f.first)) (ascend e (order_key e f.first + 1) (chain_from e f.behind))
          (rw (front_some e f nz) at (all_ascend e (front_slots e f) (subst (Ascending cell_before) (sym (front_reads f w.first w.behind)) w.ascend)));
      rest = place_ordered h w.behind o;
    }

    pub ranges_say : (k t : ℕ) → slots_say e (front_slots e f) k t ≡ cells_cover (front_cells w.first.rest w.behind.rest) k t
    ranges_say k t = front_say f w.first w.behind k t

    -- Those that end before docket k are passed, where no lower cell is before it.
    pub ranges_advance : (k : ℕ) → All (λ c. k ≤ cell_lo c) lower → RangesAt cells lower (advanced e k f)
    ranges_advance k low =
        let p : Places (advanced e k f) = advanced_places k f (w.first, w.behind) in
        ranges_made (advanced e k f) p.0 p.1 lower (advanced_ordered e k f ranges_ordered)
        (all_both (λ c. k ≤ cell_lo c) (SameCover (front_cells w.first.rest w.behind.rest) cells)
        (λ c. slots_say e (front_slots e (advanced e k f)) (cell_lo c) c.stamp ≡ cells_cover cells (cell_lo c) c.stamp)
        (λ c le same. advanced_covers e k f ranges_ordered (cell_lo c) le c.stamp ∙ ranges_say (cell_lo c) c.stamp ∙ same) lower low w.same)
