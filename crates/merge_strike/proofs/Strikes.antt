-- What each step of striking leaves, its beginning and its end.
use mathlib.Core.Path.{◌≡◌, refl, sym, ap, subst, ◌∙◌}
use mathlib.Core.Logic.{◌≢◌}
use mathlib.Core.Bool.{Bool, true}
use mathlib.Core.List.{List, [], ◌∷◌, ◌++◌}
use Prim.Native.Nat.{ℕ, ◌<◌, ◌≤◌}
use native.Mathlib.Omega.{arith}
use borrow.Author.Tests.{ltb-true}
use Rattle.lists.specs.All.{All}
use Rattle.tables.specs.Slots.{InTable, lo_of, stamp_of}
use Rattle.tables.specs.Sound.{chain_from}
use Rattle.tables.specs.Placed.{Cell, head}
use Rattle.chain_cells.specs.Cells.{cell_at, cell_lo, cell_hi, cell_key, cell_before, cells_cover, cells_name}
use Rattle.chain_cells.specs.Held.{Held}
use Rattle.chain_cells.specs.Order.{CellsOrdered}
use Rattle.chain_cells.specs.Sifting.{at_start, Sift, Sifting, Sifts, sift_of}
use Rattle.chain_cells.specs.declared.Cursor.{Cursor}
use Rattle.chain_cells.proofs.Laws.{swapped, third_first}
use Rattle.chain_cells.proofs.Reading.{place_in_table}
use Rattle.chain_cells.proofs.Sieves.{left_after, cursor_cell, sifting_begins, sifting_ends}
use Rattle.chain_cover.specs.declared.Front.{Front}
use Rattle.chain_cover.specs.Walks.{Ordered}
use Rattle.chain_cover.specs.Skips.{first_slot, beginning, Ahead}
use Rattle.chain_cover.specs.Fronts.{front_at, advanced, FrontOrdered}
use Rattle.chain_cover.proofs.Fronts.{advanced_ordered}
use Rattle.merge_strike.specs.declared.Progress.{Progress}
use Rattle.merge_strike.specs.Striking.{goes_under, Meeting, MeetingHeld, lower_chain, Struck, Strike, sift_under, front_cells, Striking, left_of, struck_by}
use Rattle.merge_strike.proofs.Places.{names_read, place_ordered}
use Rattle.merge_strike.proofs.Suffixes.{Suffix, drop_suffix, suffix_ordered}
use Rattle.merge_strike.proofs.Standings.{place_begins, points_begin, points_left, points_ordered, points_say, points_ahead, points_skip}
use Rattle.merge_strike.proofs.Standings.{ranges_begin, ranges_left, ranges_ordered, ranges_say, ranges_advance}

-- No later cell has an earlier docket.
lows : (c : Cell) (cs : List Cell) → All (λ d. cell_before c d ≡ true) cs → All (λ d. cell_hi d ≤ 65535) cs → All (λ d. cell_lo c ≤ cell_lo d) cs
lows c [] u f = tt
lows c (d ∷ ds) u f = (omega (arith, ltb-true (cell_key c) (cell_key d) u.0, f.0), lows c ds u.1 f.1)

-- What a step of a sieve promises.
abbrev pub Steps : List ℕ → Cursor → Bool → List ℕ → Cursor → Type 0
Steps e m goes e' m' = (g : Sift) → Sifting g e m → goes ≡ g.test (cell_at e m.at) → Sifts g e m e' m'

-- One step of striking, which leaves less to see.
abbrev pub Strikes : Strike → List ℕ → Progress → List ℕ → Progress → Type 0
Strikes g e m e' m' = Striking g e' m' × (left_of e' m' < left_of e m)

module _ (g : Strike) (e : List ℕ) (m : Progress) (w : Striking g e m) where
  abbrev key : ℕ
  key = lo_of e m.cursor.at

  at-cursor : (c : Cell) (cs : List Cell) → w.sifting.left ≡ c ∷ cs → cell_at e m.cursor.at ≡ c
  at-cursor = cursor_cell (sift_under g) e m.cursor w.sifting

  key_least : All (λ d. key ≤ cell_lo d) w.sifting.left
  key_least = go w.sifting.left refl w.lower_ordered
    where
      go : (left : List Cell) → w.sifting.left ≡ left → CellsOrdered left → All (λ d. key ≤ cell_lo d) left
      go [] is o = tt
      go (c ∷ cs) is o =
          let key≡ : key ≡ cell_lo c = ap cell_lo (at-cursor c cs is) in
          (omega arith, subst (λ (k : ℕ). All (λ d. k ≤ cell_lo d) cs) (sym key≡) (lows c cs o.ascend.0 o.fit.1))

  -- Each upper chain, as the first of all.
  points_held : Held g.slots g.clock w.sifting.free (g.points ∷ (w.sifting.done ++ w.sifting.left) ∷ g.ranges ∷ g.others) e
  points_held = swapped _ _ _ (w.sifting.done ++ w.sifting.left) g.points (g.ranges ∷ g.others) e w.sifting.here.held

  ranges_held : Held g.slots g.clock w.sifting.free (g.ranges ∷ (w.sifting.done ++ w.sifting.left) ∷ g.points ∷ g.others) e
  ranges_held = third_first _ _ _ (w.sifting.done ++ w.sifting.left) g.points g.ranges g.others e w.sifting.here.held

  pub lower_in_table : InTable e m.cursor.at
  lower_in_table = omega (arith, w.sifting.here.at_is, place_in_table _ _ _ w.sifting.done w.sifting.left _ e w.sifting.here.held)

  pub points_walk : Ordered e m.points
  points_walk = points_ordered points_held w.points_ordered w.points_at

  pub ranges_walk : FrontOrdered e m.ranges
  ranges_walk = ranges_ordered ranges_held w.ranges_ordered w.ranges_at

  -- What lies or ends before the lower point at the cursor is passed in both upper chains.
  module _ (p : ℕ) (p≡ : p ≡ first_slot (beginning e key (chain_from e m.points))) where
    pub points_reach : Ahead e (lo_of e) p key
    points_reach = points_ahead points_held w.points_ordered w.points_at key p p≡

    striking_skips : Striking g e (record { points = p; ranges = advanced e key m.ranges; cursor = m.cursor })
    striking_skips = record {
      sifting = w.sifting;
      lower_ordered = w.lower_ordered;
      points_ordered = w.points_ordered;
      ranges_ordered = w.ranges_ordered;
      points_at = points_skip points_held w.points_ordered w.points_at key p p≡ key_least;
      ranges_at = ranges_advance ranges_held w.ranges_ordered w.ranges_at key key_least;
    }

  -- The lower point at the cursor has been seen.
  striking_sifts : (e' : List ℕ) (c' : Cursor) (goes : Bool) → Steps e m.cursor goes e' c' → goes ≡ goes_under g.points g.ranges (cell_at e m.cursor.at)
      → Strikes g e m e' (record { points = m.points; ranges = m.ranges; cursor = c' })
  striking_sifts e' c' goes steps q =
      let s = steps (sift_under g) w.sifting q in
      let rest : Suffix s.0.left w.sifting.left = drop_suffix 1 s.0.left w.sifting.left (left_after (sift_under g) e e' m.cursor c' w.sifting s) in (
        record {
          sifting = s.0;
          lower_ordered = suffix_ordered s.0.left w.sifting.left rest w.lower_ordered;
          points_ordered = w.points_ordered;
          ranges_ordered = w.ranges_ordered;
          points_at = points_left rest w.points_at;
          ranges_at = ranges_left rest w.ranges_at;
        },
        s.1,
      )

  module _ (nz : m.cursor.at ≢ 0) where
    -- What holds of each lower point that is left holds of the one at the cursor.
    at_first : (P : Cell → Type 0) → All P w.sifting.left → P (cell_at e m.cursor.at)
    at_first P all = go w.sifting.left refl all
      where
        go : (left : List Cell) → w.sifting.left ≡ left → All P left → P (cell_at e m.cursor.at)
        go [] is a = absurd (nz (w.sifting.here.at_is ∙ ap head is))
        go (c ∷ cs) is a = subst P (sym (at-cursor c cs is)) a.0

    -- The upper chains from here on strike the lower point where the whole level does.
    goes_here : struck_by e m.points m.ranges key (stamp_of e m.cursor.at) ≡ goes_under g.points g.ranges (cell_at e m.cursor.at)
    goes_here =
        let points = w.points_at in
        let ranges = w.ranges_at in
        rw (names_read e (chain_from e m.points) key ∙ points_say points_held w.points_ordered points key
        ∙ at_first (λ c. cells_name points.place.rest (cell_lo c) ≡ cells_name g.points (cell_lo c)) points.same)
        (rw (ranges_say ranges_held w.ranges_ordered ranges key (stamp_of e m.cursor.at)
        ∙ at_first (λ c. cells_cover (front_cells ranges.first.rest ranges.behind.rest) (cell_lo c) c.stamp ≡ cells_cover g.ranges (cell_lo c) c.stamp) ranges.same))

-- A whole step: the lower point's docket is k and its stamp t, and p and f are where the upper chains reach the docket.
module _ (g : Strike) (e : List ℕ) (m : Progress) (w : Striking g e m) (k p : ℕ) (k≡ : k ≡ lo_of e m.cursor.at)
    (p≡ : p ≡ first_slot (beginning e k (chain_from e m.points))) where
  pub points_asked : Ahead e (lo_of e) p k
  points_asked = rw k≡ (points_reach g e m w p (rw (← k≡) p≡))

  module _ (f : Front) (f≡ : f ≡ advanced e k m.ranges) where
    pub ranges_asked : FrontOrdered e f
    ranges_asked = rw f≡ (advanced_ordered e k m.ranges (ranges_walk g e m w))

    pub strikes : m.cursor.at ≢ 0 → (t : ℕ) → t ≡ stamp_of e m.cursor.at → (e' : List ℕ) (c' : Cursor) (goes : Bool) → goes ≡ struck_by e p f k t
        → Steps e m.cursor goes e' c' → Strikes g e m e' (record { points = p; ranges = f; cursor = c' })
    strikes nz t t≡ e' c' goes q steps =
        let on : Progress = record { points = p; ranges = advanced e (lo_of e m.cursor.at) m.ranges; cursor = m.cursor } in
        let skipped : Striking g e on = striking_skips g e m w p (rw (← k≡) p≡) in
        let f≡' : f ≡ advanced e (lo_of e m.cursor.at) m.ranges = rw (← k≡) f≡ in
        rw f≡' (striking_sifts g e on skipped e' c' goes steps (q ∙ rw (f≡', k≡, t≡) (goes_here g e on skipped nz)))

-- What striking is to do where these chains meet.
abbrev pub strike_of : Meeting → Strike
strike_of g =
    let s = sift_of (goes_under g.points g.ranges) (lower_chain g) in
    record { slots = s.slots; clock = s.clock; kept = s.kept; free = s.free; gone = s.gone; points = g.points; ranges = g.ranges; others = g.others }

module _ (g : Meeting) (e : List ℕ) where
  pub striking_begins : (lower points ranges : ℕ) (f : Front) → f ≡ front_at e ranges → MeetingHeld g e lower points ranges
      → Striking (strike_of g) e (record { points = points; ranges = f; cursor = at_start lower })
  striking_begins lower points ranges f is h = record {
    sifting = sifting_begins (goes_under g.points g.ranges) (lower_chain g) e lower (record { held = h.held; head_is = h.lower_is });
    lower_ordered = h.lower_ordered;
    points_ordered = h.points_ordered;
    ranges_ordered = h.ranges_ordered;
    points_at = points_begin h.points_is;
    ranges_at = rw is (ranges_begin (third_first _ _ _ g.lower g.points g.ranges g.others e h.held) h.ranges_ordered h.ranges_is);
  }

  -- The upper ranges can be walked.
  pub upper-ranges : (lower points ranges : ℕ) → MeetingHeld g e lower points ranges → Ordered e ranges
  upper-ranges lower points ranges h =
      place_ordered (third_first _ _ _ g.lower g.points g.ranges g.others e h.held) (place_begins h.ranges_is) h.ranges_ordered

  pub striking_ends : (m : Progress) → Striking (strike_of g) e m → m.cursor.at ≡ 0 → Struck g e m.cursor
  striking_ends m w z = sifting_ends (goes_under g.points g.ranges) (lower_chain g) e m.cursor w.sifting z
