-- What each turn of the walk for a docket, and each way out of it, says of the whole chain.
use mathlib.Core.Path.{◌≡◌, refl, sym, ◌∙◌}
use mathlib.Core.Logic.{◌≢◌}
use mathlib.Core.Bool.{Bool, true, false, ◌&&◌, ◌||◌}
use mathlib.Core.List.{List, [], ◌∷◌, map}
use Prim.Native.Nat.{ℕ, ◌<◌, ◌≤◌}
use native.Mathlib.Omega.{arith}
use native.Mathlib.Decide.{dec_lt}
use borrow.Author.Tests.{eq-eqb, ne_eqb, le-leb, leb-true}
use lib.Dec.{eqb, leb}
use Rattle.lists.specs.All.{All}
use Rattle.lists.specs.Lists.{any}
use Rattle.lists.proofs.Bools.{by_cases, both_false, bool_ext, and_left, and_right, and_intro, and_false_right, or_false_left, or_false_right}
use Rattle.model.specs.Coverage.{over, covers}
use Rattle.model.specs.Merge.{covered, names}
use Rattle.model.proofs.Coverage.{over_inside, over_bounds, over_before, over_past, covers-true, covers_parts}
use Rattle.tables.specs.Slots.{next_of, lo_of, hi_of, date_of}
use Rattle.tables.specs.Words.{Fits32}
use Rattle.tables.specs.Sound.{chain_from}
use Rattle.tables.specs.Placed.{read_point, read_range}
use Rattle.chain_cover.specs.Walks.{Ordered}
use Rattle.chain_cover.proofs.Chains.{On, go_on, chain_end, past}

-- A range that is not over the docket covers nothing of it; three tests tell whether a range covers.
module _ (lo hi date k t : ℕ) where
  covers_off : over lo hi k ≡ false → covers lo hi date k t ≡ false
  covers_off off = by_cases (covers lo hi date k t) (λ is. both_false (covers_parts lo hi date k t is).0 off) (λ not. not)

  pub covers_before : k < lo → covers lo hi date k t ≡ false
  covers_before lt = covers_off (over_before lo hi k lt)

  pub covers_past : hi < k → covers lo hi date k t ≡ false
  covers_past lt = covers_off (over_past lo hi k lt)

  pub covers_tests : leb lo k && leb k hi && leb t date ≡ covers lo hi date k t
  covers_tests =
      let at : Bool = leb lo k && leb k hi in
      bool_ext (at && leb t date) (covers lo hi date k t)
      (λ is.
      let on = and_left at (leb t date) is in
      covers-true lo hi date k t
      (over_inside lo hi k (leb-true lo k (and_left (leb lo k) (leb k hi) on)) (leb-true k hi (and_right (leb lo k) (leb k hi) on)))
      (leb-true t date (and_right at (leb t date) is)))
      (λ is.
      let parts = covers_parts lo hi date k t is in
      let on = over_bounds lo hi k parts.0 in
      and_intro at (leb t date) (and_intro (leb lo k) (leb k hi) (le-leb lo k on.0) (le-leb k hi on.1)) (le-leb t date parts.1))

  -- The date as it was read, one test among three.
  pub covers_late : {read : ℕ} (a b : Bool) → read ≡ date → a || leb t read || b ≡ false → covers lo hi date k t ≡ false
  covers_late {read} a b is off =
      sym covers_tests ∙ and_false_right (leb lo k && leb k hi) (leb t date) (rw (← is) (or_false_right a (leb t read) (or_false_left (a || leb t read) b off)))

-- The same of words that were read.
pub covers_read : (lo hi date lo' hi' date' k t : ℕ) (says : Bool) → lo ≡ lo' → hi ≡ hi' → date ≡ date' → says ≡ covers lo hi date k t → covers lo' hi' date' k t ≡ says
covers_read lo hi date lo' hi' date' k t says p q r s = cc

-- What the ranges of some slots, and of the chain from h, say of a record of docket k with stamp t; and what the points do of the docket.
abbrev pub slots_say : List ℕ → List ℕ → ℕ → ℕ → Bool
slots_say e ss k t = covered (map (read_range e) ss) k t

abbrev pub ranges_say : List ℕ → ℕ → ℕ → ℕ → Bool
ranges_say e h k t = slots_say e (chain_from e h) k t

abbrev pub slots_name : List ℕ → List ℕ → ℕ → Bool
slots_name e ss k = names (map (read_point e) ss) k

abbrev pub points_name : List ℕ → ℕ → ℕ → Bool
points_name e h k = slots_name e (chain_from e h) k

-- Records past the docket do not cover it, and do not have it.
pub covered_past : (e : List ℕ) (k t : ℕ) (ss : List ℕ) → All (λ s. k < lo_of e s) ss → slots_say e ss k t ≡ false
unfolding any
covered_past e k t [] a = refl
covered_past e k t (s ∷ ss) a = rw (covers_before (lo_of e s) (hi_of e s) (date_of e s) k t a.0) (covered_past e k t ss a.1)

named_past : (e : List ℕ) (k : ℕ) (ss : List ℕ) → All (λ s. k < lo_of e s) ss → slots_name e ss k ≡ false
unfolding any
named_past e k [] a = refl
named_past e k (s ∷ ss) a = rw (ne_eqb (lo_of e s) k (λ q. omega arith)) (named_past e k ss a.1)

-- One range more.
module _ (e : List ℕ) (s : ℕ) (ss : List ℕ) (k t : ℕ) where
  pub slots_here : covers (lo_of e s) (hi_of e s) (date_of e s) k t ≡ true → slots_say e (s ∷ ss) k t ≡ true
  unfolding any
  slots_here q = rw q

  pub slots_next : covers (lo_of e s) (hi_of e s) (date_of e s) k t ≡ false → slots_say e (s ∷ ss) k t ≡ slots_say e ss k t
  unfolding any
  slots_next q = rw q

module _ (e : List ℕ) (h k : ℕ) where
  pub points_end : h ≡ 0 → points_name e h k ≡ false
  unfolding any
  points_end z = rw (chain_end e h z)

  module _ (on : On e h) where
    pub points_here : eqb (lo_of e h) k ≡ true → points_name e h k ≡ true
    unfolding any
    points_here q = rw (on.whole, q)

    -- Where the first point has no earlier docket, it decides: if its docket is later, so are all.
    pub points_first : Fits32 e → k ≤ lo_of e h → eqb (lo_of e h) k ≡ points_name e h k
    points_first words reach = go (dec_lt k (lo_of e h))
      where
        go : Dec (k < lo_of e h) → eqb (lo_of e h) k ≡ points_name e h k
        go (yes lt) = rw (named_past e k (chain_from e h) (past e words h k on lt)) (ne_eqb (lo_of e h) k (λ q. omega arith))
        go (no ge) = let here = eq-eqb (lo_of e h) k (omega arith) in rw (points_here here) here

module _ (e : List ℕ) (h k t : ℕ) where
  pub ranges_end : h ≡ 0 → ranges_say e h k t ≡ false
  unfolding any
  ranges_end z = rw (chain_end e h z)

  module _ (on : On e h) where
    pub ranges_past : Fits32 e → k < lo_of e h → ranges_say e h k t ≡ false
    ranges_past words lt = covered_past e k t (chain_from e h) (past e words h k on lt)

    pub ranges_here : covers (lo_of e h) (hi_of e h) (date_of e h) k t ≡ true → ranges_say e h k t ≡ true
    ranges_here q = rw on.whole (slots_here e h (chain_from e (next_of e h)) k t q)

    pub ranges_next : covers (lo_of e h) (hi_of e h) (date_of e h) k t ≡ false → ranges_say e h k t ≡ ranges_say e (next_of e h) k t
    ranges_next q = rw on.whole (slots_next e h (chain_from e (next_of e h)) k t q)

-- The walk stands at a record of an ordered chain, whose ranges say what all do.
module _ (e : List ℕ) (head at k t : ℕ) (o : Ordered e at) (nz : at ≢ 0) (same : ranges_say e at k t ≡ ranges_say e head k t) where
  pub walk_covered : covers (lo_of e at) (hi_of e at) (date_of e at) k t ≡ true → true ≡ ranges_say e head k t
  walk_covered q = sym (ranges_here e at k t (go_on e at o nz) q) ∙ same

  pub walk_past : Fits32 e → k < lo_of e at → false ≡ ranges_say e head k t
  walk_past words lt = sym (ranges_past e at k t (go_on e at o nz) words lt) ∙ same

  pub walk_on : (next : ℕ) → next ≡ next_of e at → covers (lo_of e at) (hi_of e at) (date_of e at) k t ≡ false
      → Ordered e next × (ranges_say e next k t ≡ ranges_say e head k t)
  walk_on next is q = rw is ((go_on e at o nz).rest, sym (ranges_next e at k t (go_on e at o nz) q) ∙ same)
