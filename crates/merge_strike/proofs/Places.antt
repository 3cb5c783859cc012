-- A chain that a table holds, read as words: that it can be walked in order, what it says, and the places in it that a walk comes to.
use mathlib.Core.Path.{◌≡◌, refl, sym, ap, subst, ◌∙◌}
use mathlib.Core.Bool.{true}
use mathlib.Core.List.{List, [], ◌∷◌, ◌++◌, map, append_assoc}
use Prim.Native.Nat.{ℕ, ◌+◌, ◌<◌, ◌≤◌}
use native.Mathlib.Omega.{arith}
use borrow.Author.Tests.{le-leb, lt-ltb, leb-true, ltb-true, eqb-true, eqb-false}
use lib.Dec.{leb, ltb, eqb}
use lib.ListN.{length}
use Rattle.lists.specs.All.{All, Ascending}
use Rattle.lists.proofs.Bools.{cond_elim, and_left, and_right, and_intro}
use Rattle.lists.proofs.Tests.{any-map, all_every, append_map}
use Rattle.model.specs.Merge.{range_covers}
use Rattle.tables.specs.Slots.{entry_length, InTable, next_of}
use Rattle.tables.specs.Sound.{chain_from, ascend, order_key}
use Rattle.tables.specs.Placed.{Cell, head, read_point, read_range}
use Rattle.tables.proofs.Cells.{Chained, cell_slots}
use Rattle.tables.proofs.Reading.{next_at}
use Rattle.chain_cells.specs.Cells.{cell_at, cell_lo, cell_key, cell_before, cell_covers, cells_cover, cells_name}
use Rattle.chain_cells.specs.Order.{CellsOrdered}
use Rattle.chain_cells.specs.Held.{Held}
use Rattle.chain_cells.proofs.Frames.{chain_end}
use Rattle.chain_cells.proofs.Reading.{place_chain, place_cells, place_in_table}
use Rattle.chain_cover.specs.Walks.{Walkable, Ordered}
use Rattle.chain_cover.specs.Skips.{first_slot, from_bound}
use Rattle.chain_cover.specs.Fronts.{front_at}
use Rattle.chain_cover.proofs.Chains.{go_on}
use Rattle.chain_cover.proofs.Walks.{slots_say, slots_name}
use Rattle.chain_cover.proofs.Skips.{front_chain, front_ordered}
use Rattle.merge_strike.specs.Striking.{Place}
use Rattle.merge_strike.proofs.Suffixes.{Suffix, drop_while_suffix, suffix_ordered}

-- What the words at some slots say, their cells say.
pub names_read : (e ss : List ℕ) (k : ℕ) → slots_name e ss k ≡ cells_name (map (cell_at e) ss) k
names_read e ss k = any-map (read_point e) (λ p. eqb p.key k) ss ∙ sym (any-map (cell_at e) (λ c. eqb (cell_lo c) k) ss)

pub covers_read : (e ss : List ℕ) (k t : ℕ) → slots_say e ss k t ≡ cells_cover (map (cell_at e) ss) k t
covers_read e ss k t = any-map (read_range e) (λ r. range_covers r k t) ss ∙ sym (any-map (cell_at e) (λ c. cell_covers c k t) ss)

-- Slots whose cells ascend do so by their words, and back.
above : (e : List ℕ) (k : ℕ) (ss : List ℕ) → All (λ d. ltb k (cell_key d) ≡ true) (map (cell_at e) ss) → All (λ s. k + 1 ≤ order_key e s) ss
above e k [] a = tt
above e k (s ∷ ss) a = (omega (arith, ltb-true k (order_key e s) a.0), above e k ss a.1)

words_ascend : (e : List ℕ) (least : ℕ) (ss : List ℕ) → All (λ s. least ≤ order_key e s) ss → Ascending cell_before (map (cell_at e) ss) → ascend e least ss ≡ true
unfolding ascend
words_ascend e least [] l a = refl
words_ascend e least (s ∷ ss) l a =
    and_intro (leb least (order_key e s)) (ascend e (order_key e s + 1) ss) (le-leb least (order_key e s) l.0)
    (words_ascend e (order_key e s + 1) ss (above e (order_key e s) ss a.0) a.1)

pub all_ascend : (e ss : List ℕ) → Ascending cell_before (map (cell_at e) ss) → ascend e 0 ss ≡ true
all_ascend e ss a = words_ascend e 0 ss (all_every (λ s. 0 ≤ order_key e s) (λ s. omega arith) ss) a

cells_above : (e : List ℕ) (k least : ℕ) (ss : List ℕ) → k < least → ascend e least ss ≡ true → All (λ d. ltb k (cell_key d) ≡ true) (map (cell_at e) ss)
unfolding ascend
cells_above e k least [] lt a = tt
cells_above e k least (s ∷ ss) lt a =
    let up : least ≤ order_key e s = leb-true least (order_key e s) (and_left (leb least (order_key e s)) (ascend e (order_key e s + 1) ss) a) in (
      lt-ltb k (order_key e s) (omega arith),
      cells_above e k (order_key e s + 1) ss (omega arith) (and_right (leb least (order_key e s)) (ascend e (order_key e s + 1) ss) a),
    )

pub cells_ascend : (e : List ℕ) (least : ℕ) (ss : List ℕ) → ascend e least ss ≡ true → Ascending cell_before (map (cell_at e) ss)
unfolding ascend
cells_ascend e least [] a = tt
cells_ascend e least (s ∷ ss) a =
    let rest : ascend e (order_key e s + 1) ss ≡ true = and_right (leb least (order_key e s)) (ascend e (order_key e s + 1) ss) a in
    (cells_above e (order_key e s) (order_key e s + 1) ss (omega arith) rest, cells_ascend e (order_key e s + 1) ss rest)

cells_walk : (n : ℕ) (e : List ℕ) → n ≤ 65535 → length e ≡ entry_length n → (cs : List Cell) → Chained n e cs → Walkable e (head cs) (cell_slots cs)
cells_walk n e small room [] h = refl
cells_walk n e small room (c ∷ cs) h =
    (refl, omega (arith, h.0), omega (arith, h.1), rw (next_at n e (omega arith) c cs h) (cells_walk n e small room cs h.3))

-- A chain from a place on.
module _ {n clock : ℕ} {free : List ℕ} {others : List (List Cell)} {e : List ℕ} (done left : List Cell) (h : Held n clock free ((done ++ left) ∷ others) e) where
  left_ordered : CellsOrdered left → Ordered e (head left)
  left_ordered o = record {
    chained = rw (place_chain n clock free done left others e h) (cells_walk n e h.small h.holds.room left (chain_end n e done left h.holds.each.1.0));
    order = all_ascend e (chain_from e (head left)) (rw (place_cells n clock free done left others e h) o.ascend);
  }

first_cell : (e ss : List ℕ) → head (map (cell_at e) ss) ≡ first_slot ss
first_cell e [] = refl
first_cell e (s ∷ ss) = refl

walk_first : (e : List ℕ) (h : ℕ) (ss : List ℕ) → Walkable e h ss → h ≡ first_slot ss
walk_first e h [] w = w
walk_first e h (s ∷ ss) w = w.0

module _ {n clock : ℕ} {free : List ℕ} {cells : List Cell} {others : List (List Cell)} {e : List ℕ} {at : ℕ}
    (h : Held n clock free (cells ∷ others) e) (p : Place cells at) where
  parted : Held n clock free ((p.passed ++ p.rest) ∷ others) e
  parted = subst (λ (cs : List Cell). Held n clock free (cs ∷ others) e) (sym p.whole) h

  pub place_reads : map (cell_at e) (chain_from e at) ≡ p.rest
  place_reads =
      ap (λ (s : ℕ). map (cell_at e) (chain_from e s)) p.at_is
      ∙ place_cells n clock free p.passed p.rest others e parted

  pub place_within : InTable e at
  place_within = rw p.at_is (place_in_table n clock free p.passed p.rest others e parted)

  -- A place farther on.
  place_on : (at' : ℕ) → Ordered e at' → Suffix (chain_from e at') (chain_from e at) → Place cells at'
  place_on at' o s =
      let left = map (cell_at e) (chain_from e at') in
      let before = map (cell_at e) s.before in
      record {
        passed = p.passed ++ before;
        rest = left;
        whole =
            append_assoc p.passed before left
            ∙ ap (λ (cs : List Cell). p.passed ++ cs) (sym (append_map (cell_at e) s.before (chain_from e at')) ∙ ap (map (cell_at e)) s.whole ∙ place_reads)
            ∙ p.whole;
        at_is = walk_first e at' (chain_from e at') o.chained ∙ sym (first_cell e (chain_from e at'));
      }

  module _ (o : CellsOrdered cells) where
    pub place_ordered : Ordered e at
    place_ordered =
        subst (Ordered e) (sym p.at_is)
        (left_ordered p.passed p.rest parted (suffix_ordered p.rest cells (record { before = p.passed; whole = p.whole }) o))

    -- Where the front is passed whose bound is before docket k, and where the next record stands.
    pub place_front : (bound : ℕ → ℕ) (k at' : ℕ) → at' ≡ first_slot (from_bound bound k (chain_from e at)) → Place cells at'
    place_front bound k at' is =
        place_on at' (front_ordered e bound at k place_ordered at' is)
        (subst (λ (ss : List ℕ). Suffix ss (chain_from e at)) (sym (front_chain e bound at k place_ordered at' is)) (drop_while_suffix (λ s. ltb (bound s) k) (chain_from e at)))

    pub place_behind : Place cells (front_at e at).behind
    unfolding front_at
    place_behind =
        cond_elim (Place cells) (eqb at 0) 0 (next_of e at) (λ z. subst (Place cells) (eqb-true at 0 z) p)
        (λ nz. let on = go_on e at place_ordered (eqb-false at 0 nz) in place_on (next_of e at) on.rest (record { before = at ∷ []; whole = sym on.whole }))
