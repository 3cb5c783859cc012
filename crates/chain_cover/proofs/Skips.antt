-- What is left of an ordered chain whose front is passed: an ordered chain, over the same dockets from the one asked for on.
use mathlib.Core.Path.{◌≡◌, refl, subst}
use mathlib.Core.Bool.{Bool, true, false}
use mathlib.Core.Logic.{◌≢◌}
use mathlib.Core.List.{List, [], ◌∷◌, map}
use Prim.Native.Nat.{ℕ, ◌+◌, ◌<◌, ◌≤◌}
use native.Mathlib.Omega.{arith}
use borrow.Author.Tests.{ne_eqb, ltb-true, ltb-false, le-ltb, lt-ltb}
use lib.Dec.{eqb, leb, ltb}
use lib.ListN.{length}
use Rattle.lists.specs.Lists.{any}
use Rattle.lists.proofs.Bools.{cond_elim, and_right}
use Rattle.std.specs.Borrow.{Bor}
use Rattle.tables.specs.Slots.{InTable, next_of, lo_of}
use Rattle.tables.specs.Sound.{chain_from, ascend, order_key}
use Rattle.tables.specs.Placed.{read_point}
use Rattle.chain_cover.specs.Walks.{Walkable, Ordered}
use Rattle.chain_cover.specs.Skips.{Computes, drop_while, first_slot, from_bound, beginning, Ahead}
use Rattle.chain_cover.proofs.Chains.{On, chain_is, chain_short, chain_end, ascend_any}
use Rattle.chain_cover.proofs.Walks.{points_name}

-- What reading a slot has to show to compute a bound.
pub computes : {bound : List ℕ → ℕ → ℕ} {asks : Bor (List ℕ) → ℕ → Type 0} {tells : Bor (List ℕ) → ℕ → ℕ → Type 0}
    → ((e : Bor (List ℕ)) (s : ℕ) → InTable e.now s → asks e s)
    → ((e : Bor (List ℕ)) (s r : ℕ) → InTable e.now s → tells e s r → r ≡ bound e.now s)
    → Computes bound asks tells
computes may says = record { may = may; says = says }

-- A chain that ends in the table, in order.
record Whole (e : List ℕ) (h : ℕ) (ss : List ℕ) : Type 0 where
  pub chained : Walkable e h ss
  pub order : ascend e 0 ss ≡ true
  pub short : length ss ≤ length e

module _ (e : List ℕ) where
  whole_rest : (h s : ℕ) (ss : List ℕ) → Whole e h (s ∷ ss) → Whole e (next_of e s) ss
  unfolding ascend
  whole_rest h s ss w = record {
    chained = w.chained.3;
    order = ascend_any e (order_key e s + 1) ss (and_right (leb 0 (order_key e s)) (ascend e (order_key e s + 1) ss) w.order);
    short = omega (arith, w.short);
  }

  whole_first : (h : ℕ) (ss : List ℕ) → Whole e h ss → h ≡ first_slot ss
  whole_first h [] w = w.chained
  whole_first h (s ∷ ss) w = w.chained.0

  drop_whole : (test : ℕ → Bool) (h : ℕ) (ss : List ℕ) → Whole e h ss → Whole e (first_slot (drop_while test ss)) (drop_while test ss)
  unfolding drop_while
  drop_whole test h [] w = subst (λ (x : ℕ). Whole e x []) (whole_first h [] w) w
  drop_whole test h (s ∷ ss) w =
      cond_elim (λ l. Whole e (first_slot l) l) (test s) (drop_while test ss) (s ∷ ss)
      (λ p. drop_whole test (next_of e s) ss (whole_rest h s ss w)) (λ p. subst (λ (x : ℕ). Whole e x (s ∷ ss)) (whole_first h (s ∷ ss) w) w)

-- Slots whose bound is before the docket are passed: if none of them would say so, what is left says what all do.
front_any : {X : Type 0} (read : ℕ → X) (asks : X → Bool) (bound : ℕ → ℕ) (k : ℕ) → ((s : ℕ) → bound s < k → asks (read s) ≡ false)
    → (ss : List ℕ) → any asks (map read ss) ≡ any asks (map read (from_bound bound k ss))
unfolding any drop_while
front_any read asks bound k off [] = refl
front_any read asks bound k off (s ∷ ss) =
    cond_elim (λ l. any asks (map read (s ∷ ss)) ≡ any asks (map read l)) (ltb (bound s) k) (from_bound bound k ss) (s ∷ ss)
    (λ p. rw (off s (ltb-true (bound s) k p)) (front_any read asks bound k off ss)) (λ p. refl)

-- The first slot that is left has a bound no earlier.
front_first : (bound : ℕ → ℕ) (k : ℕ) (ss : List ℕ) → first_slot (from_bound bound k ss) ≢ 0 → k ≤ bound (first_slot (from_bound bound k ss))
unfolding drop_while
front_first bound k [] = λ some. absurd (some refl)
front_first bound k (s ∷ ss) =
    cond_elim (λ l. first_slot l ≢ 0 → k ≤ bound (first_slot l)) (ltb (bound s) k) (from_bound bound k ss) (s ∷ ss)
    (λ p. front_first bound k ss) (λ p some. ltb-false (bound s) k p)

module _ (e : List ℕ) (bound : ℕ → ℕ) (h k : ℕ) (o : Ordered e h) where
  abbrev left : List ℕ
  left = from_bound bound k (chain_from e h)

  left_whole : Whole e (first_slot left) left
  left_whole =
      drop_whole e (λ s. ltb (bound s) k) h (chain_from e h)
      (record { chained = o.chained; order = o.order; short = chain_short e (length e) h })

  module _ (r : ℕ) (is : r ≡ first_slot left) where
    pub front_chain : chain_from e r ≡ left
    front_chain = rw is (chain_is e (length e) (first_slot left) left left_whole.chained left_whole.short)

    pub front_ordered : Ordered e r
    front_ordered = record {
      chained = rw front_chain (rw is left_whole.chained);
      order = rw front_chain left_whole.order;
    }

    pub front_ahead : Ahead e bound r k
    front_ahead = record { ordered = front_ordered; first = λ some. rw is (front_first bound k (chain_from e h) (rw is at some)) }

-- Points that lie before docket k have no docket from it on.
pub seek_names : (e : List ℕ) (h k : ℕ) (o : Ordered e h) (r : ℕ) → r ≡ first_slot (beginning e k (chain_from e h)) → (j : ℕ) → k ≤ j → points_name e h j ≡ points_name e r j
seek_names e h k o r is j le =
    rw (front_chain e (lo_of e) h k o r is)
    (front_any (read_point e) (λ p. eqb p.key j) (lo_of e) k (λ s lt. ne_eqb (lo_of e s) j (λ q. omega arith)) (chain_from e h))

-- Each turn of a walk, and each way out of it.
module _ (e : List ℕ) (bound : ℕ → ℕ) (h k : ℕ) where
  pub front_end : h ≡ 0 → from_bound bound k (chain_from e h) ≡ []
  unfolding drop_while
  front_end z = rw (chain_end e h z)

  module _ (on : On e h) where
    pub front_here : k ≤ bound h → first_slot (from_bound bound k (chain_from e h)) ≡ h
    unfolding drop_while
    front_here le = rw (on.whole, le-ltb (bound h) k le)

    pub front_next : bound h < k → from_bound bound k (chain_from e h) ≡ from_bound bound k (chain_from e (next_of e h))
    unfolding drop_while
    front_next lt = rw (on.whole, lt-ltb (bound h) k lt)
