-- Laws of ordered chains: how a walk goes on, and that nothing behind a record past the docket matters.
use mathlib.Core.Path.{◌≡◌, refl, ◌∙◌}
use mathlib.Core.Logic.{◌≢◌}
use mathlib.Core.Bool.{true}
use mathlib.Core.List.{List, [], ◌∷◌}
use Prim.Native.Nat.{ℕ, zero, suc, ◌+◌, ◌*◌, ◌<◌, ◌≤◌}
use native.Mathlib.Omega.{arith}
use borrow.Author.Tests.{eq-eqb, ne_eqb, le-leb, leb-true}
use lib.Dec.{eqb, leb}
use lib.ListN.{length}
use Rattle.lists.specs.All.{All}
use Rattle.lists.proofs.Bools.{cond_elim, and_left, and_right, and_intro}
use Rattle.tables.proofs.Slots.{hi_small}
use Rattle.tables.specs.Words.{Fits32}
use Rattle.tables.specs.Slots.{InTable, next_of, lo_of}
use Rattle.tables.specs.Sound.{chain, chain_from, ascend, order_key}
use Rattle.chain_cover.specs.Walks.{Walkable, Ordered}

module _ (e : List ℕ) where
  -- A chain that ends is what is followed, however much farther one would go.
  pub chain_is : (k h : ℕ) (ss : List ℕ) → Walkable e h ss → length ss ≤ k → chain k e h ≡ ss
  unfolding chain
  chain_is zero h [] c le = refl
  chain_is zero h (s ∷ ss) c le = absurd (omega arith)
  chain_is (suc k) h [] c le = rw (eq-eqb h 0 c)
  chain_is (suc k) h (s ∷ ss) c le = rw (c.0, ne_eqb s 0 c.1, chain_is k (next_of e s) ss c.3 (omega arith))

  pub chain_short : (k h : ℕ) → length (chain k e h) ≤ k
  unfolding chain
  chain_short zero h = omega arith
  chain_short (suc k) h =
      cond_elim (λ l. length l ≤ suc k) (eqb h 0) [] (h ∷ chain k e (next_of e h)) (λ p. omega arith)
      (λ p. omega (arith, chain_short k (next_of e h)))

  -- What ascends from some least key on does so from an earlier one; so does what is left where the first few are dropped.
  pub ascend_weaken : (less least : ℕ) (ss : List ℕ) → less ≤ least → ascend e least ss ≡ true → ascend e less ss ≡ true
  unfolding ascend
  ascend_weaken less least [] le a = refl
  ascend_weaken less least (s ∷ ss) le a =
      let up = and_left (leb least (order_key e s)) (ascend e (order_key e s + 1) ss) a in
      and_intro (leb less (order_key e s)) (ascend e (order_key e s + 1) ss) (le-leb less (order_key e s) (omega (arith, leb-true least (order_key e s) up)))
      (and_right (leb least (order_key e s)) (ascend e (order_key e s + 1) ss) a)

  pub ascend_any : (least : ℕ) (ss : List ℕ) → ascend e least ss ≡ true → ascend e 0 ss ≡ true
  ascend_any least ss a = ascend_weaken 0 least ss (omega arith) a

  pub ascend_rest : (least s : ℕ) (ss : List ℕ) → ascend e least (s ∷ ss) ≡ true → ascend e least ss ≡ true
  unfolding ascend
  ascend_rest least s ss a =
      let up = and_left (leb least (order_key e s)) (ascend e (order_key e s + 1) ss) a in
      ascend_weaken least (order_key e s + 1) ss (omega (arith, leb-true least (order_key e s) up))
      (and_right (leb least (order_key e s)) (ascend e (order_key e s + 1) ss) a)

  pub chain_end : (h : ℕ) → h ≡ 0 → chain_from e h ≡ []
  chain_end h z = chain_is (length e) h [] z (omega arith)

-- The chain from h is h and the chain from the next slot, which comes after it.
pub record On (e : List ℕ) (h : ℕ) : Type 0 where
  pub within : InTable e h
  pub whole : chain_from e h ≡ h ∷ chain_from e (next_of e h)
  pub after : ascend e (order_key e h + 1) (chain_from e (next_of e h)) ≡ true
  pub rest : Ordered e (next_of e h)

pub go_on : (e : List ℕ) (h : ℕ) → Ordered e h → h ≢ 0 → On e h
unfolding ascend
go_on e h o nz = go (chain_from e h) refl o.chained o.order (chain_short e (length e) h)
  where
    go : (ss : List ℕ) → chain_from e h ≡ ss → Walkable e h ss → ascend e 0 ss ≡ true → length ss ≤ length e → On e h
    go [] q c a le = absurd (nz c)
    go (s ∷ ss) q c a le =
        let follows : Walkable e (next_of e h) ss = rw c.0 c.3 in
        let rest : chain_from e (next_of e h) ≡ ss = chain_is e (length e) (next_of e h) ss follows (omega arith) in
        let up : ascend e (order_key e h + 1) ss ≡ true =
        rw c.0 (and_right (leb 0 (order_key e s)) (ascend e (order_key e s + 1) ss) a)
        in
        record {
          within = rw c.0 c.2;
          whole = q ∙ rw (rest, c.0) refl;
          after = rw rest up;
          rest = record { chained = rw rest follows; order = rw rest (ascend_any e (order_key e h + 1) ss up) };
        }

pub shorter : (e : List ℕ) (h : ℕ) → On e h → length (chain_from e (next_of e h)) < length (chain_from e h)
shorter e h on = rw on.whole (omega arith)

-- What a walk does at a record of an ordered chain: it stands in the table, and its next slot begins one that is shorter.
module _ (e : List ℕ) (h : ℕ) (o : Ordered e h) (nz : h ≢ 0) where
  pub walk_in_table : InTable e h
  walk_in_table = (go_on e h o nz).within

  pub walk_shorter : (next : ℕ) → next ≡ next_of e h → length (chain_from e next) < length (chain_from e h)
  walk_shorter next is = rw is (shorter e h (go_on e h o nz))

module _ (e : List ℕ) (words : Fits32 e) where
  -- Where the key is past all those of the docket, so is every later one.
  pub all_past : (k least : ℕ) (ss : List ℕ) → (k + 1) * 65536 ≤ least → ascend e least ss ≡ true → All (λ s. k < lo_of e s) ss
  unfolding ascend
  all_past k least [] le a = tt
  all_past k least (s ∷ ss) le a =
      let up : least ≤ order_key e s =
      leb-true least (order_key e s) (and_left (leb least (order_key e s)) (ascend e (order_key e s + 1) ss) a)
      in (
        omega (arith, hi_small e words s),
        all_past k (order_key e s + 1) ss (omega arith)
            (and_right (leb least (order_key e s)) (ascend e (order_key e s + 1) ss) a),
      )

  -- Nothing behind a record whose lo is past the docket is for the docket.
  pub ascend_past : (k least s : ℕ) (ss : List ℕ) → k < lo_of e s → ascend e least (s ∷ ss) ≡ true → All (λ s. k < lo_of e s) (s ∷ ss)
  unfolding ascend
  ascend_past k least s ss lt a =
      (lt, all_past k (order_key e s + 1) ss (omega arith) (and_right (leb least (order_key e s)) (ascend e (order_key e s + 1) ss) a))

  pub past : (h k : ℕ) → On e h → k < lo_of e h → All (λ s. k < lo_of e s) (chain_from e h)
  past h k on lt = rw on.whole (lt, all_past k (order_key e h + 1) (chain_from e (next_of e h)) (omega arith) on.after)
