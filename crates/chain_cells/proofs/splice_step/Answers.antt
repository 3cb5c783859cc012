-- `chain_cells::splice_step`: the cursor passes a cell that comes first, or the upper cell becomes the head or is placed after another; each way less is left.
use mathlib.Core.Path.{ap, ◌∙◌}
use mathlib.Core.Logic.{inl, inr}
use mathlib.Core.List.{List}
use Prim.Native.Nat.{ℕ}
use native.Mathlib.Omega.{arith}
use lib.ListN.{length}
use Rattle.chain_links.specs.Links.{linked}
use Rattle.chain_links.proofs.Links.{length-linked}
use Rattle.chain_cells.proofs.Splices.{pair_fits, Comes, splice_passes, splice_first, splice_after}
use Rattle.chain_cells.proofs.splice_step.Goals as goal
use Rattle.chain_cells.proofs.splice_step.Goals.{else-m-ne0-via-then-m-ne0+else-order_key, else-m-ne0-via-else-m-ne0}

pub order_key-requires : goal.order_key-requires
order_key-requires c =
    omega (arith, pair_fits _ _ c.requires.exists)

pub order_key-requires-then-m-ne0 : goal.order_key-requires-then-m-ne0
order_key-requires-then-m-ne0 c =
    omega (arith, pair_fits _ _ c.requires.exists)

pub next_of-next-requires : goal.next_of-next-requires
next_of-next-requires c =
    omega (arith, pair_fits _ _ c.requires.exists)

pub returns-then-order_key : goal.returns-then-order_key
returns-then-order_key c =
    λ g w. splice_passes g _ _ _ c.next_of-next.ensures c.if-m-ne0.true c.requires.upper_nonzero
    (omega (arith, c.order_key.ensures, c.order_key-then-m-ne0.ensures, c.if-order_key.true)) _ _ _ w.here

pub next_of-upper-requires : goal.next_of-upper-requires
next_of-upper-requires c =
    omega (arith, pair_fits _ _ c.requires.exists)

pub set_next-requires : goal.set_next-requires
set_next-requires c =
    let fits = pair_fits _ _ c.requires.exists in record { in_table = omega arith; next_bound = omega arith }

pub returns-then-m-eq0 : goal.returns-then-m-eq0
returns-then-m-eq0 c =
    let upper_comes : Comes c.args.e.now c.args.m = elim c.else-m-ne0.branch [
      | else-m-ne0-via-then-m-ne0+else-order_key w ↦ inr (omega (arith, w.order_key.ensures, w.order_key-then-m-ne0.ensures, w.if-order_key.false))
      | else-m-ne0-via-else-m-ne0 w ↦ inl w.if-m-ne0.false
    ] in
    λ g w. splice_first g _ _ _ _ c.next_of-upper.ensures c.requires.upper_nonzero upper_comes
    c.if-m-eq0.true c.set_next.ensures _ _ _ w.here

pub set_next-requires-else-m-eq0 : goal.set_next-requires-else-m-eq0
set_next-requires-else-m-eq0 c =
    let fits = pair_fits _ _ c.requires.exists in
    let length≡ = ap length c.set_next.ensures ∙ length-linked _ _ _ in
    record { in_table = omega arith; next_bound = omega arith }

pub returns-else-m-eq0 : goal.returns-else-m-eq0
returns-else-m-eq0 c =
    let m = c.args.m in
    let upper_comes : Comes c.args.e.now m = elim c.else-m-ne0.branch [
      | else-m-ne0-via-then-m-ne0+else-order_key w ↦ inr (omega (arith, w.order_key.ensures, w.order_key-then-m-ne0.ensures, w.if-order_key.false))
      | else-m-ne0-via-else-m-ne0 w ↦ inl w.if-m-ne0.false
    ] in
    let relinked = ap (λ (t : List ℕ). linked t m.prior m.upper) c.set_next.ensures in
    λ g w. splice_after g _ m _ _ c.next_of-upper.ensures c.requires.upper_nonzero upper_comes
    c.if-m-eq0.false (c.set_next-else-m-eq0.ensures ∙ relinked) _ _ _ w.here
