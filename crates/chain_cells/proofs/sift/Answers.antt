-- `chain_cells::sift`: the cell at the cursor is passed, or goes with nothing before it, or goes from after another; each way the walk stands on.
use mathlib.Core.Path.{sym, ap, ◌∙◌}
use mathlib.Core.List.{List}
use Prim.Native.Nat.{ℕ}
use native.Mathlib.Omega.{arith}
use borrow.Author.Tests.{not-true, not-false}
use lib.ListN.{length}
use Rattle.chain_links.specs.Links.{linked}
use Rattle.chain_links.proofs.Links.{length-released}
use Rattle.chain_cells.proofs.Sieves.{cursor_fits, sift_passes, sift_drops_first, sift_drops_after}
use Rattle.chain_cells.proofs.sift.Goals as goal

pub next_of-next-requires : goal.next_of-next-requires
next_of-next-requires c =
    omega (arith, cursor_fits _ _ c.requires.exists)

pub returns-then-not-goes : goal.returns-then-not-goes
returns-then-not-goes c =
    let stays = not-true c.args.goes c.if-not-goes.true-raw in
    λ g w q. sift_passes g _ _ c.requires.at_nonzero _ c.next_of-next.ensures (sym q ∙ stays) _ _ _ w.here

pub release-requires : goal.release-requires
release-requires c =
    let fits = cursor_fits _ _ c.requires.exists in record { in_table = omega arith; slot_bound = omega arith }

pub overflow_add-gone : goal.overflow_add-gone
overflow_add-gone c =
    omega (arith, cursor_fits _ _ c.requires.exists)

pub returns-then-m-eq0 : goal.returns-then-m-eq0
returns-then-m-eq0 c =
    let goes = not-false c.args.goes c.if-not-goes.false-raw in
    λ g w q. sift_drops_first g _ _ c.requires.at_nonzero _ c.next_of-next.ensures _
    (sym q ∙ goes) c.if-m-eq0.true c.release.ensures _ _ _ w.here

pub set_next-requires : goal.set_next-requires
set_next-requires c =
    let fits = cursor_fits _ _ c.requires.exists in
    let length≡ = ap length c.release.ensures ∙ length-released _ _ in
    record { in_table = omega arith; next_bound = omega (arith, c.next_of-next.ensures) }

pub returns-else-m-eq0 : goal.returns-else-m-eq0
returns-else-m-eq0 c =
    let m = c.args.m in
    let goes = not-false c.args.goes c.if-not-goes.false-raw in
    let relinked = ap (λ (t : List ℕ). linked t m.prior c.next_of-next.result) c.release.ensures in
    λ g w q. sift_drops_after g _ m c.requires.at_nonzero _ c.next_of-next.ensures _
    (sym q ∙ goes) c.if-m-eq0.false (c.set_next.ensures ∙ relinked) _ _ _ w.here
