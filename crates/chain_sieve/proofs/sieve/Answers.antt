-- `chain_sieve::sieve`: the loop keeps true that whatever chain the table held at first is on its way through the sieve, at the cursor, by whatever test decides.
use mathlib.Core.Path.{refl}
use borrow.Author.Rules.{rules}
use Rattle.chain_cells.proofs.Sieves.{cursor_fits, sifting_begins, sifting_ends}
use Rattle.chain_sieve.proofs.sieve.Goals as goal

pub loop-m-init : goal.loop-m-init
loop-m-init g c =
    (refl, λ h test d o. rw c.at_start-m.ensures (sifting_begins test h _ _ o))

pub goes-doomed-requires : goal.goes-doomed-requires
goes-doomed-requires g c =
    let x = c.requires.held in
    let d = c.requires.decides in
    let on_the_way = c.loop-m.invariant.1 x.value d.value d.has x.has in
    d.has.may _ _ (cursor_fits _ _ (record { value = _; has = on_the_way })).at_in_table

pub sift-m-requires : goal.sift-m-requires
sift-m-requires g c =
    let x = c.requires.held in
    let d = c.requires.decides in
    record { exists = record { value = _; has = c.loop-m.invariant.1 x.value d.value d.has x.has }; at_nonzero = c.loop-m-test.true }

pub loop-m-smaller : goal.loop-m-smaller
loop-m-smaller g c =
    let x = c.requires.held in
    let d = c.requires.decides in
    let on_the_way = c.loop-m.invariant.1 x.value d.value d.has x.has in
    let fits = cursor_fits _ _ (record { value = _; has = on_the_way }) in
    (c.sift-m.ensures _ on_the_way (d.has.says _ _ _ fits.at_in_table c.goes-doomed.ensures)).1

pub loop-m-preserved : goal.loop-m-preserved
loop-m-preserved g c = (
  search rules,
  λ h test d o.
      let on_the_way = c.loop-m.invariant.1 h test d o in
      let fits = cursor_fits _ _ (record { value = _; has = on_the_way }) in
      (c.sift-m.ensures _ on_the_way (d.says _ _ _ fits.at_in_table c.goes-doomed.ensures)).0,
)

pub returns : goal.returns
returns g c =
    λ h test d o. sifting_ends _ _ _ _ (c.loop-m.invariant.1 h test d o) c.loop-m-test.false
