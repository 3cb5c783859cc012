-- `merge_strike::strike`: the loop keeps true that whatever chains met at the start, striking them has come to `m`.
use mathlib.Core.Path.{refl}
use borrow.Author.Rules.{rules}
use Rattle.merge_strike.proofs.Strikes.{strike_of, upper-ranges, striking_begins, striking_ends}
use Rattle.merge_strike.proofs.strike.Goals as goal

pub front_at-requires : goal.front_at-requires
front_at-requires c =
    upper-ranges c.requires.value _ _ _ _ c.requires.has

pub loop-m-init : goal.loop-m-init
loop-m-init c =
    (refl, λ g h. rw c.at_start.ensures (striking_begins g _ _ _ _ _ c.front_at.ensures h))

pub strike_step-m-requires : goal.strike_step-m-requires
strike_step-m-requires c =
    let h = c.requires in
    record { exists = record { value = strike_of h.value; has = c.loop-m.invariant.1 h.value h.has }; at_nonzero = c.loop-m-test.true }

pub loop-m-smaller : goal.loop-m-smaller
loop-m-smaller c =
    (c.strike_step-m.ensures (strike_of c.requires.value) (c.loop-m.invariant.1 c.requires.value c.requires.has)).1

pub loop-m-preserved : goal.loop-m-preserved
loop-m-preserved c =
    (search rules, λ g h. (c.strike_step-m.ensures (strike_of g) (c.loop-m.invariant.1 g h)).0)

pub returns : goal.returns
returns c =
    λ g h. striking_ends g _ _ (c.loop-m.invariant.1 g h) c.loop-m-test.false
