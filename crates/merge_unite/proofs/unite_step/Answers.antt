-- `merge_unite::unite_step`: an upper range that comes first is passed; else the lower one at the cursor goes where the two are alike, and stays where not.
use mathlib.Core.Path.{sym, ◌∙◌}
use mathlib.Core.Bool.{true, false}
use native.Mathlib.Omega.{arith}
use borrow.Author.Rules.{rules}
use Rattle.merge_unite.proofs.Places.{upper_in_table, lower_in_table}
use Rattle.merge_unite.proofs.Steps.{passes_upper, passes_lower, alone_last, alone_before}
use Rattle.merge_unite.proofs.Meets.{alike_seen, alike_sees}
use Rattle.merge_unite.proofs.unite_step.Goals as goal

pub returns-then-m-eq0 : goal.returns-then-m-eq0
returns-then-m-eq0 c =
    λ g u. passes_lower false g _ _ _ _ c.sift.ensures (alone_last g _ _ c.requires.at_nonzero u c.if-m-eq0.true)

pub order_key-upper-requires : goal.order_key-upper-requires
order_key-upper-requires c =
    upper_in_table _ _ _ c.requires.exists.has

pub order_key-lower-requires : goal.order_key-lower-requires
order_key-lower-requires c =
    lower_in_table _ _ _ c.requires.exists.has

pub next_of-requires : goal.next_of-requires
next_of-requires c =
    upper_in_table _ _ _ c.requires.exists.has

pub returns-then-upper-lower : goal.returns-then-upper-lower
returns-then-upper-lower c =
    λ g u. passes_upper g _ _ _ c.next_of.ensures c.requires.at_nonzero c.if-m-eq0.false
    (omega (arith, c.order_key-upper.ensures, c.order_key-lower.ensures, c.if-upper-lower.true)) u

pub take_later-requires : goal.take_later-requires
take_later-requires c =
    let u = c.requires.exists.has in
    let upper = upper_in_table _ _ _ u in
    let lower = lower_in_table _ _ _ u in
    search rules

pub sift-requires-then-upper-lower-2 : goal.sift-requires-then-upper-lower-2
sift-requires-then-upper-lower-2 c =
    let alike = sym c.order_key-upper.ensures ∙ c.if-upper-lower-2.true ∙ c.order_key-lower.ensures in
    let seen = alike_seen _ _ _ c.args.m c.requires.at_nonzero c.if-m-eq0.false alike c.take_later.ensures c.requires.exists.has in
    record { exists = record { value = _; has = seen.uniting.sifting }; at_nonzero = c.requires.at_nonzero }

pub returns-then-upper-lower-2 : goal.returns-then-upper-lower-2
returns-then-upper-lower-2 c =
    let alike = sym c.order_key-upper.ensures ∙ c.if-upper-lower-2.true ∙ c.order_key-lower.ensures in
    λ g u.
    let seen = alike_seen g _ _ c.args.m c.requires.at_nonzero c.if-m-eq0.false alike c.take_later.ensures u in
    let same = alike_sees g _ _ c.args.m c.requires.at_nonzero c.if-m-eq0.false alike c.take_later.ensures u in
    let on = passes_lower true g _ _ _ _ c.sift-then-upper-lower-2.ensures seen in
    (on.0, omega (arith, same, on.1))

pub returns-else-upper-lower-2 : goal.returns-else-upper-lower-2
returns-else-upper-lower-2 c =
    λ g u. passes_lower false g _ _ _ _ c.sift-else-upper-lower-2.ensures
    (alone_before g _ _ c.requires.at_nonzero u c.if-m-eq0.false
    (omega (arith, c.order_key-upper.ensures, c.order_key-lower.ensures, c.if-upper-lower.false, c.if-upper-lower-2.false)))
