-- `check_tables`: each return is one of the definition's four cases; the marks lent are 8,192 zeros, a bit for each slot.
use Rattle.std.proofs.Common.{sym, arith}
use Rattle.tables.proofs.Lengths.{table_facts, deepest_high}
use Rattle.check_refusal.proofs.Answer.{answer_1, answer_2, answer_3, answer_0}
use Rattle.check_refusal.proofs.Tables.{entries_known, few_slots}
use Rattle.check_refusal.proofs.check_tables.Goals as goal

pub returns-then-not-entries_fit : goal.returns-then-not-entries_fit
returns-then-not-entries_fit c = answer_1 _ _ (sym c.if-not-entries_fit.ensures)

pub returns-then-not-levels_fit : goal.returns-then-not-levels_fit
returns-then-not-levels_fit c = answer_2 _ _ (sym c.if-not-entries_fit.ensures) (sym c.if-not-levels_fit.ensures)

pub chains_fit-requires : goal.chains_fit-requires
chains_fit-requires c =
    let entries = sym c.if-not-entries_fit.ensures in
    let levels = sym c.if-not-levels_fit.ensures in
    record { entries = entries_known _ entries; e_bound = omega (arith, few_slots _ entries); l_bound = deepest_high _ levels; l_len = (table_facts _ levels).number }

pub returns-then-not-chains_fit : goal.returns-then-not-chains_fit
returns-then-not-chains_fit c =
    let entries = sym c.if-not-entries_fit.ensures in
    answer_3 _ _ 8192 (few_slots _ entries) entries (sym c.if-not-levels_fit.ensures) c.chains_fit.ensures c.if-not-chains_fit.true

pub returns : goal.returns
returns c =
    let entries = sym c.if-not-entries_fit.ensures in
    answer_0 _ _ 8192 (few_slots _ entries) entries (sym c.if-not-levels_fit.ensures) c.chains_fit.ensures c.if-not-chains_fit.false
