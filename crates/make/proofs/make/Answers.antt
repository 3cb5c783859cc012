-- `make`: each return is one case of the definition: refusals 1, 6 and 2, and the made store.
use Rattle.std.proofs.Common.{sym, ap, ◌∙◌, rules}
use Rattle.settings.specs.declared.Settings.{Settings}
use Rattle.settings.proofs.Answers.{accepted_same, accepted_settings, refused_settings}
use Rattle.tables.specs.Slots.{entry_length}
use Rattle.tables.specs.Rows.{level_length}
use Rattle.tables.proofs.Lengths.{entries_facts}
use Rattle.make.proofs.Answers.{made_not_fitting, made_not_allowed, made_other_length, made_accepted}
use Rattle.make.proofs.make.Goals as goal

pub returns-then-not-entries_fit : goal.returns-then-not-entries_fit
returns-then-not-entries_fit c = sym (made_not_fitting _ _ _ (sym c.if-not-entries_fit.ensures))

pub returns-in_err-settings : goal.returns-in_err-settings
returns-in_err-settings c =
    let refused = refused_settings _ (sym c.new.ensures ∙ c.in_err-settings.was) in
    let answer = made_not_allowed c.args.entries.now c.args.levels.now _ (sym c.if-not-entries_fit.ensures) refused.0 in
    search rules

pub returns-then-levels-level_length : goal.returns-then-levels-level_length
returns-then-levels-level_length c =
    sym
    (made_other_length _ _ _ (sym c.if-not-entries_fit.ensures) (accepted_settings _ _ (sym c.new.ensures ∙ c.in_ok-settings.was))
    (λ q. c.if-levels-level_length.true (q ∙ sym c.level_length.ensures)))

pub free_slots-requires : goal.free_slots-requires
free_slots-requires c =
    let f = entries_facts _ (sym c.if-not-entries_fit.ensures) in
    (f.number ∙ ap entry_length (sym c.slot_count.ensures), rw c.slot_count.ensures f.slots_high)

pub lay_levels-requires : goal.lay_levels-requires
lay_levels-requires c =
    let same = accepted_same _ _ (sym c.new.ensures ∙ c.in_ok-settings.was) in
    c.if-levels-level_length.false ∙ c.level_length.ensures ∙ ap (λ (s : Settings). level_length s.deepest) (sym same)

pub returns : goal.returns
returns c =
    let accepted = sym c.new.ensures ∙ c.in_ok-settings.was in
    rw (c.free_slots.ensures, c.lay_levels.ensures, accepted_same _ _ accepted, c.slot_count.ensures)
    (sym (made_accepted _ _ _ (sym c.if-not-entries_fit.ensures) (accepted_settings _ _ accepted) (c.if-levels-level_length.false ∙ c.level_length.ensures)))
