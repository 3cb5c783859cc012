-- `script_store::Store::run_make`: the store has the size that was asked for only where the making is accepted.
use Rattle.std.proofs.Common.{rules, ap, ◌∙◌}
use Rattle.settings.specs.declared.Settings.{Settings}
use Rattle.script_store.specs.Coded.{Room, answering}
use Rattle.script_store.specs.Stores.{stepped_to}
use Rattle.script_store.proofs.Makes.{too_many}
use Rattle.script_store.proofs.Store.run_make.Goals as goal

pub returns-then-slots-gt-MOST_SLOTS : goal.returns-then-slots-gt-MOST_SLOTS
returns-then-slots-gt-MOST_SLOTS c =
    let a = c.args in
    let store = a.self.now in
    let room : Room store.entries store.levels = record { entry_room = search rules; level_room = search rules } in
    let s : Settings = record { deepest = a.deepest; ratio = a.ratio; buffer = a.buffer; term = a.term } in
    ap (stepped_to store) (c.alone.ensures ∙ ap answering c.number.ensures)
    ∙ too_many room store.size.slots store.size.deepest a.slots s c.if-slots-gt-MOST_SLOTS.true
