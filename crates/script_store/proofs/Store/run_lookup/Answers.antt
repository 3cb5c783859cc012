-- `script_store::Store::run_lookup`: the lookup reads the words of the store alone, and its answer's numbers are printed.
use Rattle.std.proofs.Common.{rules}
use Rattle.script_store.specs.Coded.{Room}
use Rattle.script_store.proofs.Turns.{found}
use Rattle.script_store.proofs.Store.run_lookup.Goals as goal

pub returns : goal.returns
returns c =
    let store = c.args.self.now in
    let room : Room store.entries store.levels = record { entry_room = search rules; level_room = search rules } in
    found room store.size c.entry_length-words.ensures c.level_length-rows.ensures c.args.key _ c.lookup.ensures.value c.looked_up.ensures
