-- `script_buffer::Script::new`: the store's room is all zeros, and there is no store.
use Rattle.script_store.specs.Coded.{memory}
use Rattle.script_buffer.proofs.Script.new.Goals as goal

pub returns-clause-memory : goal.returns-clause-memory
returns-clause-memory g c =
    let fresh = c.new.ensures in
    λ j. memory (fresh.entries j) (fresh.levels j) (fresh.no_slots j) (fresh.no_levels j)
