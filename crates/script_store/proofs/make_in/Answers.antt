-- `script_store::make_in`: the making is lent as many words as the store that it asks for has, and the store is that one only where it is accepted.
use Rattle.refusals.specs.Numbers.{refusal_of}
use Rattle.settings.specs.declared.Settings.{Settings}
use Rattle.script_store.proofs.Makes.{make_refused, make_accepted, accepted_shallow}
use Rattle.script_store.proofs.make_in.Goals as goal

pub returns-clause-refused : goal.returns-clause-refused
returns-clause-refused c =
    let a = c.args in
    let s : Settings = record { deepest = a.deepest; ratio = a.ratio; buffer = a.buffer; term = a.term } in
    λ refused n d. make_refused c.requires.room n d a.slots s c.requires.few c.entry_length-words.ensures c.level_room-rows.ensures
    (refusal_of c.make.result) c.make.new.entries c.make.new.levels c.make.ensures refused

pub returns-clause-accepted : goal.returns-clause-accepted
returns-clause-accepted c =
    let a = c.args in
    let s : Settings = record { deepest = a.deepest; ratio = a.ratio; buffer = a.buffer; term = a.term } in
    λ accepted n d. make_accepted c.requires.room n d a.slots s c.requires.few c.entry_length-words.ensures c.level_room-rows.ensures
    (refusal_of c.make.result) c.make.new.entries c.make.new.levels c.make.ensures accepted c.make.auto.entries c.make.auto.levels

pub returns-clause-shallow : goal.returns-clause-shallow
returns-clause-shallow c =
    let a = c.args in
    let s : Settings = record { deepest = a.deepest; ratio = a.ratio; buffer = a.buffer; term = a.term } in
    λ accepted. accepted_shallow _ _ s (refusal_of c.make.result) _ _ c.make.ensures accepted
