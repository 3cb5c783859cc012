-- What the levels hold for a docket.
use Rattle.std.specs.Prelude.{Option, None, Some}
use Rattle.model.specs.Lookup as model
use Rattle.lookup_level.specs.declared.Found.{Found}

-- What is found, as the model gives it.
abbrev pub found_of : {A : Type 0} → Option (Found A) → model.Found A
found_of None = model.absent
found_of (Some f) = model.found f.shown f.stamp
