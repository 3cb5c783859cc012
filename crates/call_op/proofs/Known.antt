-- An operation is known by its work, but for which write makes the record.
use mathlib.Core.Path.{◌≡◌, refl, sym, ap}
use Prim.Native.Nat.{ℕ}
use native.Mathlib.Omega.{arith}
use Rattle.lists.specs.All.{Exists}
use Rattle.model.specs.declared.Tally.{Tally}
use Rattle.model.specs.Calls.{Op, written, flush, tick}
use Rattle.write_record.specs.declared.Record.{Record}
use Rattle.write_record.specs.Records.{record_of}
use Rattle.call_op.specs.declared.Work as code
use Rattle.call_op.specs.declared.Work.TheVariants.{Merge, Nothing}
use Rattle.call_op.specs.Works.{work_of}

-- One number for each kind of work, and the record of a write.
abbrev tag : code.Work → ℕ
tag (code.TheVariants.Write w) = 0
tag Merge = 1
tag Nothing = 2

abbrev record_in : Record → code.Work → Record
record_in other (code.TheVariants.Write w) = w
record_in other Merge = other
record_in other Nothing = other

pub is_written : (o : Op Tally) {w : Record} → work_of o ≡ code.TheVariants.Write w → Exists (λ v. (o ≡ written v) × (w ≡ record_of v))
is_written (written v) {w} is = record { value = v; has = (refl, sym (ap (record_in w) is)) }
is_written flush is = absurd (omega (arith, ap tag is))
is_written tick is = absurd (omega (arith, ap tag is))

pub is_flush : (o : Op Tally) → work_of o ≡ Merge → o ≡ flush
is_flush (written v) is = absurd (omega (arith, ap tag is))
is_flush flush is = refl
is_flush tick is = absurd (omega (arith, ap tag is))

pub is_tick : (o : Op Tally) → work_of o ≡ Nothing → o ≡ tick
is_tick (written v) is = absurd (omega (arith, ap tag is))
is_tick flush is = absurd (omega (arith, ap tag is))
is_tick tick is = refl
