-- A write is the operation whose record it is; what a flush and a tick do before their pass.
use mathlib.Core.Path.{◌≡◌, refl, sym}
use mathlib.Core.List.{List}
use Prim.Native.Nat.{ℕ}
use Rattle.lists.specs.All.{Exists}
use Rattle.model.specs.declared.Tally.{Tally}
use Rattle.model.specs.Steps.{begin, merge_level}
use Rattle.model.specs.Calls.{Op, written, flush, tick, prepared}
use Rattle.tables.specs.Placed.{read_state}
use Rattle.merge_levels.specs.Laid.{Laid, Worked}
use Rattle.write_record.specs.declared.Record.{Record}
use Rattle.call_op.specs.declared.Work.TheVariants.{Write}
use Rattle.call_op.specs.Works.{work_of}
use Rattle.call_op.proofs.Known.{is_written}
use Rattle.call_refusal.specs.Began.{Began, store}
use Rattle.call_prepare.specs.Writing.{Writes, Done}

-- An operation whose work is a record is a write of that record.
pub writes : {e l : List ℕ} {t : ℕ} (o : Op Tally) {w : Record} → Began e l t o → Write w ≡ work_of o → Exists (λ v. (o ≡ written v) × Writes v e l t w)
writes o b is =
    let x = is_written o (sym is) in
    record { value = x.value; has = (x.has.0, record { began = rw x.has.0 at b; write_is = x.has.1 }) }

-- A flush has merged the buffer when its pass begins, a tick nothing.
module _ {e l : List ℕ} {t : ℕ} {e' l' : List ℕ} where
  pub flushes : {m : ℕ} → Worked (store e l t) (merge_level 0 (begin (read_state e l))) e' l' m → Done e l t flush e' l' m
  unfolding prepared
  flushes w = record { slot = refl; works = w }

  pub ticks : Laid (store e l t) e' l' → Done e l t tick e' l' 0
  unfolding prepared
  ticks d = record { slot = refl; works = record { laid = d; counts = refl } }
