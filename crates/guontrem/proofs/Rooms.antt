-- The answer of a scan has room in one number, whatever its rows are.
use mathlib.Core.Path.{◌≡◌, ap}
use mathlib.Core.List.{List}
use Prim.Native.Nat.{ℕ, ◌<◌}
use native.Mathlib.Omega.{arith}
use Rattle.scan.specs.Scan.{Numbers, Outcome}
use Rattle.c_packing.specs.Packed.{packed_scan}
use Rattle.scan.proofs.Bounds.{AnswerLow}

module _ {R : Type 0} (o : Outcome R) (low : AnswerLow o.answer) (a : Numbers) (zs : List R)
    (is : ◌≡◌ {A = Outcome R} (record { answer = a; rows = zs }) o) where
  -- What `pack_scanned` asks of an answer.
  pub packable : (a.count < 4294967296) × (a.next < 65536)
  packable = rw (ap (λ (o : Outcome R). o.answer) is) (omega (arith, low.0), omega (arith, low.1))

  pub packs : (n : ℕ) → n ≡ packed_scan a → record { value : n ≡ packed_scan o.answer; rows_after : zs ≡ o.rows }
  packs n q = record { value = rw q (ap (λ (o : Outcome R). packed_scan o.answer) is); rows_after = ap (λ (o : Outcome R). o.rows) is }
