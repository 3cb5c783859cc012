-- The header's readers give the parts of every answer whose numbers have room.
use mathlib.Core.Path.{◌≡◌, refl, ap, ◌∙◌}
use mathlib.Core.Bool.{Bool, true, false, cond}
use Prim.Native.Nat.{ℕ, ◌+◌, ◌*◌, ◌/◌, ◌%◌, ◌<◌, ◌≤◌}
use native.Mathlib.Nat.{mod-eq_of_lt}
use native.Mathlib.Omega.{arith}
use lib.Dec.{eqb}
use lib.Arith.{digits_div, digits_mod}
use borrow.Author.Tests.{ne_eqb}
use Rattle.model.specs.Calls as model
use Rattle.std.proofs.Common.{Some, Ok, Err}
use Rattle.lookup.specs.Lookup.{Refused, Found}
use Rattle.lookup.specs.Counts.{count_numbers}
use Rattle.scan.specs.Scan as scans
use Rattle.c_packing.specs.Packed.{packed, answer_number, packed_scan}
use Rattle.c_packing.specs.Readers.{read_timed, read_lookup, read_wake, read_scan}

-- Of a number that is q times m and less than m more: above m it is q, below it the rest.
module _ (n q m r : ℕ) (is : n ≡ q * m + r) (low : r < m) where
  above : n / m ≡ q
  above = ap (λ x. x / m) is ∙ digits_div q low

  below : n % m ≡ r
  below = ap (λ x. x % m) is ∙ digits_mod q low

module _ (r : model.Answer) (f : r.refusal < 256) (m : r.merges < 256) (p : r.purged < 4294967296) where
  purged_is : (read_timed (answer_number r)).purged ≡ r.purged
  purged_is = below (answer_number r) (r.refusal * 256 + r.merges) _ r.purged (omega arith) p

  merges_is : (read_timed (answer_number r)).merges ≡ r.merges
  merges_is = below _ r.refusal _ r.merges (above (answer_number r) (r.refusal * 256 + r.merges) _ r.purged (omega arith) p) m

  refusal_is : (read_timed (answer_number r)).refusal ≡ r.refusal
  refusal_is =
      ap (λ x. x % 4294967296) (above (answer_number r) r.refusal _ (r.purged + 4294967296 * r.merges) (omega arith) (omega arith))
      ∙ mod-eq_of_lt (omega arith)

  pub timed_read : read_timed (answer_number r) ≡ r
  timed_read = rw (refusal_is, merges_is, purged_is)

-- A refusal stands in the lower half alone, and a docket that is found has a stamp.
pub refused_read : (n : ℕ) → n < 4294967296 → read_lookup (packed (Refused n)) ≡ count_numbers (Refused n)
refused_read n low = rw (above (packed (Refused n)) 0 4294967296 n (omega arith) low, below (packed (Refused n)) 0 4294967296 n (omega arith) low)

pub found_read : (count stamp : ℕ) → count < 4294967296 → 1 ≤ stamp → stamp < 4294967296
    → read_lookup (packed (Found count stamp)) ≡ count_numbers (Found count stamp)
found_read count stamp low some high =
    rw (
      above (packed (Found count stamp)) stamp 4294967296 count (omega arith) low,
      below (packed (Found count stamp)) stamp 4294967296 count (omega arith) low,
      ne_eqb stamp 0 (omega arith),
      mod-eq_of_lt high,
    )

-- A clock has no bit 63; a refusal stands below it, and none has nothing there.
pub clock_read : (m : ℕ) → m < 9223372036854775808 → read_wake m ≡ Ok (Some m)
clock_read m low = rw (above m 0 9223372036854775808 m (omega arith) low)

pub no_clock_read : (n : ℕ) → 1 ≤ n → n < 4294967296 → read_wake (9223372036854775808 + n) ≡ Err n
no_clock_read n some low =
    rw (
      above (9223372036854775808 + n) 1 9223372036854775808 n (omega arith) (omega arith),
      below (9223372036854775808 + n) 2147483648 4294967296 n (omega arith) low,
      ne_eqb n 0 (omega arith),
    )

-- 'more' as a bit.
abbrev bit : Bool → ℕ
bit b = cond b 1 0

bit_low : (b : Bool) → bit b < 2
bit_low true = omega arith
bit_low false = omega arith

bit_read : (b : Bool) → eqb (bit b) 1 ≡ b
bit_read true = refl
bit_read false = refl

module _ (a : scans.Numbers) (c : a.count < 4294967296) (n : a.next < 65536) (r : a.refusal < 256) where
  sum_is : packed_scan a ≡ ((a.refusal * 256 + bit a.more) * 65536 + a.next) * 4294967296 + a.count
  sum_is = go a.more
    where
      go : (b : Bool) → a.count + 4294967296 * a.next + cond b 281474976710656 0 + 72057594037927936 * a.refusal
          ≡ ((a.refusal * 256 + bit b) * 65536 + a.next) * 4294967296 + a.count
      go true = omega arith
      go false = omega arith

  count_is : (read_scan (packed_scan a)).count ≡ a.count
  count_is = below (packed_scan a) ((a.refusal * 256 + bit a.more) * 65536 + a.next) _ a.count sum_is c

  next_is : (read_scan (packed_scan a)).next ≡ a.next
  next_is =
      below _ (a.refusal * 256 + bit a.more) _ a.next
      (above (packed_scan a) ((a.refusal * 256 + bit a.more) * 65536 + a.next) _ a.count sum_is c) n

  more_is : (read_scan (packed_scan a)).more ≡ a.more
  more_is =
      ap (λ x. eqb (x % 2) 1) (above (packed_scan a) (a.refusal * 256 + bit a.more) _ (a.next * 4294967296 + a.count) (omega (arith, sum_is)) (omega arith))
      ∙ ap (λ x. eqb x 1) (below (a.refusal * 256 + bit a.more) (a.refusal * 128) 2 (bit a.more) (omega arith) (bit_low a.more)) ∙ bit_read a.more

  refusal_scan : (read_scan (packed_scan a)).refusal ≡ a.refusal
  refusal_scan =
      ap (λ x. x % 4294967296) (above (packed_scan a) a.refusal _ (bit a.more * 281474976710656 + a.next * 4294967296 + a.count)
      (omega (arith, sum_is)) (omega (arith, bit_low a.more)))
      ∙ mod-eq_of_lt (omega arith)

  pub scan_read : read_scan (packed_scan a) ≡ a
  scan_read = rw (refusal_scan, count_is, more_is, next_is)
