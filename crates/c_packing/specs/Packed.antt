-- Answers as one 64-bit number.
use Rattle.std.specs.Prelude.{cond, ℕ, ◌+◌, ◌*◌, Option, None, Some, Result, Ok, Err}
use Rattle.model.specs.Calls as model
use Rattle.model.specs.declared.Tally.{Tally}
use Rattle.lookup.specs.Lookup.{Answer, numbers}
use Rattle.lookup.specs.Counts.{count_numbers, without_price}
use Rattle.scan.specs.Scan as scans
use Rattle.call_tables.specs.Calls.{Tables, Called}

-- The grower's lookup's, by document 01's numbers of it: count and stamp in its halves; a refusal, which has neither, in the lower one.
abbrev pub packed : Answer ℕ → ℕ
packed a = let n = count_numbers a in n.refusal + n.count + 4294967296 * n.stamp

-- The hall's: the same number, and the price in a place of its own.
pub record PackedLookup : Type 0 where
  pub number : ℕ
  pub price : ℕ

abbrev pub packed_lookup : Answer Tally → PackedLookup
packed_lookup a = record { number = packed (without_price a); price = (numbers a).price }

-- A timed call's: purged in the lower half, merges from bit 32, the refusal from bit 40.
abbrev pub answer_number : model.Answer → ℕ
answer_number r = r.purged + 4294967296 * r.merges + 1099511627776 * r.refusal

pub record PackedCall : Type 0 where
  pub tables : Tables
  pub number : ℕ

abbrev pub packed_call : Called → PackedCall
packed_call r = record { tables = r.tables; number = answer_number r.answer }

-- When to wake: the clock itself, which has 33 bits at most; else bit 63, for none alone, with a refusal below it. So none is after every clock.
abbrev pub packed_wake : Result (Option ℕ) ℕ → ℕ
packed_wake (Err n) = 9223372036854775808 + n
packed_wake (Ok None) = 9223372036854775808
packed_wake (Ok (Some m)) = m

-- A scan's: the count in the lower half, the next docket from bit 32, 'more' as bit 48, the refusal from bit 56.
abbrev pub packed_scan : scans.Numbers → ℕ
packed_scan a = a.count + 4294967296 * a.next + cond a.more 281474976710656 0 + 72057594037927936 * a.refusal
