-- What the readers of include/guontrem.h take out of an answer's number, operation by operation: `>> n` divides by 2^n, the cast to uint32_t and a mask
-- are the remainder by 2^32 and by one more than the mask; `>>` binds closer than `&` and `!=`.
use Rattle.std.specs.Prelude.{cond, ℕ, ◌/◌, ◌%◌, eqb, Option, None, Some, Result, Ok, Err}
use Rattle.model.specs.Calls as model
use Rattle.lookup.specs.Counts.{CountNumbers}
use Rattle.scan.specs.Scan as scans

-- `guontrem_timed_refusal` is `(uint32_t)(answer >> 40)`, `_merges` `(uint32_t)(answer >> 32 & 0xff)`, `_purged` `(uint32_t)answer`.
-- What a mask leaves has room in the cast.
abbrev pub read_timed : ℕ → model.Answer
read_timed n = record { refusal = n / 1099511627776 % 4294967296; merges = n / 4294967296 % 256; purged = n % 4294967296 }

-- `guontrem_lookup_found` is `answer >> 32 != 0`. Found: `_count_of` is `(uint32_t)answer`, `_refusal` 0; else the other way round.
-- `_stamp` is `(uint32_t)(answer >> 32)`.
abbrev pub read_lookup : ℕ → CountNumbers
read_lookup n = record {
  refusal = cond (eqb (n / 4294967296) 0) (n % 4294967296) 0;
  found = cond (eqb (n / 4294967296) 0) 0 1;
  count = cond (eqb (n / 4294967296) 0) 0 (n % 4294967296);
  stamp = n / 4294967296 % 4294967296;
}

-- `guontrem_wake_due` is `answer >> 63 == 0`. Due: `_clock` is the answer, `_refusal` 0; else `_clock` is 2^63, which is none, `_refusal` is `(uint32_t)answer`.
abbrev pub read_wake : ℕ → Result (Option ℕ) ℕ
read_wake n = cond (eqb (n / 9223372036854775808) 0) (Ok (Some n)) (cond (eqb (n % 4294967296) 0) (Ok None) (Err (n % 4294967296)))

-- `guontrem_scan_refusal` is `(uint32_t)(answer >> 56)`, `_count` `(uint32_t)answer`, `_more` `(int)(answer >> 48 & 1)`,
-- `_next` `(uint32_t)(answer >> 32 & 0xffff)`.
abbrev pub read_scan : ℕ → scans.Numbers
read_scan n = record {
  refusal = n / 72057594037927936 % 4294967296;
  count = n % 4294967296;
  more = eqb (n / 281474976710656 % 2) 1;
  next = n / 4294967296 % 65536;
}
