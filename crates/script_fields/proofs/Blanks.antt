-- A field by its blank; 32 is the byte of a blank.
use mathlib.Core.Path.{◌≡◌}
use mathlib.Core.List.{List}
use Prim.Native.Nat.{ℕ, ◌+◌, ◌≤◌, ◌<◌}
use native.Mathlib.Numerals.{add-one}
use borrow.Author.Tests.{eq-eqb, ne_eqb}
use lib.ListN.{length, get_or, drop, drop_of_length-le}
use lib.Seq.{drop-cons}
use Rattle.std.specs.Prelude.{None}
use Rattle.script_fields.specs.Numbers.{digits}
use Rattle.script_fields.specs.Fields.{number_of, field_of}

module _ (text : List ℕ) (at : ℕ) where
  pub no_field : length text ≤ at → field_of at (drop at text) ≡ None
  unfolding field_of
  no_field h = rw (drop_of_length-le text h)

  pub no_blank : at < length text → (get_or text at 0 ≡ 32 → ⊥) → field_of at (drop at text) ≡ None
  unfolding field_of
  no_blank h other = rw (drop-cons text at 0 h, ne_eqb (get_or text at 0) 32 other)

  pub blank : at < length text → get_or text at 0 ≡ 32 → field_of at (drop at text) ≡ number_of (at + 1) (digits (drop (at + 1) text))
  unfolding field_of
  blank h is = rw (drop-cons text at 0 h, eq-eqb (get_or text at 0) 32 is, add-one at)
