-- The lines of the tables, read by the definition.
use mathlib.Core.Path.{refl}
use Rattle.script_fields.specs.Numbers.{digits, decimal}
use Rattle.script_lines.specs.Lines.{fields, line_of}
use Rattle.script_lines.specs.Cases.{bytes, FormTable, UnreadableTable}

pub forms : FormTable
unfolding digits decimal fields line_of bytes
forms = record {
  make = refl;
  put = refl;
  delete = refl;
  delete_range = refl;
  flush = refl;
  tick = refl;
  lookup = refl;
  delete_range_dated = refl;
  zero_is_a_number = refl;
  largest = refl;
  leading_zeros = refl;
  ten_digits = refl;
}

pub unreadable : UnreadableTable
unfolding digits decimal fields line_of bytes
unreadable = record {
  empty = refl;
  blank_alone = refl;
  one_too_large = refl;
  largest_of_ten_digits = refl;
  eleven_digits = refl;
  eleven_with_leading_zeros = refl;
  plus_sign = refl;
  minus_sign = refl;
  letter_in_a_number = refl;
  no_digits = refl;
  leading_blank = refl;
  doubled_blank = refl;
  trailing_blank = refl;
  no_blank = refl;
  tab_for_blank = refl;
  comma_for_blank = refl;
  lower_case = refl;
  other_letter = refl;
  two_letters = refl;
  carriage_return = refl;
  inner_line_feed = refl;
  letter_alone = refl;
  make_too_few = refl;
  make_too_many = refl;
  put_too_few = refl;
  put_too_many = refl;
  delete_too_few = refl;
  delete_too_many = refl;
  delete_range_too_few = refl;
  delete_range_too_many = refl;
  delete_range_dated_too_few = refl;
  delete_range_dated_too_many = refl;
  flush_too_few = refl;
  flush_too_many = refl;
  tick_too_few = refl;
  tick_too_many = refl;
  lookup_too_few = refl;
  lookup_too_many = refl;
}
