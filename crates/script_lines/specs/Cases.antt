-- Lines of the script, each with what it says.
use Rattle.std.specs.Prelude.{◌≡◌, List, [], ◌∷◌, ℕ}
use Prim.Native.Char.{code}
use Prim.Native.String as string
use Rattle.std.specs.Prelude.{Option, Some, None}
use Rattle.script_lines.specs.declared.Command.{Command}
use Rattle.script_lines.specs.declared.Command.TheVariants.{Make, Put, Delete, DeleteRange, DeleteRangeDated, Flush, Tick, Lookup}
use Rattle.script_lines.specs.Lines.{line_of}

-- The bytes of a text in ASCII.
unfoldable pub bytes : string.String → List ℕ
bytes string.[] = []
bytes (string.◌∷◌ c rest) = code c ∷ bytes rest

abbrev pub says : string.String → Option Command → Type 0
says text line = line_of (bytes text) ≡ line

pub record FormTable : Type 0 where
  -- "`M N L T B D` makes, `P t k v` puts, `D t k` deletes, `R t lo hi`, `F t` flushes, `T t` ticks, `G k` looks up";
  -- request S-2: "`P` lines take the price last"
  pub make : says "M 6 3 2 2 9" (Some (Make 6 3 2 2 9))
  pub put : says "P 1 7 70 5" (Some (Put 1 7 70 5))
  pub delete : says "D 2 7" (Some (Delete 2 7))
  pub delete_range : says "R 3 5 65535" (Some (DeleteRange 3 5 65535))
  pub flush : says "F 10" (Some (Flush 10))
  pub tick : says "T 11" (Some (Tick 11))
  pub lookup : says "G 7" (Some (Lookup 7))
  -- Request S-1: "The script line is `Y t lo hi s`."
  pub delete_range_dated : says "Y 3 5 65535 2" (Some (DeleteRangeDated 3 5 65535 2))
  -- "numbers from 0 to 4,294,967,295 in one to ten digits"
  pub zero_is_a_number : says "G 0" (Some (Lookup 0))
  pub largest : says "G 4294967295" (Some (Lookup 4294967295))
  pub leading_zeros : says "G 007" (Some (Lookup 7))
  pub ten_digits : says "P 0000000001 0000000000 0000000070 0000000005" (Some (Put 1 0 70 5))

pub record UnreadableTable : Type 0 where
  pub empty : says "" None
  pub blank_alone : says " " None
  -- "numbers from 0 to 4,294,967,295 in one to ten digits without signs"
  pub one_too_large : says "G 4294967296" None
  pub largest_of_ten_digits : says "G 9999999999" None
  pub eleven_digits : says "G 42949672950" None
  pub eleven_with_leading_zeros : says "G 00000000007" None
  pub plus_sign : says "G +7" None
  pub minus_sign : says "G -7" None
  pub letter_in_a_number : says "G 7a" None
  pub no_digits : says "G " None
  -- "one blank between fields"
  pub leading_blank : says " G 7" None
  pub doubled_blank : says "P 1  7 70 0" None
  pub trailing_blank : says "G 7 " None
  pub no_blank : says "G7" None
  pub tab_for_blank : says "G\t7" None
  pub comma_for_blank : says "D 2,7" None
  -- "not a line of the forms below"
  pub lower_case : says "g 7" None
  pub other_letter : says "S 7" None
  pub two_letters : says "GG 7" None
  pub carriage_return : says "G 7\r" None
  pub inner_line_feed : says "G 7\n" None
  pub letter_alone : says "M" None
  pub make_too_few : says "M 6 3 2 2" None
  pub make_too_many : says "M 6 3 2 2 9 1" None
  pub put_too_few : says "P 1 7 70" None
  pub put_too_many : says "P 1 7 70 5 1" None
  pub delete_too_few : says "D 2" None
  pub delete_too_many : says "D 2 7 1" None
  pub delete_range_too_few : says "R 3 5" None
  pub delete_range_too_many : says "R 3 5 6 7" None
  pub delete_range_dated_too_few : says "Y 3 5 6" None
  pub delete_range_dated_too_many : says "Y 3 5 6 2 1" None
  pub flush_too_few : says "F" None
  pub flush_too_many : says "F 10 1" None
  pub tick_too_few : says "T" None
  pub tick_too_many : says "T 11 1" None
  pub lookup_too_few : says "G" None
  pub lookup_too_many : says "G 7 1" None
