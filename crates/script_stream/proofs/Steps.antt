-- What the code does at the end of the input and with a turn of its loop, as the definitions have it.
use mathlib.Core.Path.{◌≡◌, subst}
use mathlib.Core.List.{List}
use Prim.Native.Nat.{ℕ, ◌+◌, ◌≤◌, ◌<◌}
use native.Mathlib.Numerals.{add-one}
use borrow.Author.Tests.{ne_eqb}
use lib.ListN.{length, get_or, drop, drop_of_length-le, take-append-drop}
use lib.Seq.{drop-cons, length-take-le}
use Rattle.script_buffer.specs.Bytes.{Standing, ended, taken}
use Rattle.script_buffer.specs.Room.{Progress, standing}
use Rattle.script_stream.specs.Blocks.{fed, finished, written}

module _ (e l line output : List ℕ) (m : Progress) where
  -- The end of the input, within a line and after one.
  pub finishes_none : m.length ≡ 0 → standing e l line output m ≡ finished (standing e l line output m)
  unfolding finished
  finishes_none none = rw (none)

  pub finishes_line : (s : Standing) → m.length ≤ length line → (m.length ≡ 0 → ⊥) → s ≡ ended (standing e l line output m)
      → s ≡ finished (standing e l line output m)
  unfolding finished
  finishes_line s within some ends =
      rw (length-take-le m.length line within, ne_eqb m.length 0 some) ends

  -- What waited was written out, and the script goes on in the same room with none that waits.
  pub goes_on : standing e l line output (record { slots = m.slots; deepest = m.deepest; length = m.length; waiting = 0 })
      ≡ written (standing e l line output m)
  goes_on = rw (take-append-drop m.waiting output)

-- The byte at a position was taken, and the bytes after it lead to the same.
pub feeds_one : (block : List ℕ) (i : ℕ) (s s' goal : Standing) → i < length block → fed (drop i block) s ≡ goal
    → s' ≡ taken (get_or block i 0) s → fed (drop (i + 1) block) s' ≡ goal
unfolding fed
feeds_one block i s s' goal within leads is =
    rw (is, add-one i) (subst (λ bytes. fed bytes s ≡ goal) (drop-cons block i 0 within) leads)

-- No byte is left.
pub feeds_all : (block : List ℕ) (i : ℕ) (s goal : Standing) → length block ≤ i → fed (drop i block) s ≡ goal → s ≡ goal
unfolding fed
feeds_all block i s goal past leads = subst (λ bytes. fed bytes s ≡ goal) (drop_of_length-le block past) leads
