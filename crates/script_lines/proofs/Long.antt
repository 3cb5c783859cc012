-- A line of more bytes than its letter and five numbers of ten digits, each after a blank, has no form.
use mathlib.Core.Path.{◌≡◌, refl}
use mathlib.Core.Bool.{◌&&◌, cond}
use mathlib.Core.List.{List, [], ◌∷◌}
use Prim.Native.Char.{code}
use Prim.Native.Nat.{ℕ, zero, suc, ◌*◌, ◌<◌}
use native.Mathlib.Omega.{arith}
use borrow.Author.Tests.{leb-true}
use lib.Dec.{eqb, leb}
use lib.ListN.{length, drop, length-drop}
use Rattle.lists.proofs.Bools.{and_left, and_right, cond_elim}
use Rattle.std.specs.Prelude.{Option, None}
use Rattle.script_lines.specs.declared.Command.{Command}
use Rattle.script_lines.specs.declared.Command.TheVariants.{Make, Put, Delete, DeleteRange, DeleteRangeDated, Flush, Tick, Lookup}
use Rattle.script_fields.specs.Numbers.{digits, decimal, is_number}
use Rattle.script_lines.specs.Lines.{Taking, fields, line_of}

abbrev NoForm : Option Command → Type 0
NoForm line = line ≡ None

long_fields : (n : ℕ) (command : Taking n) (text : List ℕ) → 11 * n < length text → NoForm (fields n command text)
unfolding fields
long_fields zero command [] long = absurd (omega (arith, long))
long_fields zero command (byte ∷ rest) long = refl
long_fields (suc n) command [] long = refl
long_fields (suc n) command (byte ∷ rest) long =
    let ds = digits rest in
    cond_elim NoForm (eqb byte (code " ") && is_number ds) (fields n (command (decimal 0 ds)) (drop (length ds) rest)) None
    (λ good.
    let few = leb-true (length ds) 10 (and_left _ _ (and_right (leb 1 (length ds)) _ (and_right (eqb byte (code " ")) (is_number ds) good))) in
    long_fields n (command (decimal 0 ds)) (drop (length ds) rest) (rw (length-drop (length ds) rest) (omega (arith, few, long))))
    (λ _. refl)

-- One letter's form after another.
either : (letter expected : ℕ) (form other : Option Command) → NoForm form → NoForm other → NoForm (cond (eqb letter expected) form other)
either letter expected form other p q = cond_elim NoForm (eqb letter expected) form other (λ _. p) (λ _. q)

pub long_unreadable : (text : List ℕ) → 56 < length text → line_of text ≡ None
unfolding line_of
long_unreadable [] long = refl
long_unreadable (letter ∷ rest) long =
    let make : NoForm (fields 5 Make rest) = long_fields 5 Make rest (omega (arith, long)) in
    let put : NoForm (fields 4 Put rest) = long_fields 4 Put rest (omega (arith, long)) in
    let delete : NoForm (fields 2 Delete rest) = long_fields 2 Delete rest (omega (arith, long)) in
    let delete_range : NoForm (fields 3 DeleteRange rest) = long_fields 3 DeleteRange rest (omega (arith, long)) in
    let delete_range_dated : NoForm (fields 4 DeleteRangeDated rest) = long_fields 4 DeleteRangeDated rest (omega (arith, long)) in
    let flush : NoForm (fields 1 Flush rest) = long_fields 1 Flush rest (omega (arith, long)) in
    let tick : NoForm (fields 1 Tick rest) = long_fields 1 Tick rest (omega (arith, long)) in
    let lookup : NoForm (fields 1 Lookup rest) = long_fields 1 Lookup rest (omega (arith, long)) in
    either letter (code "M") _ _ make
    (either letter (code "P") _ _ put
    (either letter (code "D") _ _ delete
    (either letter (code "R") _ _ delete_range
    (either letter (code "Y") _ _ delete_range_dated
    (either letter (code "F") _ _ flush
    (either letter (code "T") _ _ tick
    (either letter (code "G") _ _ lookup refl)))))))
