-- Numbers as they are printed, one after another.
use Rattle.std.proofs.Common.{◌≡◌, refl, sym, ap, ◌∙◌, ℕ, suc, ◌+◌, ◌*◌, ◌≤◌}
use Rattle.std.proofs.Common.{◌<◌, List, [], ◌++◌, length, get_or, drop, drop_of_length-le, append-nil, length-append, arith}
use native.Mathlib.Numerals.{add-one}
use lib.Seq.{drop-cons}
use Rattle.script_prints.specs.Texts.{field_text, numbers_text, overwrite}
use Rattle.script_prints.proofs.Digits.{length_field}
use Rattle.script_prints.proofs.Overwrites.{Printed, overwrite_none, overwrite_append}

module _ (numbers : List ℕ) (i : ℕ) (more : i < length numbers) where
  -- A number that others follow, and the last.
  pub followed : i + 1 < length numbers → numbers_text (drop i numbers) ≡ field_text (get_or numbers i 0) 32 ++ numbers_text (drop (i + 1) numbers)
  unfolding numbers_text
  followed others = rw (add-one i) (rw (drop-cons numbers i 0 more) (rw (drop-cons numbers (suc i) 0 (omega (arith, others))) refl))

  pub last : length numbers ≤ i + 1 → numbers_text (drop i numbers) ≡ field_text (get_or numbers i 0) 10 ++ numbers_text (drop (i + 1) numbers)
  unfolding numbers_text
  last none =
      let past : length numbers ≤ suc i = omega (arith, none) in
      rw (add-one i) (rw (drop-cons numbers i 0 more) (rw (drop_of_length-le numbers past) (sym (append-nil (field_text (get_or numbers i 0) 10)))))

-- The numbers before i are printed, up to a position: with those that are left the text is whole.
pub record Printing (entry : List ℕ) (at : ℕ) (numbers out : List ℕ) (end i : ℕ) : Type 0 where
  pub kept : length out ≡ length entry
  pub few : end ≤ at + 11 * i
  pub place : end + length (numbers_text (drop i numbers)) ≡ at + length (numbers_text numbers)
  pub whole : overwrite out end (numbers_text (drop i numbers)) ≡ overwrite entry at (numbers_text numbers)

module _ (entry : List ℕ) (at : ℕ) (numbers : List ℕ) where
  pub printing_none : Printing entry at numbers entry at 0
  printing_none = record { kept = refl; few = omega arith; place = refl; whole = refl }

  module _ (out : List ℕ) (end i : ℕ) (so_far : Printing entry at numbers out end i) where
    pub printing_one : (number ending end' : ℕ) (out' : List ℕ) → end + 11 ≤ length out → length out' ≡ length out
        → numbers_text (drop i numbers) ≡ field_text number ending ++ numbers_text (drop (i + 1) numbers)
        → Printed out end (field_text number ending) end' out' → Printing entry at numbers out' end' (i + 1)
    printing_one number ending end' out' room kept split p =
        let field = field_text number ending in
        let rest = numbers_text (drop (i + 1) numbers) in record {
          kept = kept ∙ so_far.kept;
          few = omega (arith, p.0, so_far.few, length_field number ending);
          place = omega (arith, p.0, so_far.place, ap (λ (ds : List ℕ). length ds) split, length-append field rest);
          whole =
              (λ j. overwrite (p.1 j) (p.0 j) rest)
              ∙ overwrite_append out end field rest (omega (arith, room, length_field number ending))
              ∙ ap (λ t. overwrite out end t) (sym split)
              ∙ so_far.whole;
        }

    pub printing_all : length numbers ≤ i → Printed entry at (numbers_text numbers) end out
    unfolding numbers_text
    printing_all past =
        let none : drop i numbers ≡ [] = drop_of_length-le numbers past in
        (omega (arith, so_far.place, ap (λ l. length (numbers_text l)) none), sym (overwrite_none out end) ∙ (rw none at so_far.whole))
