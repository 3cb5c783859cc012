-- Fields as they are read, one after another; 32 is the byte of a blank.
use Rattle.std.proofs.Common.{◌≡◌, refl, sym, ap, ◌∙◌, Bool, ◌&&◌, true, false, cond, ℕ, suc, ◌+◌, ◌-◌}
use Rattle.std.proofs.Common.{◌≤◌, ◌<◌, List, [], ◌∷◌, ◌++◌, length, get_or, set, take, drop, drop_of_length-le, append_assoc, append-nil, arith}
use Rattle.std.specs.Prelude.{Option, Some, None}
use Rattle.std.proofs.lemmas.List.{take_all, take_more_set}
use native.Mathlib.Numerals.{add-one}
use borrow.Author.Tests.{leb-true, leb-false}
use lib.Dec.{eqb, leb}
use lib.ListN.{length-set}
use lib.Seq.{drop-cons, drop-drop}
use Rattle.lists.proofs.Bools.{by_cases}
use Rattle.script_fields.specs.declared.Field.{Field}
use Rattle.script_fields.specs.Numbers.{digits, decimal, is_number}
use Rattle.script_fields.specs.Fields.{field_of, before, numbers_of}

before_nothing : (r : Option (List ℕ)) → before [] r ≡ r
before_nothing None = refl
before_nothing (Some rest) = refl

before_both : (xs ys : List ℕ) (r : Option (List ℕ)) → before xs (before ys r) ≡ before (xs ++ ys) r
before_both xs ys None = refl
before_both xs ys (Some rest) = ap (λ l. Some l) (sym (append_assoc xs ys rest))

-- What is read where n more fields follow one.
abbrev with_field : (n : ℕ) → List ℕ → Option Field → Option (List ℕ)
with_field n text None = None
with_field n text (Some field) = before (field.number ∷ []) (numbers_of n (drop field.end text))

module _ (n : ℕ) (text : List ℕ) where
  -- The two tests of a field, as one test in a line and as one after the other in a field.
  by_tests : (blank good : Bool) (field : Field) (read : Option (List ℕ)) → read ≡ with_field n text (Some field)
      → cond (blank && good) read None ≡ with_field n text (cond blank (cond good (Some field) None) None)
  by_tests true true field read h = h
  by_tests true false field read h = refl
  by_tests false good field read h = refl

  module _ (at : ℕ) where
    inside : at < length text → numbers_of (suc n) (drop at text) ≡ with_field n text (field_of at (drop at text))
    unfolding numbers_of field_of
    inside h =
        let ds = digits (drop (suc at) text) in
        rw (drop-cons text at 0 h)
        (by_tests (eqb (get_or text at 0) 32) (is_number ds) (record { number = decimal 0 ds; end = at + 1 + length ds })
        (before (decimal 0 ds ∷ []) (numbers_of n (drop (length ds) (drop (suc at) text))))
        (ap (λ l. before (decimal 0 ds ∷ []) (numbers_of n l)) (drop-drop (length ds) (suc at) text ∙ ap (λ k. drop (k + length ds) text) (sym (add-one at)))))

    past : length text ≤ at → numbers_of (suc n) (drop at text) ≡ with_field n text (field_of at (drop at text))
    unfolding numbers_of field_of
    past h = rw (drop_of_length-le text h) refl

    -- To read fields from a position on is to read the field there, then the others after it.
    one_field : numbers_of (suc n) (drop at text) ≡ with_field n text (field_of at (drop at text))
    one_field = by_cases (leb (length text) at) (λ p. past (leb-true (length text) at p)) (λ p. inside (leb-false (length text) at p))

-- So many numbers are read, up to a position: with those that are left they make the whole.
pub record Read (k : ℕ) (text : List ℕ) (start : ℕ) (numbers : List ℕ) (i at : ℕ) : Type 0 where
  pub room : length numbers ≡ k
  pub same : before (take i numbers) (numbers_of (k - i) (drop at text)) ≡ numbers_of k (drop start text)

pub read_none : (k : ℕ) (text : List ℕ) (start : ℕ) (numbers : List ℕ) → length numbers ≡ k → Read k text start numbers 0 start
read_none k text start numbers room =
    let all : k - 0 ≡ k = omega arith in
    record { room = room; same = before_nothing (numbers_of (k - 0) (drop start text)) ∙ ap (λ n. numbers_of n (drop start text)) all }

module _ {k : ℕ} {text : List ℕ} {start : ℕ} {numbers : List ℕ} {i at : ℕ} (read : Read k text start numbers i at) where
  module _ (left : i < k) where
    next : before (take i numbers) (with_field (k - (i + 1)) text (field_of at (drop at text))) ≡ numbers_of k (drop start text)
    next =
        let some : k - i ≡ suc (k - (i + 1)) = omega (arith, read.room) in
        ap (before (take i numbers)) (sym (one_field (k - (i + 1)) text at) ∙ ap (λ n. numbers_of n (drop at text)) (sym some)) ∙ read.same

    pub none_there : None ≡ field_of at (drop at text) → None ≡ numbers_of k (drop start text)
    none_there told = ap (λ f. before (take i numbers) (with_field (k - (i + 1)) text f)) told ∙ next

    pub read_one : (field : Field) → Some field ≡ field_of at (drop at text) → Read k text start (set numbers i field.number) (i + 1) field.end
    read_one field told = record {
      room = length-set numbers i field.number ∙ read.room;
      same =
          ap (λ l. before l (numbers_of (k - (i + 1)) (drop field.end text))) (take_more_set numbers i field.number (omega (arith, left, read.room)))
          ∙ sym (before_both (take i numbers) (field.number ∷ []) (numbers_of (k - (i + 1)) (drop field.end text)))
          ∙ ap (λ f. before (take i numbers) (with_field (k - (i + 1)) text f)) told
          ∙ next;
    }

  module _ (all : k ≤ i) where
    whole : before numbers (numbers_of 0 (drop at text)) ≡ numbers_of k (drop start text)
    whole =
        let none : k - i ≡ 0 = omega (arith, read.room) in
        (λ j. before (sym (take_all i numbers (omega (arith, all, read.room))) j) (numbers_of (sym none j) (drop at text))) ∙ read.same

    pub too_many : at < length text → None ≡ numbers_of k (drop start text)
    unfolding numbers_of
    too_many more = rw (drop-cons text at 0 more) at whole

    pub read_all : length text ≤ at → Some numbers ≡ numbers_of k (drop start text)
    unfolding numbers_of
    read_all end = ap (λ l. Some l) (sym (append-nil numbers)) ∙ rw (drop_of_length-le text end) at whole
