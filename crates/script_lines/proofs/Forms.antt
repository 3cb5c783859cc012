-- What a line says by its letter and its numbers.
use Rattle.std.proofs.Common.{◌≡◌, refl, ap, sym, ◌∙◌, Bool, ◌&&◌, true, false, cond, ℕ, zero, suc, List, [], ◌∷◌, length, drop, get_or, arith}
use Rattle.std.specs.Prelude.{Option, Some, None, option_map, slice_get}
use Prim.Native.Char.{code}
use lib.Dec.{eqb}
use borrow.Author.Tests.{ne_eqb}
use Rattle.script_fields.specs.Numbers.{digits, decimal, is_number}
use Rattle.script_fields.specs.Fields.{before, numbers_of}
use Rattle.script_lines.specs.declared.Command.{Command}
use Rattle.script_lines.specs.Lines.{Taking, fields, line_of}

-- The command that n numbers make, of which the first stands at a position of a list.
abbrev pub made : (n : ℕ) → Taking n → List ℕ → ℕ → Command
made zero command numbers i = command
made (suc n) command numbers i = made n (command (get_or numbers i 0)) numbers (suc i)

made_further : (n : ℕ) (command : Taking n) (first : ℕ) (rest : List ℕ) (i : ℕ) → made n command (first ∷ rest) (suc i) ≡ made n command rest i
made_further zero command first rest i = refl
made_further (suc n) command first rest i = made_further n (command (get_or rest i 0)) first rest (suc i)

-- A number before the others is the first that the command takes.
made_before : (n : ℕ) (command : Taking (suc n)) (first : ℕ) (read : Option (List ℕ))
    → option_map (λ xs. made n (command first) xs 0) read ≡ option_map (λ xs. made (suc n) command xs 0) (before (first ∷ []) read)
made_before n command first None = refl
made_before n command first (Some rest) = ap (λ c. Some c) (sym (made_further n (command first) first rest 0))

by_test : (test : Bool) (n : ℕ) (command : Taking n) (line : Option Command) (read : Option (List ℕ)) → line ≡ option_map (λ xs. made n command xs 0) read
    → cond test line None ≡ option_map (λ xs. made n command xs 0) (cond test read None)
by_test true n command line read h = h
by_test false n command line read h = refl

-- A line's fields make its command of the numbers that are read.
fields_made : (n : ℕ) (command : Taking n) (bytes : List ℕ) → fields n command bytes ≡ option_map (λ xs. made n command xs 0) (numbers_of n bytes)
unfolding fields numbers_of
fields_made zero command [] = refl
fields_made zero command (byte ∷ rest) = refl
fields_made (suc n) command [] = refl
fields_made (suc n) command (byte ∷ rest) =
    let ds = digits rest in
    by_test (eqb byte (code " ") && is_number ds) (suc n) command _ _
    (fields_made n (command (decimal 0 ds)) (drop (length ds) rest) ∙ made_before n command (decimal 0 ds) (numbers_of n (drop (length ds) rest)))

module _ (n : ℕ) (command : Taking n) (bytes : List ℕ) where
  pub all_read : {numbers : List ℕ} → Some numbers ≡ numbers_of n bytes → Some (made n command numbers 0) ≡ fields n command bytes
  all_read told = ap (option_map (λ xs. made n command xs 0)) told ∙ sym (fields_made n command bytes)

  pub none_read : None ≡ numbers_of n bytes → None ≡ fields n command bytes
  none_read told = ap (option_map (λ xs. made n command xs 0)) told ∙ sym (fields_made n command bytes)

pub empty : (text : List ℕ) → None ≡ slice_get text 0 → None ≡ line_of text
unfolding line_of
empty [] told = refl
empty (letter ∷ rest) told = let h : ⊥ = grind arith in absurd h

-- A line is its first byte and what follows.
pub lettered : (text : List ℕ) {first letter : ℕ} → Some first ≡ slice_get text 0 → first ≡ letter → line_of (letter ∷ drop 1 text) ≡ line_of text
lettered [] told is = let h : ⊥ = grind arith in absurd h
lettered (byte ∷ rest) {first} {letter} told is = let h : byte ≡ first = grind arith in ap (λ x. line_of (x ∷ rest)) (sym (h ∙ is))

module _ (letter : ℕ) (rest : List ℕ) where
  pub no_letter : (letter ≡ 77 → ⊥) → (letter ≡ 80 → ⊥) → (letter ≡ 68 → ⊥) → (letter ≡ 82 → ⊥)
      → (letter ≡ 89 → ⊥) → (letter ≡ 70 → ⊥) → (letter ≡ 84 → ⊥) → (letter ≡ 71 → ⊥)
      → None ≡ line_of (letter ∷ rest)
  unfolding line_of
  no_letter m p d r y f t g =
      rw (ne_eqb letter 77 m, ne_eqb letter 80 p, ne_eqb letter 68 d, ne_eqb letter 82 r, ne_eqb letter 89 y, ne_eqb letter 70 f, ne_eqb letter 84 t, ne_eqb letter 71 g) refl
