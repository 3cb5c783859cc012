-- What a making answers, case by case.
use mathlib.Core.Path.{◌≡◌}
use mathlib.Core.Bool.{true, false}
use mathlib.Core.List.{List}
use Prim.Native.Nat.{ℕ}
use borrow.Author.Tests.{eq-eqb, ne_eqb}
use lib.ListN.{length}
use Rattle.settings.specs.declared.Settings.{Settings}
use Rattle.settings.specs.Limits.{allowed}
use Rattle.tables.specs.Rows.{level_length}
use Rattle.tables.specs.Slots.{slots_of}
use Rattle.tables.specs.Sound.{entries_fit}
use Rattle.make.specs.Make.{made, not_made, make_tables}

module _ (e l : List ℕ) (s : Settings) where
  pub made_not_fitting : entries_fit e ≡ false → make_tables e l s ≡ not_made 1 e l
  unfolding make_tables
  made_not_fitting f = rw f

  pub made_not_allowed : entries_fit e ≡ true → allowed s ≡ false → make_tables e l s ≡ not_made 6 e l
  unfolding make_tables
  made_not_allowed f a = rw (f, a)

  pub made_other_length : entries_fit e ≡ true → allowed s ≡ true → (length l ≡ level_length s.deepest → ⊥) → make_tables e l s ≡ not_made 2 e l
  unfolding make_tables
  made_other_length f a n = rw (f, a, ne_eqb (length l) (level_length s.deepest) n)

  pub made_accepted : entries_fit e ≡ true → allowed s ≡ true → length l ≡ level_length s.deepest → make_tables e l s ≡ made (slots_of e) s
  unfolding make_tables
  made_accepted f a n = rw (f, a, eq-eqb (length l) (level_length s.deepest) n)
