-- What an accepted making leaves: the tables of a fresh store with every slot that the entry table has room for.
use mathlib.Core.Path.{◌≡◌, refl, ap}
use mathlib.Core.Bool.{true}
use mathlib.Core.List.{List}
use Prim.Native.Nat.{ℕ, suc}
use native.Mathlib.Omega.{arith}
use borrow.Author.Tests.{eqb-true, eqb-false}
use lib.Dec.{eqb}
use lib.ListN.{length}
use Rattle.settings.specs.declared.Settings.{Settings}
use Rattle.settings.specs.Limits.{allowed}
use Rattle.lists.proofs.Bools.{by_cases}
use Rattle.model.specs.Records.{fresh}
use Rattle.tables.specs.Rows.{level_length}
use Rattle.tables.specs.Slots.{slots_of}
use Rattle.tables.specs.Sound.{entries_fit, table_refusal}
use Rattle.tables.specs.Placed.{read_state, entry_words, level_words}
use Rattle.make.specs.Make.{Made, made, upto, make_tables}
use Rattle.tables.proofs.Lengths.{EntryLength, entries_facts}
use Rattle.make.proofs.Answers.{made_not_fitting, made_not_allowed, made_other_length, made_accepted}
use Rattle.make.proofs.Fresh.{made_reads, made_sound, made_entry_words, made_level_words}

-- A making is accepted only where no check fails, and is then the made store.
pub record Accepting (e l : List ℕ) (s : Settings) : Type 0 where
  pub fits : EntryLength e
  pub settings : allowed s ≡ true
  pub room : length l ≡ level_length s.deepest
  pub tables : make_tables e l s ≡ made (slots_of e) s

module _ (e l : List ℕ) (s : Settings) (none : (make_tables e l s).refusal ≡ 0) where
  refused_not : {P : Type 0} (number : ℕ) (m : Made) → make_tables e l s ≡ m → m.refusal ≡ suc number → P
  refused_not number m q r = let z = ap (λ (x : Made). x.refusal) q in absurd (omega arith)

  accepted_fit : entries_fit e ≡ true
  accepted_fit = by_cases (entries_fit e) (λ f. f) (λ f. refused_not 0 _ (made_not_fitting e l s f) refl)

  accepted_allowed : allowed s ≡ true
  accepted_allowed = by_cases (allowed s) (λ a. a) (λ a. refused_not 5 _ (made_not_allowed e l s accepted_fit a) refl)

  accepted_room : length l ≡ level_length s.deepest
  accepted_room =
      by_cases (eqb (length l) (level_length s.deepest))
      (λ t. eqb-true (length l) (level_length s.deepest) t)
      (λ f. refused_not 1 _ (made_other_length e l s accepted_fit accepted_allowed (eqb-false (length l) (level_length s.deepest) f)) refl)

  pub accepting : Accepting e l s
  accepting =
      record {
        fits = entries_facts e accepted_fit;
        settings = accepted_allowed;
        room = accepted_room;
        tables = made_accepted e l s accepted_fit accepted_allowed accepted_room;
      }

  pub accepted_reads : read_state (make_tables e l s).entries (make_tables e l s).levels ≡ fresh s (upto (slots_of e))
  accepted_reads = rw accepting.tables (made_reads (slots_of e) s accepting.fits.slots_low accepting.fits.slots_high accepting.settings)

  pub accepted_sound : table_refusal (make_tables e l s).entries (make_tables e l s).levels ≡ 0
  accepted_sound =
      rw accepting.tables (made_sound (slots_of e) s accepting.fits.slots_low accepting.fits.slots_high accepting.settings)

  pub accepted_entries : (make_tables e l s).entries ≡ entry_words (slots_of e) (fresh s (upto (slots_of e)))
  accepted_entries = rw accepting.tables (made_entry_words (slots_of e) s accepting.fits.slots_low accepting.fits.slots_high accepting.settings)

  pub accepted_levels : (make_tables e l s).levels ≡ level_words (fresh s (upto (slots_of e)))
  accepted_levels = rw accepting.tables (made_level_words (slots_of e) s)
