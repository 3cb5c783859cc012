-- What the constructor and the methods answer, case by case.
use Rattle.std.proofs.Common.{◌≡◌, refl, Bool, true, false, ℕ, Some, None, Ok, Err, arith}
use Rattle.refusals.specs.declared.Refusal.TheVariants as refusal
use Rattle.refusals.specs.declared.Refusal.{Refusal}
use Rattle.settings.specs.declared.Settings.{Settings}
use Rattle.settings.specs.Limits.{allowed, capacity, limit}
use Rattle.settings.specs.Checked.{checked_of, level_from, limit_of, capacity_of}

module _ (s : Settings) where
  pub checked_accepted : allowed s ≡ true → checked_of s ≡ Ok s
  unfolding checked_of
  checked_accepted e = rw e

  pub checked_refused : allowed s ≡ false → checked_of s ≡ Err refusal.Settings
  unfolding checked_of
  checked_refused e = rw e

  -- What the answer tells.
  pub accepted_settings : (t : Settings) → checked_of s ≡ Ok t → allowed s ≡ true
  unfolding checked_of
  accepted_settings t r = grind arith

  pub unaccepted_settings : ((t : Settings) → checked_of s ≡ Ok t → ⊥) → allowed s ≡ false
  unaccepted_settings r = go (allowed s) refl
    where
      go : (b : Bool) → allowed s ≡ b → allowed s ≡ false
      go true a = absurd (r s (checked_accepted a))
      go false a = a

  pub accepted_same : (t : Settings) → checked_of s ≡ Ok t → t ≡ s
  unfolding checked_of
  accepted_same t r = grind arith

  pub refused_settings : {e : Refusal} → checked_of s ≡ Err e → (allowed s ≡ false) × (e ≡ refusal.Settings)
  unfolding checked_of
  refused_settings r = grind arith

module _ (s : Settings) (i : ℕ) where
  pub limit_of_level : level_from 0 s i ≡ true → limit_of s i ≡ Some (limit s i)
  unfolding limit_of
  limit_of_level e = rw e

  pub limit_of_other : level_from 0 s i ≡ false → limit_of s i ≡ None
  unfolding limit_of
  limit_of_other e = rw e

  pub capacity_of_level : level_from 1 s i ≡ true → capacity_of s i ≡ Some (capacity s i)
  unfolding capacity_of
  capacity_of_level e = rw e

  pub capacity_of_other : level_from 1 s i ≡ false → capacity_of s i ≡ None
  unfolding capacity_of
  capacity_of_other e = rw e
