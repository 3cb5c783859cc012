-- The clock of the next due merge is that of a level that owes, and no other level's is smaller; there is none where no level owes.
use Rattle.std.proofs.Common.{Option, Some, None}
use mathlib.Core.Path.{◌≡◌, refl, ap, ◌∙◌}
use mathlib.Core.Logic.{◌≢◌}
use mathlib.Core.Bool.{Bool, true, false, cond}
use Prim.Native.Nat.{ℕ, suc, ◌+◌, ◌≤◌, ◌<◌, min}
use native.Mathlib.Omega.{arith}
use native.Mathlib.Decide.{ℕ_discrete}
use lib.Dec.{eqb}
use borrow.Author.Tests.{eqb-true, eqb-false}
use Rattle.lists.proofs.Loops.{iterate_holds, iterate_same}
use Rattle.settings.specs.declared.Settings.{Settings}
use Rattle.settings.specs.Limits.{limit}
use Rattle.model_wake.specs.Wake.{wake_level, sooner, next_wake, Owes}

module _ (settings : Settings) (owed : ℕ → ℕ) where
  abbrev pub Smallest : ℕ → Option ℕ → Type 0
  Smallest n (Some m) = Owes settings owed n m
  Smallest n None = (i : ℕ) → i < n → owed i ≡ 0

  -- One level more: it owes nothing, or something.
  passed_over : (n : ℕ) (w : Option ℕ) → owed n ≡ 0 → Smallest n w → Smallest (suc n) w
  passed_over n None z s = λ i h. at i h (ℕ_discrete i n)
    where
      at : (i : ℕ) → i < suc n → Dec (i ≡ n) → owed i ≡ 0
      at i h (yes e) = rw e z
      at i h (no e) = s i (omega arith)
  passed_over n (Some m) z s = record {
    level = s.level;
    above = omega (arith, s.above);
    owing = s.owing;
    clock = s.clock;
    least = λ i h o. at i h o (ℕ_discrete i n);
  }
    where
      at : (i : ℕ) → i < suc n → owed i ≢ 0 → Dec (i ≡ n) → m ≤ owed i + limit settings i
      at i h o (yes e) = absurd (o (rw e z))
      at i h o (no e) = s.least i (omega arith) o

  asked : (n : ℕ) (w : Option ℕ) → owed n ≢ 0 → Smallest n w → Smallest (suc n) (sooner w (Some (owed n + limit settings n)))
  asked n None o s = record { level = n; above = omega arith; owing = o; clock = refl; least = λ i h p. at i h p (ℕ_discrete i n) }
    where
      at : (i : ℕ) → i < suc n → owed i ≢ 0 → Dec (i ≡ n) → owed n + limit settings n ≤ owed i + limit settings i
      at i h p (yes e) = rw e (omega arith)
      at i h p (no e) = absurd (p (s i (omega arith)))
  asked n (Some m) o s = by (ℕ_discrete (min m (owed n + limit settings n)) m)
    where
      at : (i : ℕ) → i < suc n → owed i ≢ 0 → Dec (i ≡ n) → min m (owed n + limit settings n) ≤ owed i + limit settings i
      at i h p (yes e) = rw e (omega arith)
      at i h p (no e) = omega (arith, s.least i (omega arith) p)

      by : Dec (min m (owed n + limit settings n) ≡ m) → Owes settings owed (suc n) (min m (owed n + limit settings n))
      by (yes e) = record {
        level = s.level;
        above = omega (arith, s.above);
        owing = s.owing;
        clock = e ∙ s.clock;
        least = λ i h p. at i h p (ℕ_discrete i n);
      }
      by (no e) = record { level = n; above = omega arith; owing = o; clock = omega arith; least = λ i h p. at i h p (ℕ_discrete i n) }

  one_more : (n : ℕ) (w : Option ℕ) → Smallest n w → Smallest (suc n) (sooner w (wake_level settings n (owed n)))
  one_more n w s = go (eqb (owed n) 0) refl
    where
      never : (v : Option ℕ) → sooner v None ≡ v
      never (Some m) = refl
      never None = refl

      go : (b : Bool) → eqb (owed n) 0 ≡ b → Smallest (suc n) (sooner w (cond b None (Some (owed n + limit settings n))))
      go true q = rw (never w) (passed_over n w (eqb-true (owed n) 0 q) s)
      go false q = asked n w (eqb-false (owed n) 0 q) s

  as_many : {n k : ℕ} (w : Option ℕ) → k ≡ n → Smallest n w → Smallest k w
  as_many w e s = rw e s

  pub next_smallest : Smallest settings.deepest (next_wake settings owed)
  unfolding next_wake
  next_smallest =
      as_many (next_wake settings owed) (omega arith)
      (iterate_holds (λ i next. sooner next (wake_level settings i (owed i))) Smallest settings.deepest 0 None (λ i w p q s. one_more i w s)
      (λ i h. absurd (omega arith)))

  pub at_smallest : {m : ℕ} → next_wake settings owed ≡ Some m → Owes settings owed settings.deepest m
  at_smallest e = rw e at next_smallest

  pub never_owes : next_wake settings owed ≡ None → (i : ℕ) → i < settings.deepest → owed i ≡ 0
  never_owes e = rw e at next_smallest

-- Only what levels 0 to L−1 owe is asked.
pub next_same : (settings : Settings) (owed owed' : ℕ → ℕ) → ((i : ℕ) → i < settings.deepest → owed i ≡ owed' i) → next_wake settings owed ≡ next_wake settings owed'
unfolding next_wake
next_same settings owed owed' same =
    iterate_same _ _ settings.deepest 0 None (λ i w a b. ap (λ k. sooner w (wake_level settings i k)) (same i (omega arith)))
