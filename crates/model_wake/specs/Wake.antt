-- Request S-5: "the clock of the next due merge: the smallest owed + limit over levels 0 to L−1 with owed not 0, as a 64-bit number, or 'none'."
use Rattle.std.specs.Prelude.{◌≡◌, ◌≢◌, cond, List, [], ◌∷◌, ℕ, ◌+◌, ◌<◌, ◌≤◌, min, eqb, Option, Some, None}
use Rattle.settings.specs.declared.Settings.{Settings}
use Rattle.settings.specs.Limits.{limit}
use Rattle.lists.specs.Lists.{iterate}
use Rattle.model.specs.Records.{State, level}
use Rattle.model.specs.Calls.{Call, Answer, tick}

-- "owed + limit" of level i, "with owed not 0".
abbrev pub wake_level : Settings → ℕ → ℕ → Option ℕ
wake_level settings i owed = cond (eqb owed 0) None (Some (owed + limit settings i))

-- "the smallest"; 'none' is no number.
abbrev pub sooner : Option ℕ → Option ℕ → Option ℕ
sooner None b = b
sooner (Some m) None = Some m
sooner (Some m) (Some n) = Some (min m n)

-- "over levels 0 to L−1", by what each level owes.
unfoldable pub next_wake : Settings → (ℕ → ℕ) → Option ℕ
next_wake settings owed = iterate (λ i next. sooner next (wake_level settings i (owed i))) 0 settings.deepest None

-- What "the smallest" is: of the levels before n one owes and its clock is m, and no level that owes has a smaller one.
pub record Owes (settings : Settings) (owed : ℕ → ℕ) (n m : ℕ) : Type 0 where
  pub level : ℕ
  pub above : level < n
  pub owing : owed level ≢ 0
  pub clock : m ≡ owed level + limit settings level
  pub least : (i : ℕ) → i < n → owed i ≢ 0 → m ≤ owed i + limit settings i

-- Of a store.
abbrev pub wake : {S A : Type 0} → State S A → Option ℕ
wake s = next_wake s.settings (λ i. (level i s).owed)

-- Clock t lies "before that clock"; every clock does where there is none.
abbrev pub Before : ℕ → Option ℕ → Type 0
Before t (Some m) = t < m
Before t None = Unit {0}

-- A tick at clock t, and the last clock after ticks at some clocks.
abbrev pub tick_at : {A : Type 0} → ℕ → Call A
tick_at t = record { clock = t; op = tick }

abbrev pub last_clock : ℕ → List ℕ → ℕ
last_clock t [] = t
last_clock t (u ∷ us) = last_clock u us

-- "change nothing but the last clock": no merges and nothing purged.
abbrev pub no_change : Answer
no_change = record { refusal = 0; merges = 0; purged = 0 }
