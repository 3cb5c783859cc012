-- "Level L has puts only": its owed is 0, and a delete there would be owed.
use mathlib.Core.Path.{◌≡◌, refl}
use mathlib.Core.Bool.{Bool, true, false}
use mathlib.Core.List.{List, [], ◌∷◌}
use Prim.Native.Nat.{ℕ, zero, suc, ◌≤◌, ◌<◌}
use native.Mathlib.Omega.{arith}
use lib.ListN.{length, get_or}
use Rattle.lists.specs.All.{All}
use Rattle.model.specs.declared.Tally.{Tally}
use Rattle.model.specs.Records.{Level, State, Point, Range, empty, is_put, level}
use Rattle.tables.specs.Formed.{LevelFormed, Formed}

module _ (clock : ℕ) (l : Level ℕ Tally) (f : LevelFormed clock l) (z : l.owed ≡ 0) where
  only_puts : (ps : List (Point ℕ Tally)) → All (λ p. is_put p.entry ≡ false → (1 ≤ l.owed) × (l.owed ≤ p.stamp)) ps → All (λ p. is_put p.entry ≡ true) ps
  only_puts [] a = tt
  only_puts (p ∷ ps) a = (go (is_put p.entry) refl, only_puts ps a.1)
    where
      go : (b : Bool) → is_put p.entry ≡ b → is_put p.entry ≡ true
      go true q = q
      go false q = absurd (omega (arith, (a.0 q).0))

  no_range : (rs : List (Range ℕ)) → All (λ r. (1 ≤ l.owed) × (l.owed ≤ r.stamp)) rs → rs ≡ []
  no_range [] a = refl
  no_range (r ∷ rs) a = absurd (omega (arith, a.0.0))

  pub owes_nothing_puts : (All (λ p. is_put p.entry ≡ true) l.points) × (l.ranges ≡ [])
  owes_nothing_puts = (only_puts l.points f.owed_points, no_range l.ranges f.owed_ranges)

all_at : (ls : List (Level ℕ Tally)) (clock i : ℕ) → All (LevelFormed clock) ls → i < length ls → LevelFormed clock (get_or ls i empty)
all_at [] clock i a h = absurd (omega arith)
all_at (l ∷ ls) clock zero a h = a.0
all_at (l ∷ ls) clock (suc i) a h = all_at ls clock i a.1 (omega arith)

pub deepest_puts : (n : ℕ) (p : State ℕ Tally) → Formed n p
    → (All (λ q. is_put q.entry ≡ true) (level p.settings.deepest p).points) × ((level p.settings.deepest p).ranges ≡ [])
deepest_puts n p f =
    owes_nothing_puts p.clock (level p.settings.deepest p)
    (all_at p.levels p.clock p.settings.deepest f.levels_ok (omega (arith, f.size))) f.deepest_owes_nothing
