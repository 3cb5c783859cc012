-- Laws of the answers: what chains and levels decide.
use mathlib.Core.Path.{◌≡◌, refl, sym, ◌∙◌}
use mathlib.Core.Bool.{Bool, true, false, cond}
use mathlib.Core.List.{List, [], ◌∷◌, map}
use Prim.Native.Nat.{ℕ, ◌<◌, max}
use native.Mathlib.Omega.{arith}
use borrow.Author.Tests.{ne_eqb}
use lib.Dec.{leb, eqb}
use Rattle.lists.specs.All.{All}
use Rattle.model.specs.declared.Tally.{Tally}
use Rattle.model.specs.Records.{Entry, value, tombstone, Point, Level}
use Rattle.model.specs.Lookup as model
use Rattle.model.specs.Lookup.{latest}
use Rattle.tables.specs.Slots.{lo_of}
use Rattle.tables.specs.Placed.{read_point}
use Rattle.lookup_level.specs.declared.Decided.{Decided}
use Rattle.lookup_level.specs.declared.Decided.TheVariants.{Value, Absent, Deeper}
use Rattle.lookup_level.specs.Answers.{says, tells, decides, meets, level_decides, settle}

module _ (date : ℕ) where
  -- Records past the docket decide nothing.
  pub decides_past : (e : List ℕ) (k : ℕ) (ss : List ℕ) → All (λ s. k < lo_of e s) ss → decides date (map (read_point e) ss) k ≡ Deeper date
  unfolding decides
  decides_past e k [] a = refl
  decides_past e k (s ∷ ss) a = rw (ne_eqb (lo_of e s) k (omega arith)) (decides_past e k ss a.1)

  -- What a point decides is what the model finds by it.
  pub settle-tells : (met : ℕ) (x : Entry Tally) (t : ℕ) (deeper : ℕ → model.Found Tally) → settle (meets met (tells date x t)) deeper ≡ model.judged date x t
  settle-tells met x t deeper = go (leb t date) x
    where
      go : (b : Bool) (x : Entry Tally) → settle (meets met (cond b Absent (says x t))) deeper ≡ cond b model.absent (model.reads x t)
      go true x = refl
      go false (value a) = refl
      go false tombstone = refl

  -- What is decided is what the model finds, with the deeper levels behind it.
  pub find-decides : (met : ℕ) (ps : List (Point ℕ Tally)) (k : ℕ) (deeper : ℕ → model.Found Tally)
      → model.find date ps k (deeper (max date met)) ≡ settle (meets met (decides date ps k)) deeper
  unfolding model.find decides
  find-decides met [] k deeper = refl
  find-decides met (p ∷ ps) k deeper = go (eqb p.key k) (find-decides met ps k deeper)
    where
      go : (b : Bool) → model.find date ps k (deeper (max date met)) ≡ settle (meets met (decides date ps k)) deeper
          → cond b (model.judged date p.entry p.stamp) (model.find date ps k (deeper (max date met)))
          ≡ settle (meets met (cond b (tells date p.entry p.stamp) (decides date ps k))) deeper
      go true h = sym (settle-tells met p.entry p.stamp deeper)
      go false h = h

-- Deeper levels that give the same for every date.
pub settle_same : (d : Decided) (f g : ℕ → model.Found Tally) → ((met : ℕ) → f met ≡ g met) → settle d f ≡ settle d g
settle_same (Value v) f g same = refl
settle_same Absent f g same = refl
settle_same (Deeper met) f g same = same met

pub lookup_decides : (date : ℕ) (l : Level ℕ Tally) (ls : List (Level ℕ Tally)) (k : ℕ)
    → model.lookup_from date (l ∷ ls) k ≡ settle (level_decides date l k) (λ met. model.lookup_from met ls k)
unfolding model.lookup_from level_decides
lookup_decides date l ls k = find-decides date (latest l.ranges k) l.points k (λ met. model.lookup_from met ls k)

module _ (l : Level ℕ Tally) (k date : ℕ) (d : Decided) (is : d ≡ decides date l.points k) where
  -- A point of the docket has decided.
  pub level_by_point : meets (latest l.ranges k) d ≡ d → d ≡ level_decides date l k
  unfolding level_decides
  level_by_point h = sym h ∙ rw is

  pub level_deeper : (met r : ℕ) → d ≡ Deeper met → r ≡ max met (latest l.ranges k) → Deeper r ≡ level_decides date l k
  unfolding level_decides
  level_deeper met r q h = rw (← is, q, h)
