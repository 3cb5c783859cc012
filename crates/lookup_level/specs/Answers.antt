-- What one chain and one level say of a docket, as the code's answers.
use Rattle.std.specs.Prelude.{cond, List, [], ◌∷◌, map, ℕ, max, leb, eqb}
use Rattle.model.specs.declared.Tally.{Tally}
use Rattle.model.specs.Records.{Entry, value, tombstone, Point, Level}
use Rattle.model.specs.Lookup as model
use Rattle.model.specs.Lookup.{latest}
use Rattle.tables.specs.Sound.{chain_from}
use Rattle.tables.specs.Placed.{read_point, read_range}
use Rattle.lookup_level.specs.declared.Decided.{Decided}
use Rattle.lookup_level.specs.declared.Decided.TheVariants.{Value, Absent, Deeper}

-- What a point's entry and stamp say: a put gives its tally and its stamp, a delete means absent.
abbrev pub says : Entry Tally → ℕ → Decided
says (value a) t = Value (record { stamp = t; shown = a })
says tombstone t = Absent

-- What they decide, by the latest date met so far: "a point found deeper with a stamp at or below it is absent".
abbrev pub tells : ℕ → Entry Tally → ℕ → Decided
tells date x t = cond (leb t date) Absent (says x t)

-- What the points of a level decide: the first point of the docket does.
unfoldable pub decides : ℕ → List (Point ℕ Tally) → ℕ → Decided
decides date [] k = Deeper date
decides date (p ∷ ps) k = cond (eqb p.key k) (tells date p.entry p.stamp) (decides date ps k)

-- A date is met before going deeper.
abbrev pub meets : ℕ → Decided → Decided
meets date (Value f) = Value f
meets date Absent = Absent
meets date (Deeper met) = Deeper (max met date)

-- The level that two chains, by their first slots, hold.
abbrev pub chain_level : List ℕ → ℕ → ℕ → Level ℕ Tally
chain_level e points ranges = record { points = map (read_point e) (chain_from e points); ranges = map (read_range e) (chain_from e ranges); owed = 0 }

-- What a level decides: a point of the docket does, and before going deeper the level's ranges over the docket are met.
unfoldable pub level_decides : ℕ → Level ℕ Tally → ℕ → Decided
level_decides date l k = meets (latest l.ranges k) (decides date l.points k)

-- What a level has decided, or else what the deeper levels give for the latest date met so far.
abbrev pub settle : Decided → (ℕ → model.Found Tally) → model.Found Tally
settle (Value f) deeper = model.found f.shown f.stamp
settle Absent deeper = model.absent
settle (Deeper date) deeper = deeper date
