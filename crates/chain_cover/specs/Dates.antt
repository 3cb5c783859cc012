-- The latest date of the ranges over a docket, as a walk meets them: they ascend by lo.
use Rattle.std.specs.Prelude.{cond, ◌&&◌, List, [], ◌∷◌, ℕ, leb, ltb}
use Rattle.tables.specs.Slots.{lo_of, hi_of, date_of}
use Rattle.chain_cover.specs.declared.Latest.{Latest}

-- No range is met.
abbrev pub no_date : Latest
no_date = record { date = 0; last = 0; next = 65536 }

-- A range is met that has begun: its date counts if it has not ended, and is later.
unfoldable pub met : List ℕ → ℕ → ℕ → Latest → Latest
met e k s m = cond (leb k (hi_of e s) && ltb m.date (date_of e s)) (record { date = date_of e s; last = hi_of e s; next = m.next }) m

-- Ranges are met up to the first that is still to come.
unfoldable pub surveyed : List ℕ → ℕ → List ℕ → Latest → Latest
surveyed e k [] m = m
surveyed e k (s ∷ ss) m =
    cond (ltb k (lo_of e s)) (record { date = m.date; last = m.last; next = lo_of e s }) (surveyed e k ss (met e k s m))
