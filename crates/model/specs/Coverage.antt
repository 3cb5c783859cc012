-- Document 01, "The third demand", and request S-1: which records a delete covers. Merge, lookup, scan, the action on level L, the plain map and demand 3 all
-- ask this.
use Rattle.std.specs.Prelude.{Bool, ◌&&◌, ℕ, leb}
use Rattle.settings.specs.Limits.{within}

-- "A delete covers the dockets from its lo to its hi": the delete from lo to hi, and docket k.
unfoldable pub over : ℕ → ℕ → ℕ → Bool
over lo hi k = within lo k hi

-- "A range delete gets a date s and covers a record only if its stamp is at most s."
unfoldable pub covers : ℕ → ℕ → ℕ → ℕ → ℕ → Bool
covers lo hi date k stamp = over lo hi k && leb stamp date
