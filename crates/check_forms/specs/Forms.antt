-- What each chain asks of a slot: its form, and of a record its order among the others, its stamp and what its level owes.
use Rattle.std.specs.Prelude.{Bool, ◌&&◌, List, ℕ, leb}
use Rattle.tables.specs.Sound.{is_free, is_point, is_range, order_key, is_stamped, owed_before}

unfoldable pub record_fits : List ℕ → ℕ → ℕ → ℕ → Bool
record_fits e owed least s = leb least (order_key e s) && (is_stamped e s && owed_before e owed s)

-- A free slot has no order, and nothing owes it.
unfoldable pub free_fits : List ℕ → ℕ → ℕ → ℕ → Bool
free_fits e owed least s = is_free e s

unfoldable pub point_fits : List ℕ → ℕ → ℕ → ℕ → Bool
point_fits e owed least s = is_point e s && record_fits e owed least s

unfoldable pub range_fits : List ℕ → ℕ → ℕ → ℕ → Bool
range_fits e owed least s = is_range e s && record_fits e owed least s
