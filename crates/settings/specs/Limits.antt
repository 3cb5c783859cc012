-- Document 01, "Settings and limits": what is allowed, and the capacity and the limit of a level.
use Rattle.std.specs.Prelude.{Bool, ◌&&◌, ℕ, ◌+◌, ◌-◌, ◌*◌, ◌/◌, ◌^◌, leb}
use Rattle.settings.specs.declared.Settings.{Settings}

-- A number from low to high, both included.
abbrev pub within : ℕ → ℕ → ℕ → Bool
within low x high = leb low x && leb x high

-- "L, the deepest level: 2 to 6", "T, the size ratio: 2 to 10", "B, the buffer's size: 1 to 64 records", "D, the term: 1 to 4,294,967,295 ticks".
unfoldable pub allowed : Settings → Bool
allowed s =
    within 2 s.deepest 6
    && within 2 s.ratio 10
    && within 1 s.buffer 64
    && within 1 s.term 4294967295

-- T^i.
unfoldable pub power : Settings → ℕ → ℕ
power s i = s.ratio ^ i

-- "Capacity of level i from 1 to L−1: B × T^i records."
unfoldable pub capacity : Settings → ℕ → ℕ
capacity s i = s.buffer * power s i

-- Request S-4: "The limit of level i, now from 0 to L−1, becomes D × (T^(i+1) − 1) divided by (T^L − 1), rounded down." It is "in ticks since the delete".
unfoldable pub limit : Settings → ℕ → ℕ
limit s i = s.term * (power s (i + 1) - 1) / (power s s.deepest - 1)
