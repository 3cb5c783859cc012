-- The laws of a level's capacity.
use Prim.Native.Nat.{ℕ, ◌≤◌}
use native.Mathlib.Nat.{mul-le-mul}
use Rattle.settings.specs.declared.Settings.{Settings}
use Rattle.settings.specs.Limits.{capacity}
use Rattle.settings.proofs.Allowed.{Allowed}
use Rattle.settings.proofs.Powers.{power_fits}

-- Within the ranges no capacity passes 64 × 10^6.
pub capacity_fits : (s : Settings) → Allowed s → (i : ℕ) → i ≤ s.deepest → capacity s i ≤ 64000000
unfolding capacity
capacity_fits s a i h = mul-le-mul {n₂ = 64} {m₂ = 1000000} a.buffer_high (power_fits s a i h)
