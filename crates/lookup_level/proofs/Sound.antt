-- Sound tables are readable: every chain ends inside the table, in order.
use mathlib.Core.Path.{◌≡◌}
use mathlib.Core.List.{List, [], ◌∷◌}
use Prim.Native.Nat.{ℕ}
use native.Mathlib.Omega.{arith}
use lib.ListN.{length}
use Rattle.settings.proofs.Allowed.{allowed_bounds}
use Rattle.lists.specs.All.{All}
use Rattle.tables.specs.Slots.{entry_length, next_of}
use Rattle.tables.specs.Rows.{settings_of}
use Rattle.tables.specs.Sound.{chain_from, table_refusal}
use Rattle.tables.proofs.Once.{Inside}
use Rattle.tables.proofs.Linked.{Linked}
use Rattle.tables.proofs.SoundWords.{sound_facts}
use Rattle.tables.proofs.SoundChains.{points_end, ranges_end}
use Rattle.chain_cover.specs.Walks.{Walkable}
use Rattle.lookup_level.specs.Readable.{Readable}

walkable : (n : ℕ) (e : List ℕ) → length e ≡ entry_length n → (h : ℕ) (ss : List ℕ) → Linked e h ss → All (Inside n) ss → Walkable e h ss
walkable n e room h [] c i = c
walkable n e room h (s ∷ ss) c i = (c.0, c.1, omega (arith, i.0.1), walkable n e room (next_of e s) ss c.2 i.1)

-- Tables that are not refused can be read.
pub readable : (e l : List ℕ) → table_refusal e l ≡ 0 → Readable e l
readable e l h =
    let f = sound_facts e l h in
    record {
      size = omega (arith, f.length_entries, f.many);
      rows = f.length_levels;
      deep = (allowed_bounds (settings_of l) f.settings_ok).deepest_low;
      shallow = (allowed_bounds (settings_of l) f.settings_ok).deepest_high;
      points = λ i k.
          let c = points_end e l f i k in
          record { chained = walkable _ e f.length_entries _ (chain_from e _) c.linked c.inside; order = (f.levels i k).point_order };
      ranges = λ i k.
          let c = ranges_end e l f i k in
          record { chained = walkable _ e f.length_entries _ (chain_from e _) c.linked c.inside; order = (f.levels i k).range_order };
    }
