-- What the test of an entry table's length tells.
use Rattle.std.proofs.Common.{◌≡◌, true, List, ℕ, ◌<◌, arith}
use Rattle.tables.specs.Slots.{slots_of}
use Rattle.tables.specs.Sound.{entries_fit}
use Rattle.tables.proofs.Lengths.{entries_facts}
use Rattle.check_walk.specs.Slots.{Entries}

pub entries_known : (e : List ℕ) → entries_fit e ≡ true → Entries e
entries_known e q = let f = entries_facts e q in record { number = f.number; slots_low = f.slots_low; slots_high = f.slots_high }

-- There are fewer slots than marks.
pub few_slots : (e : List ℕ) → entries_fit e ≡ true → slots_of e < 65536
few_slots e q = let f = entries_facts e q in omega arith
