-- A chain on the way through a sieve: some cells have been passed and stay, some have gone, some are left.
use Rattle.std.specs.Prelude.{◌≡◌, Bool, List, ◌∷◌, ◌++◌, map, ℕ, ◌+◌, ◌<◌, ◌≤◌, length, drop}
use Rattle.lists.specs.All.{Exists}
use Rattle.lists.specs.Lists.{select, reject}
use Rattle.model.specs.Merge.{release}
use Rattle.tables.specs.Sound.{chain_from}
use Rattle.tables.specs.Placed.{Cell, head}
use Rattle.tables.proofs.Cells.{cell_slots}
use Rattle.chain_cells.specs.Cells.{cell_at, last_slot}
use Rattle.chain_cells.specs.Held.{Held}
use Rattle.chain_cells.specs.declared.Cursor.{Cursor}

-- A cursor at a chain's first slot, with nothing passed.
abbrev pub at_start : ℕ → Cursor
at_start first = record { head = first; prior = 0; at = first; gone = 0 }

-- What the sieve is to do: with which test, what will be left of the chain and of the free slots, how many cells go, and all that it must not touch.
pub record Sift : Type 0 where
  pub slots : ℕ
  pub clock : ℕ
  pub test : Cell → Bool
  pub kept : List Cell
  pub free : List ℕ
  pub gone : ℕ
  pub others : List (List Cell)

-- A sieve with these cells passed, these left and these slots free.
pub record SiftAt (g : Sift) (e : List ℕ) (m : Cursor) (done left : List Cell) (free : List ℕ) : Type 0 where
  pub held : Held g.slots g.clock free ((done ++ left) ∷ g.others) e
  pub head_is : m.head ≡ head (done ++ left)
  pub prior_is : m.prior ≡ last_slot done
  pub at_is : m.at ≡ head left
  pub keeps : done ++ reject g.test left ≡ g.kept
  pub frees : release (cell_slots (select g.test left)) free ≡ g.free
  pub counts : m.gone + length (select g.test left) ≡ g.gone
  pub few : m.gone + length left ≤ g.slots

pub record Sifting (g : Sift) (e : List ℕ) (m : Cursor) : Type 0 where
  pub done : List Cell
  pub left : List Cell
  pub free : List ℕ
  pub here : SiftAt g e m done left free

-- The cells that the sieve has still to see, and how many they are.
abbrev pub cells_left : List ℕ → Cursor → List Cell
cells_left e m = map (cell_at e) (chain_from e m.at)

abbrev pub left_at : List ℕ → Cursor → ℕ
left_at e m = length (chain_from e m.at)

-- One step of the sieve: it has seen the first of the cells that were left.
abbrev pub Sifts : Sift → List ℕ → Cursor → List ℕ → Cursor → Type 0
Sifts g e m e' m' = Sifting g e' m' × (left_at e' m' < left_at e m) × (cells_left e' m' ≡ drop 1 (cells_left e m))

-- A chain and all that is beside it.
pub record Chain : Type 0 where
  pub slots : ℕ
  pub clock : ℕ
  pub free : List ℕ
  pub cells : List Cell
  pub others : List (List Cell)

pub record OneHeld (g : Chain) (e : List ℕ) (first : ℕ) : Type 0 where
  pub held : Held g.slots g.clock g.free (g.cells ∷ g.others) e
  pub head_is : first ≡ head g.cells

-- The table holds some chain that begins at a slot.
abbrev pub ChainAt : List ℕ → ℕ → Type 0
ChainAt e first = Exists (λ g. OneHeld g e first)

-- The cells that pass the test have gone from the chain, each to the front of the free chain; the cursor stands past its last cell.
pub record Sifted (test : Cell → Bool) (g : Chain) (e : List ℕ) (m : Cursor) : Type 0 where
  pub held : Held g.slots g.clock (release (cell_slots (select test g.cells)) g.free) (reject test g.cells ∷ g.others) e
  pub head_is : m.head ≡ head (reject test g.cells)
  pub prior_is : m.prior ≡ last_slot (reject test g.cells)
  pub at_is : m.at ≡ 0
  pub counts : m.gone ≡ length (select test g.cells)

-- The sieve that a test is for a chain.
abbrev pub sift_of : (Cell → Bool) → Chain → Sift
sift_of test g = record {
  slots = g.slots;
  clock = g.clock;
  test = test;
  kept = reject test g.cells;
  free = release (cell_slots (select test g.cells)) g.free;
  gone = length (select test g.cells);
  others = g.others;
}
