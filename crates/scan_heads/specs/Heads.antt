-- What a level has next, as one number, and such numbers in ascending order.
use Rattle.std.specs.Prelude.{◌≡◌, ◌≢◌, cond, List, [], ◌∷◌, ℕ, ◌+◌, ◌*◌, ◌/◌, ◌%◌, ◌<◌, ◌≤◌, min, max, eqb, ltb, length}
use Rattle.lists.specs.Lists.{sum}
use Rattle.lists.specs.All.{All}
use Rattle.tables.specs.Slots.{next_of, lo_of}
use Rattle.tables.specs.Sound.{chain_from}
use Rattle.chain_cover.specs.Walks.{Ordered}
use Rattle.scan_heads.specs.declared.Heads.{Heads}

-- Where the first of some records begins; past the last docket where there is none.
abbrev pub first_lo : List ℕ → List ℕ → ℕ
first_lo e [] = 65536
first_lo e (s ∷ ss) = lo_of e s

-- Where the first record from a slot on begins.
abbrev pub key_from : List ℕ → ℕ → ℕ
key_from e s = first_lo e (chain_from e s)

-- What level i has next, from slot s on: the docket, then the level, then the slot.
abbrev pub head_at : List ℕ → ℕ → ℕ → ℕ
head_at e i s = key_from e s * 4294967296 + (i * 65536 + s)

abbrev pub key_of : ℕ → ℕ
key_of h = h / 4294967296

abbrev pub level_of : ℕ → ℕ
level_of h = h / 65536 % 65536

abbrev pub slot_of : ℕ → ℕ
slot_of h = h % 65536

-- A number put among ascending ones, at its place.
unfoldable pub insert : ℕ → List ℕ → List ℕ
insert h [] = h ∷ []
insert h (o ∷ os) = min o h ∷ insert (max o h) os

-- The heads but the first, and all.
abbrev pub others : Heads → List ℕ
others a = a.h1 ∷ a.h2 ∷ a.h3 ∷ a.h4 ∷ a.h5 ∷ a.h6 ∷ []

abbrev pub heads_of : Heads → List ℕ
heads_of a = a.first ∷ others a

-- The second leads, and h is put among those after it.
abbrev pub sunk : Heads → ℕ → Heads
sunk a h =
    let x2 = max a.h2 h in
    let x3 = max a.h3 x2 in
    let x4 = max a.h4 x3 in
    let x5 = max a.h5 x4 in
    record { slot = slot_of a.h1; first = a.h1; h1 = min a.h2 h; h2 = min a.h3 x2; h3 = min a.h4 x3; h4 = min a.h5 x4; h5 = min a.h6 x5; h6 = max a.h6 x5 }

-- One more, and the last goes.
abbrev pub pushed : Heads → ℕ → Heads
pushed a h = sunk (record { slot = 0; first = 0; h1 = min a.first h; h2 = a.h1; h3 = a.h2; h4 = a.h3; h5 = a.h4; h6 = a.h5 }) (max a.first h)

-- The first level has h next, at slot s, and it may stay ahead or not.
abbrev pub led : Heads → ℕ → ℕ → Heads
led a h s = cond (ltb h a.h1) (record { slot = s; first = h; h1 = a.h1; h2 = a.h2; h3 = a.h3; h4 = a.h4; h5 = a.h5; h6 = a.h6 }) (sunk a h)

-- The first record is passed.
abbrev pub passed : List ℕ → Heads → Heads
passed e a = led a (head_at e (level_of a.first) (next_of e a.slot)) (next_of e a.slot)

-- Past the last docket, at a level that there is not: 65,536 × 4,294,967,296 + 7 × 65,536.
abbrev pub no_head : ℕ
no_head = 281474977169408

abbrev pub blank : Heads
blank = record { slot = 0; first = no_head; h1 = no_head; h2 = no_head; h3 = no_head; h4 = no_head; h5 = no_head; h6 = no_head }

-- The first point that level i has to come, where its head is among some: no level has two.
abbrev pub point_in : List ℕ → ℕ → ℕ
point_in hs i = sum (λ h. cond (eqb (level_of h) i) (slot_of h) 0) hs

abbrev pub times_in : List ℕ → ℕ → ℕ
times_in hs i = sum (λ h. cond (eqb (level_of h) i) 1 0) hs

abbrev pub point : Heads → ℕ → ℕ
point a i = point_in (heads_of a) i

-- How many points are to come.
abbrev pub left : List ℕ → Heads → ℕ
left e a = sum (λ h. length (chain_from e (slot_of h))) (heads_of a)

-- A number is the head of one of n levels, or of none that has anything to come.
pub record Head (e : List ℕ) (n h : ℕ) : Type 0 where
  pub inside : slot_of h ≢ 0 → level_of h < n
  pub order : Ordered e (slot_of h)
  pub is : h ≡ head_at e (level_of h) (slot_of h)

-- Each of some numbers is no less than the one before it.
abbrev pub Rising : ℕ → List ℕ → Type 0
Rising least [] = Unit {0}
Rising least (h ∷ hs) = (least ≤ h) × Rising h hs

-- The heads of n levels, each at most once, in ascending order.
pub record Fits (e : List ℕ) (n : ℕ) (a : Heads) : Type 0 where
  pub each : All (Head e n) (heads_of a)
  pub once : (i : ℕ) → i < n → times_in (heads_of a) i ≤ 1
  pub rising : Rising a.first (others a)
  pub placed : a.slot ≡ slot_of a.first
