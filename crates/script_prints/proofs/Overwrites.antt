-- Laws of overwriting bytes with a text.
use mathlib.Core.Path.{◌≡◌, refl, sym}
use mathlib.Core.List.{List, [], ◌∷◌, ◌++◌, append_assoc}
use Prim.Native.Nat.{ℕ, ◌+◌, ◌≤◌, ◌<◌}
use native.Mathlib.Numerals.{add-one}
use native.Mathlib.Nat.{add-zero, add_assoc}
use native.Mathlib.Omega.{arith}
use lib.ListN.{length, take, drop, set, length-append, length-take, take-append-drop}
use lib.Seq.{take_at, drop_at, drop-drop, set_split}
use Rattle.script_prints.specs.Texts.{overwrite}

pub overwrite_none : (bytes : List ℕ) (at : ℕ) → overwrite bytes at [] ≡ bytes
unfolding overwrite
overwrite_none bytes at = rw (add-zero at) (take-append-drop at bytes)

-- A text, then a text after it.
pub overwrite_append : (bytes : List ℕ) (at : ℕ) (s t : List ℕ) → at + length s ≤ length bytes
    → overwrite (overwrite bytes at s) (at + length s) t ≡ overwrite bytes at (s ++ t)
unfolding overwrite
overwrite_append bytes at s t room =
    let head = take at bytes ++ s in
    let rest = drop (at + length s) bytes in
    let ends : length head ≡ at + length s = simp (length-append, length-take) (omega arith) in
    let joined : take at bytes ++ (s ++ rest) ≡ head ++ rest = sym (append_assoc (take at bytes) s rest) in
    rw (
      joined,
      take_at head rest (at + length s) ends,
      ← (drop-drop (length t) (at + length s) (head ++ rest)),
      drop_at head rest (at + length s) ends,
      drop-drop (length t) (at + length s) bytes,
      length-append s t,
      ← (add_assoc at (length s) (length t)),
    )
    (simp append_assoc)

-- A byte is a text.
pub overwrite-byte : (bytes : List ℕ) (at byte : ℕ) → at < length bytes → set bytes at byte ≡ overwrite bytes at (byte ∷ [])
unfolding overwrite
overwrite-byte bytes at byte room = rw (add-one at) (set_split bytes at byte room)

-- A text was printed from a position on, which leaves the bytes and the position after it.
abbrev pub Printed : List ℕ → ℕ → List ℕ → ℕ → List ℕ → Type 0
Printed entry at text end out = (end ≡ at + length text) × (out ≡ overwrite entry at text)

pub printed_byte : (bytes : List ℕ) (at byte : ℕ) → at < length bytes → Printed bytes at (byte ∷ []) (at + 1) (set bytes at byte)
printed_byte bytes at byte room = (refl, overwrite-byte bytes at byte room)

pub printed_append : (entry middle out : List ℕ) (at between end : ℕ) (s t : List ℕ) → at + length s ≤ length entry
    → Printed entry at s between middle → Printed middle between t end out → Printed entry at (s ++ t) end out
printed_append entry middle out at between end s t room p q =
    (omega (arith, p.0, q.0, length-append s t), rw (q.1, p.0, p.1) (overwrite_append entry at s t room))
