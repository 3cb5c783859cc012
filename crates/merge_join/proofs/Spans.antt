-- Words of two halves: what each half is, and how two such words compare.
use mathlib.Core.Path.{◌≡◌}
use mathlib.Core.Bool.{true, false, ◌&&◌, ◌||◌}
use Prim.Native.Nat.{ℕ, ◌+◌, ◌*◌, ◌/◌, ◌%◌, ◌<◌, ◌≤◌}
use native.Mathlib.Omega.{arith}
use native.Mathlib.Decide.{ℕ_discrete, dec_lt}
use lib.Dec.{eqb, ltb}
use borrow.Author.Tests.{eqb-true, eq-eqb, ne_eqb, lt-ltb, le-ltb}
use Rattle.lists.proofs.Bools.{and_left, and_right, and_intro, bool_ext}

module _ (lo hi : ℕ) (low : lo ≤ 65535) where
  pub span_lo : (lo + 65536 * hi) % 65536 ≡ lo
  span_lo = omega arith

  pub span_hi : (lo + 65536 * hi) / 65536 ≡ hi
  span_hi = omega arith

-- The key that orders cells: lo above, hi below.
abbrev key : ℕ → ℕ → ℕ
key lo hi = lo * 65536 + hi

module _ (lo hi lo' hi' : ℕ) where
  key_less : key lo hi < key lo' hi' → ltb (key lo hi) (key lo' hi') ≡ true
  key_less = lt-ltb (key lo hi) (key lo' hi')

  key_more : key lo' hi' ≤ key lo hi → ltb (key lo hi) (key lo' hi') ≡ false
  key_more = le-ltb (key lo hi) (key lo' hi')

  -- Keys compare as lo does, then hi.
  pub key_before : hi ≤ 65535 → hi' ≤ 65535 → ltb (key lo hi) (key lo' hi') ≡ ltb lo lo' || (eqb lo lo' && ltb hi hi')
  key_before h h' = go (dec_lt lo lo') (ℕ_discrete lo lo') (dec_lt hi hi')
    where
      go : Dec (lo < lo') → Dec (lo ≡ lo') → Dec (hi < hi') → ltb (key lo hi) (key lo' hi') ≡ ltb lo lo' || (eqb lo lo' && ltb hi hi')
      go (yes a) b c = rw (lt-ltb lo lo' a) (key_less (omega arith))
      go (no a) (no b) c = rw (le-ltb lo lo' (omega arith), ne_eqb lo lo' b) (key_more (omega arith))
      go (no a) (yes b) (yes c) = rw (le-ltb lo lo' (omega arith), eq-eqb lo lo' b, lt-ltb hi hi' c) (key_less (omega arith))
      go (no a) (yes b) (no c) = rw (le-ltb lo lo' (omega arith), eq-eqb lo lo' b, le-ltb hi hi' (omega arith)) (key_more (omega arith))

  -- Spans are equal where both halves are.
  pub span_equal : lo ≤ 65535 → lo' ≤ 65535 → eqb (lo + 65536 * hi) (lo' + 65536 * hi') ≡ eqb lo lo' && eqb hi hi'
  span_equal h h' = bool_ext (eqb (lo + 65536 * hi) (lo' + 65536 * hi')) (eqb lo lo' && eqb hi hi')
      (λ q.
      let e = eqb-true (lo + 65536 * hi) (lo' + 65536 * hi') q in
      and_intro (eqb lo lo') (eqb hi hi') (eq-eqb lo lo' (omega arith)) (eq-eqb hi hi' (omega arith)))
      (λ q. eq-eqb (lo + 65536 * hi) (lo' + 65536 * hi')
      (omega (arith, eqb-true lo lo' (and_left (eqb lo lo') (eqb hi hi') q), eqb-true hi hi' (and_right (eqb lo lo') (eqb hi hi') q))))

-- A docket's key is the docket twice.
pub key_one : (a b : ℕ) → ltb (key a a) (key b b) ≡ ltb a b
key_one a b = go (dec_lt a b)
  where
    go : Dec (a < b) → ltb (key a a) (key b b) ≡ ltb a b
    go (yes h) = rw (lt-ltb a b h) (key_less a a b b (omega arith))
    go (no h) = rw (le-ltb a b (omega arith)) (key_more a a b b (omega arith))
