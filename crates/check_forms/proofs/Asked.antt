-- The code asks of a point once whether it is a put, and of a range not at all: the definition asks both for their kind and for what is owed.
use mathlib.Core.Path.{◌≡◌}
use mathlib.Core.Bool.{Bool, true, false, ◌&&◌, ◌||◌, not}
use mathlib.Core.List.{List}
use Prim.Native.Nat.{ℕ}
use native.Mathlib.Omega.{arith}
use lib.Dec.{leb, eqb}
use borrow.Author.Tests.{eqb-true}
use Rattle.tables.specs.Slots.{kind_of, lo_of, hi_of, stamp_of}
use Rattle.tables.specs.Sound.{is_range, is_untallied, is_stamped, order_key}
use Rattle.check_forms.specs.Forms.{record_fits, point_fits, range_fits}

put_once : (one put delete untallied next stamped owed : Bool)
    → one && (next && stamped) && (put || (delete && untallied && owed)) ≡ one && (put || (delete && untallied)) && (next && (stamped && (put || owed)))
put_once one put delete untallied next stamped owed = grind arith

no_put : (range put next stamped owed : Bool) → (range ≡ true → put ≡ false) → range && (next && stamped) && owed ≡ range && (next && (stamped && (put || owed)))
no_put range put next stamped owed other = grind arith

kind_asked : (a b c d : Bool) → a && (b && c && d) ≡ true → b ≡ true
kind_asked a b c d h = grind arith

module _ (e : List ℕ) (owed least s : ℕ) where
  -- What the code asks beside the kind.
  abbrev next : Bool
  next = leb least (order_key e s)

  abbrev owes : Bool
  owes = not (eqb owed 0) && leb owed (stamp_of e s)

  pub point_asked :
      eqb (lo_of e s) (hi_of e s) && (next && is_stamped e s) && (eqb (kind_of e s) 1 || (eqb (kind_of e s) 2 && is_untallied e s && owes))
      ≡ point_fits e owed least s
  unfolding record_fits point_fits
  point_asked = put_once (eqb (lo_of e s) (hi_of e s)) (eqb (kind_of e s) 1) (eqb (kind_of e s) 2) (is_untallied e s) next (is_stamped e s) owes

  pub range_asked : is_range e s && (next && is_stamped e s) && owes ≡ range_fits e owed least s
  unfolding record_fits range_fits
  range_asked = no_put (is_range e s) (eqb (kind_of e s) 1) next (is_stamped e s) owes other
    where
      other : is_range e s ≡ true → eqb (kind_of e s) 1 ≡ false
      other h = let third : kind_of e s ≡ 3 = eqb-true (kind_of e s) 3 (kind_asked (leb (lo_of e s) (hi_of e s)) (eqb (kind_of e s) 3) _ _ h) in rw third
