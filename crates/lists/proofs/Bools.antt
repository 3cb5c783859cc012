-- Laws of Bool and of a choice by one.
use mathlib.Core.Path.{◌≡◌, refl, sym, ◌∙◌}
use mathlib.Core.Bool.{Bool, true, false, cond, ◌&&◌, ◌||◌, false≢true, true≢false}
use Prim.Native.Nat.{ℕ}
use borrow.Author.Tests.{eq-eqb, eqb-true}
use lib.Dec.{eqb}

-- A function goes into both branches.
pub cond_ap {ℓ κ} : {X : Type ℓ} {Y : Type κ} (g : X → Y) (b : Bool) (x y : X) → g (cond b x y) ≡ cond b (g x) (g y)
cond_ap g true x y = refl
cond_ap g false x y = refl

-- What holds of each branch, where it is taken, holds of the choice.
pub cond_elim {ℓ κ} : {X : Type ℓ} (P : X → Type κ) (b : Bool) (x y : X) → (b ≡ true → P x) → (b ≡ false → P y) → P (cond b x y)
cond_elim P true x y p q = p refl
cond_elim P false x y p q = q refl

pub cond_same {ℓ} : {X : Type ℓ} (b : Bool) (x : X) → cond b x x ≡ x
cond_same true x = refl
cond_same false x = refl

-- A choice whose second branch says false.
pub cond_and {ℓ} : {X : Type ℓ} (says : X → Bool) (b : Bool) (x y : X) → says y ≡ false → says (cond b x y) ≡ b && says x
cond_and says true x y q = refl
cond_and says false x y q = q

-- A statement by the outcome of a test.
pub by_cases {ℓ} : {P : Type ℓ} (b : Bool) → (b ≡ true → P) → (b ≡ false → P) → P
by_cases true p q = p refl
by_cases false p q = q refl

pub both_false : {P : Type 0} {b : Bool} → b ≡ true → b ≡ false → P
both_false p q = absurd (true≢false (sym p ∙ q))

pub and_left : (a b : Bool) → a && b ≡ true → a ≡ true
and_left true b h = refl
and_left false b h = h

pub and_right : (a b : Bool) → a && b ≡ true → b ≡ true
and_right true b h = h
and_right false b h = absurd (false≢true h)

pub and_intro : (a b : Bool) → a ≡ true → b ≡ true → a && b ≡ true
and_intro true b p q = q
and_intro false b p q = p

-- What is asked second is asked where the first holds.
pub and_ap : (a : Bool) {b c : Bool} → (a ≡ true → b ≡ c) → a && b ≡ a && c
and_ap true q = q refl
and_ap false q = refl

pub and_false_left : (a b : Bool) → a ≡ false → a && b ≡ false
and_false_left true b h = absurd (true≢false h)
and_false_left false b h = refl

pub and_false_right : (a b : Bool) → b ≡ false → a && b ≡ false
and_false_right true b h = h
and_false_right false b h = refl

-- If both do not hold and the first does, the second does not.
pub and_second_false : (a b : Bool) → a && b ≡ false → a ≡ true → b ≡ false
and_second_false true b h p = h
and_second_false false b h p = absurd (false≢true p)

pub or_left : (a b : Bool) → a ≡ true → a || b ≡ true
or_left true b h = refl
or_left false b h = absurd (false≢true h)

pub or_right : (a b : Bool) → b ≡ true → a || b ≡ true
or_right true b h = refl
or_right false b h = h

pub or_false_left : (a b : Bool) → a || b ≡ false → a ≡ false
or_false_left true b h = h
or_false_left false b h = refl

pub or_false_right : (a b : Bool) → a || b ≡ false → b ≡ false
or_false_right true b h = absurd (true≢false h)
or_false_right false b h = h

pub or_false_intro : (a b : Bool) → a ≡ false → b ≡ false → a || b ≡ false
or_false_intro true b p q = p
or_false_intro false b p q = q

pub or_second : (a b : Bool) → a || b ≡ true → a ≡ false → b ≡ true
or_second true b h p = absurd (true≢false p)
or_second false b h p = h

pub or_swap : (a b c : Bool) → a || (b || c) ≡ b || (a || c)
or_swap true true c = refl
or_swap true false c = refl
or_swap false b c = refl

pub or_assoc : (a b c : Bool) → a || b || c ≡ a || (b || c)
or_assoc true b c = refl
or_assoc false b c = refl

pub or_false : (a : Bool) → a || false ≡ a
or_false true = refl
or_false false = refl

-- Two tests that imply one another are equal.
pub bool_ext : (a b : Bool) → (a ≡ true → b ≡ true) → (b ≡ true → a ≡ true) → a ≡ b
bool_ext true true p q = refl
bool_ext true false p q = sym (p refl)
bool_ext false true p q = q refl
bool_ext false false p q = refl

pub eqb_sym : (a b : ℕ) → eqb a b ≡ eqb b a
eqb_sym a b = bool_ext (eqb a b) (eqb b a) (λ h. eq-eqb b a (sym (eqb-true a b h))) (λ h. eq-eqb a b (sym (eqb-true b a h)))
