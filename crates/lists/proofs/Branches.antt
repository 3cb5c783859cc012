-- What a branch of the code tells of a test in a definition, when the code's numbers are those of the definition.
use mathlib.Core.Path.{◌≡◌, sym, ◌∙◌}
use mathlib.Core.Bool.{Bool, true, false, not}
use Prim.Native.Nat.{ℕ, ◌≤◌, ◌<◌}
use native.Mathlib.Omega.{arith}
use borrow.Author.Tests.{not-true, not-false, eq-eqb, ne_eqb, le-leb, lt-leb}
use lib.Dec.{leb, eqb}

pub fails : {answer test : Bool} → answer ≡ test → not answer ≡ true → test ≡ false
fails {answer} e n = sym e ∙ not-true answer n

pub holds : {answer test : Bool} → answer ≡ test → not answer ≡ false → test ≡ true
holds {answer} e n = sym e ∙ not-false answer n

module _ {a b c d : ℕ} (p : a ≡ b) (q : c ≡ d) where
  pub equal : a ≡ c → eqb b d ≡ true
  equal h = eq-eqb b d (omega arith)

  pub unequal : (a ≡ c → ⊥) → eqb b d ≡ false
  unequal h = ne_eqb b d (λ r. h (omega arith))

  pub upto : a ≤ c → leb b d ≡ true
  upto h = le-leb b d (omega arith)

  pub above : c < a → leb b d ≡ false
  above h = lt-leb b d (omega arith)
