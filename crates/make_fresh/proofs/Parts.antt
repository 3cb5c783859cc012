-- A table written part by part: what agrees with another in every part is the other.
use mathlib.Core.Path.{◌≡◌, sym, ◌∙◌}
use mathlib.Core.Logic.{◌≢◌}
use mathlib.Core.List.{List}
use Prim.Native.Nat.{ℕ, ◌+◌, ◌<◌}
use native.Mathlib.Omega.{arith}
use native.Mathlib.Decide.{ℕ_discrete}
use lib.ListN.{length}

-- The parts of a table, slots or rows: how one is read and written.
pub record Parts (A : Type 0) : Type 1 where
  pub at : List ℕ → ℕ → A
  pub put : List ℕ → ℕ → A → List ℕ
  pub has : List ℕ → ℕ → Type 0
  pub put_length : (e : List ℕ) (k : ℕ) (r : A) → length (put e k r) ≡ length e
  pub put_same : (e : List ℕ) (k : ℕ) (r : A) → has e k → at (put e k r) k ≡ r
  pub put_other : (e : List ℕ) (k : ℕ) (r : A) (t : ℕ) → k ≢ t → at (put e k r) t ≡ at e t

-- What a run of writes keeps: the table has the size of x, and its first k parts.
pub record Agree {A : Type 0} (d : Parts A) (x : List ℕ) (k : ℕ) (e : List ℕ) : Type 0 where
  pub size : length e ≡ length x
  pub parts : (t : ℕ) → t < k → d.at e t ≡ d.at x t

module _ {A : Type 0} (d : Parts A) (x : List ℕ) (e : List ℕ) where
  pub agree_none : length e ≡ length x → Agree d x 0 e
  agree_none l = record { size = l; parts = λ t h. absurd (omega arith) }

  pub agree_next : (k : ℕ) (r : A) → Agree d x k e → d.has e k → d.at x k ≡ r → Agree d x (k + 1) (d.put e k r)
  agree_next k r a h q = record { size = d.put_length e k r ∙ a.size; parts = λ t b. go t b (ℕ_discrete k t) }
    where
      go : (t : ℕ) → t < k + 1 → Dec (k ≡ t) → d.at (d.put e k r) t ≡ d.at x t
      go t b (yes s) = rw (← s) (d.put_same e k r h ∙ sym q)
      go t b (no s) = d.put_other e k r t s ∙ a.parts t (omega arith)
