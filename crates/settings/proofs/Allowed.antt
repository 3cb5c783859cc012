-- What it means that settings are allowed and that a level lies from one to L−1: the named bounds; and back of one range.
use mathlib.Core.Path.{◌≡◌}
use mathlib.Core.Bool.{true, ◌&&◌, and-eq-true_iff}
use Prim.Native.Nat.{ℕ, ◌-◌, ◌≤◌, ◌<◌}
use native.Mathlib.Omega.{arith}
use borrow.Author.Tests.{leb-true, le-leb}
use lib.Dec.{leb}
use Rattle.settings.specs.declared.Settings.{Settings}
use Rattle.settings.specs.Limits.{within, allowed}
use Rattle.settings.specs.Checked.{level_from}

-- "2 to 6", "2 to 10", "1 to 64" and "1 to 4,294,967,295".
pub record Allowed (s : Settings) : Type 0 where
  pub deepest_low : 2 ≤ s.deepest
  pub deepest_high : s.deepest ≤ 6
  pub ratio_low : 2 ≤ s.ratio
  pub ratio_high : s.ratio ≤ 10
  pub buffer_low : 1 ≤ s.buffer
  pub buffer_high : s.buffer ≤ 64
  pub term_low : 1 ≤ s.term
  pub term_high : s.term ≤ 4294967295

-- Levels low to L−1.
pub record LevelFrom (low : ℕ) (s : Settings) (i : ℕ) : Type 0 where
  pub settings : Allowed s
  pub level_low : low ≤ i
  pub level_high : i < s.deepest

pub within_bounds : (low x high : ℕ) → within low x high ≡ true → (low ≤ x) × (x ≤ high)
within_bounds low x high e =
    let both = (and-eq-true_iff (leb low x) (leb x high)).0 e in
    (leb-true low x both.0, leb-true x high both.1)

pub within-true : (low x high : ℕ) → low ≤ x → x ≤ high → within low x high ≡ true
within-true low x high l h = rw (le-leb low x l, le-leb x high h)

pub allowed_bounds : (s : Settings) → allowed s ≡ true → Allowed s
unfolding allowed
allowed_bounds s e =
    let deepest = within 2 s.deepest 6 in
    let ratio = within 2 s.ratio 10 in
    let buffer = within 1 s.buffer 64 in
    let term = within 1 s.term 4294967295 in
    let four = (and-eq-true_iff (deepest && ratio && buffer) term).0 e in
    let three = (and-eq-true_iff (deepest && ratio) buffer).0 four.0 in
    let both = (and-eq-true_iff deepest ratio).0 three.0 in
    let d = within_bounds 2 s.deepest 6 both.0 in
    let r = within_bounds 2 s.ratio 10 both.1 in
    let b = within_bounds 1 s.buffer 64 three.1 in
    let t = within_bounds 1 s.term 4294967295 four.1 in
    record {
      deepest_low = d.0;
      deepest_high = d.1;
      ratio_low = r.0;
      ratio_high = r.1;
      buffer_low = b.0;
      buffer_high = b.1;
      term_low = t.0;
      term_high = t.1;
    }

module _ (low : ℕ) (s : Settings) (i : ℕ) where
  pub level_from-allowed : level_from low s i ≡ true → allowed s ≡ true
  level_from-allowed e = ((and-eq-true_iff (allowed s) (within low i (s.deepest - 1))).0 e).0

  pub level_from_bounds : level_from low s i ≡ true → LevelFrom low s i
  level_from_bounds e =
      let both = (and-eq-true_iff (allowed s) (within low i (s.deepest - 1))).0 e in
      let a = allowed_bounds s both.0 in
      let l = within_bounds low i (s.deepest - 1) both.1 in
      record { settings = a; level_low = l.0; level_high = omega arith }
