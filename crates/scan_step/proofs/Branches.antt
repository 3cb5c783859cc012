-- The ways in which a step can go.
use mathlib.Core.Path.{◌≡◌}
use mathlib.Core.Logic.{◌≢◌}
use mathlib.Core.Bool.{true, false}
use mathlib.Core.List.{List}
use Prim.Native.Nat.{ℕ, ◌+◌, ◌<◌, ◌≤◌}
use borrow.Author.Tests.{eq-eqb, ne_eqb, lt-ltb, le-ltb, le-leb, lt-leb, leb-false}
use lib.Dec.{leb}
use Rattle.lists.proofs.Bools.{or_false_left, or_false_right}
use Rattle.tables.specs.Slots.{kind_of, stamp_of}
use Rattle.scan_heads.specs.Heads.{passed}
use Rattle.scan_step.specs.declared.Sweep.{Sweep}
use Rattle.scan_step.specs.Sweeps.{next_key, is_hidden, told, standing, moved, gone, doubtful, neared}

module _ (e : List ℕ) (m : Sweep) where
  pub gone_before : next_key m < m.from → gone e m ≡ moved m (passed e m.heads) m.from
  gone_before lt = rw (lt-ltb (next_key m) m.from lt)

  module _ (le : m.from ≤ next_key m) where
    pub gone_hidden : is_hidden e m ≡ true → gone e m ≡ moved m (passed e m.heads) (next_key m + 1)
    gone_hidden is = rw (le-ltb (next_key m) m.from le, is)

    pub gone_delete : is_hidden e m ≡ false → kind_of e m.heads.slot ≢ 1 → gone e m ≡ moved m (passed e m.heads) (next_key m + 1)
    gone_delete is kind = rw (le-ltb (next_key m) m.from le, is, ne_eqb (kind_of e m.heads.slot) 1 kind)

    pub gone_found : is_hidden e m ≡ false → kind_of e m.heads.slot ≡ 1
        → gone e m ≡ told (moved m (passed e m.heads) (next_key m + 1)) 0 1 (next_key m) m.heads.slot
    gone_found is kind = rw (le-ltb (next_key m) m.from le, is, eq-eqb (kind_of e m.heads.slot) 1 kind)

  -- The fence is reached, or the date decides.
  pub doubtful_fenced : m.fence ≤ next_key m → doubtful e m ≡ true
  doubtful_fenced past = rw (le-leb m.fence (next_key m) past)

  pub doubtful_before : next_key m < m.fence → doubtful e m ≡ leb (stamp_of e m.heads.slot) m.date
  doubtful_before before = rw (lt-leb m.fence (next_key m) before)

  -- Where there is no doubt, the docket lies before the fence and the stamp is past the date.
  pub undoubted : doubtful e m ≡ false → (next_key m < m.fence) × (m.date < stamp_of e m.heads.slot)
  undoubted h = (
    leb-false m.fence (next_key m) (or_false_left (leb m.fence (next_key m)) (leb (stamp_of e m.heads.slot) m.date) h),
    leb-false (stamp_of e m.heads.slot) m.date (or_false_right (leb m.fence (next_key m)) (leb (stamp_of e m.heads.slot) m.date) h),
  )

  pub neared_stands : doubtful e m ≡ true → neared e m ≡ standing m 1
  neared_stands is = rw is

  pub neared-gone : doubtful e m ≡ false → neared e m ≡ gone e m
  neared-gone is = rw is
