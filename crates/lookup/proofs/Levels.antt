-- What each turn over the levels, and each way out, says of the whole lookup.
use mathlib.Core.Path.{◌≡◌, sym, ◌∙◌}
use mathlib.Core.List.{List}
use Prim.Native.Nat.{ℕ, suc, ◌+◌, ◌-◌, ◌<◌, ◌≤◌}
use native.Mathlib.Omega.{arith}
use native.Mathlib.Numerals.{add-one}
use Rattle.model.specs.declared.Tally.{Tally}
use Rattle.model.specs.Lookup as model
use Rattle.tables.specs.Rows.{settings_of}
use Rattle.tables.specs.Placed.{read_level, read_levels, read_state, levels_as, state_as}
use Rattle.lookup_level.specs.declared.Decided.{Decided}
use Rattle.lookup_level.specs.Answers.{level_decides, settle}
use Rattle.lookup_level.proofs.Answers.{lookup_decides}

-- The lookup in the levels from one on, so many as are left, with the latest date met above them.
abbrev pub look_from : List ℕ → List ℕ → ℕ → ℕ → ℕ → ℕ → model.Found Tally
look_from e l k left level date = model.lookup_from date (read_levels e l left level) k

module _ (e l : List ℕ) (k : ℕ) where
  pub look_all : (levels first : ℕ) → levels ≡ (settings_of l).deepest + 1 → first ≡ 0
      → look_from e l k levels first 0 ≡ model.lookup (read_state e l).levels k
  unfolding state_as
  look_all levels first q z = rw (q, z, add-one (settings_of l).deepest)

  pub look_none : (left level date : ℕ) → left ≡ 0 → look_from e l k left level date ≡ model.absent
  unfolding levels_as model.lookup_from
  look_none left level date z = rw z

  -- A level says d: then d, or what the levels from the next one on give.
  pub look_next : (left level date : ℕ) (d : Decided) → d ≡ level_decides date (read_level e l level) k
      → look_from e l k (suc left) level date ≡ settle d (look_from e l k left (suc level))
  unfolding levels_as
  look_next left level date d says = rw says (lookup_decides date (read_level e l level) (read_levels e l left (suc level)) k)

  -- The levels from one on, up to the deepest.
  abbrev pub look_on : ℕ → ℕ → model.Found Tally
  look_on level date = look_from e l k ((settings_of l).deepest + 1 - level) level date

  -- The level read is this one and has said d, which is w: it settles what all levels give, or leaves it to the next ones.
  pub look_turn : (level date next : ℕ) (all : model.Found Tally) (d w : Decided) {at : ℕ} → level ≤ (settings_of l).deepest → next ≡ suc level
      → look_on level date ≡ all → d ≡ level_decides date (read_level e l at) k → at ≡ level → d ≡ w → settle w (look_on next) ≡ all
  look_turn level date next all d w inside follows so_far read this is =
      let says : d ≡ level_decides date (read_level e l level) k = rw this at read in
      let more : (settings_of l).deepest + 1 - level ≡ suc ((settings_of l).deepest + 1 - suc level) = omega arith in
      let leads : look_on level date ≡ settle d (look_on (suc level)) = rw more (look_next ((settings_of l).deepest + 1 - suc level) level date d says) in
      rw (← is, follows) (sym leads ∙ so_far)

  pub look_over : (level date : ℕ) → (settings_of l).deepest < level → look_on level date ≡ model.absent
  look_over level date over = look_none ((settings_of l).deepest + 1 - level) level date (omega arith)
