-- `lay_levels`: the loop keeps that the settings stand in the first row, and that the rows before `i` are those of the made table.
use mathlib.Core.Path.{◌≡◌, sym, ◌∙◌}
use Prim.Native.Nat.{◌+◌}
use native.Mathlib.Omega.{arith}
use Rattle.tables.specs.Rows.{no_row, settings_of}
use Rattle.tables.proofs.Rows.{length-set_settings, settings_same, settings_stay}
use Rattle.make_fresh.specs.Fresh.{made_levels}
use Rattle.make_fresh.proofs.Parts.{Agree, agree_none, agree_next}
use Rattle.make_fresh.proofs.Levels.{row_parts, length-made_levels, made_levels_row, levels_made}
use Rattle.make_fresh.proofs.lay_levels.Goals as goal
use Rattle.make_fresh.proofs.lay_levels.Goals.{After-clear_level}

pub loop-i-init : goal.loop-i-init
loop-i-init c =
    let a = c.args in
    let is = c.set_settings.ensures in
    let size = length-set_settings a.levels.now a.s ∙ c.requires ∙ sym (length-made_levels a.s) in
    record { settings = rw is (settings_same _ _ (omega arith)); rows = agree_none row_parts _ _ (rw is size) }

-- The rows up to this one are those of the made table.
next : (c : After-clear_level) → Agree row_parts (made_levels c.args.s) (c.loop-i.i + 1) c.clear_level.new.l
next c =
    let now = c.loop-i in
    let before = now.invariant.rows in
    let blank = made_levels_row c.args.s now.i (omega arith) in
    rw c.clear_level.ensures
    (agree_next row_parts _ _ now.i no_row before (omega (arith, before.size, length-made_levels c.args.s)) blank)

-- The settings stand beside every row.
stay : (c : After-clear_level) → settings_of c.clear_level.new.l ≡ c.args.s
stay c = rw c.clear_level.ensures (settings_stay _ _ _ ∙ c.loop-i.invariant.settings)

pub loop-i-preserved : goal.loop-i-preserved
loop-i-preserved c =
    let done = (goal.at.loop-i-preserved c).After-clear_level in
    record { settings = stay done; rows = next done }

pub returns-2 : goal.returns-2
returns-2 c =
    let done = (goal.at.returns-2 c).After-clear_level in
    let all : c.loop-i.i ≡ c.args.s.deepest = omega arith in
    levels_made c.args.s _ (stay done) (rw all at (next done))
