-- The loop keeps: what is carried is that of its level, and the levels from it on lead from the clock found so far to the smallest of all.
use Rattle.std.proofs.Common.{◌≡◌, ◌+◌, sym, ap, ◌∙◌, arith}
use Rattle.settings.specs.declared.Settings.{Settings}
use Rattle.settings.specs.declared.LevelSettings.{LevelSettings}
use Rattle.settings.specs.Carried.{at_level}
use Rattle.settings.proofs.Allowed.{allowed_bounds}
use Rattle.settings.proofs.Carried.{carried_at}
use Rattle.model_wake.specs.Wake.{wake_level, sooner, next_wake}
use Rattle.tables.proofs.Lengths.{table_facts}
use Rattle.wake.specs.Wake.{owed_of}
use Rattle.wake.proofs.Turns.{from_first, from_end, from_next, fits_allowed}
use Rattle.wake.proofs.next_wake.Goals as goal

pub settings_of-settings-requires : goal.settings_of-settings-requires
settings_of-settings-requires c = omega (arith, (table_facts _ c.requires).number)

pub at_level-at-requires : goal.at_level-at-requires
at_level-at-requires c =
    let ok = fits_allowed _ c.requires c.settings_of-settings.ensures in
    record { self_value = ok; level_lt_deepest = omega (arith, (allowed_bounds _ ok).deepest_low) }

pub wake_level-requires : goal.wake_level-requires
wake_level-requires c =
    let ok = fits_allowed _ c.requires c.settings_of-settings.ensures in
    let deep = ap (λ (s : Settings). s.deepest) c.settings_of-settings.ensures in
    record {
      carried = carried_at _ _ (ok, c.loop-at-test.true) _ c.loop-at.invariant.0;
      in_rows = omega (arith, c.loop-at-test.true, deep, (table_facts _ c.requires).number);
    }

pub next-at-requires : goal.next-at-requires
next-at-requires c =
    carried_at _ _ (fits_allowed _ c.requires c.settings_of-settings.ensures, c.loop-at-test.true) _ c.loop-at.invariant.0

pub loop-at-preserved : goal.loop-at-preserved
loop-at-preserved c =
    let owed = owed_of c.args.l.now in
    let same : c.loop-at.at.settings ≡ c.settings_of-settings.result = ap (λ (x : LevelSettings). x.settings) c.loop-at.invariant.0 in
    let level_is : c.next-at.result.level ≡ c.loop-at.at.level + 1 = ap (λ (x : LevelSettings). x.level) c.next-at.ensures in
    let asked = ap (λ (s : Settings). wake_level s c.loop-at.at.level (owed c.loop-at.at.level)) same in
    let found = c.sooner-next.ensures ∙ ap (sooner c.loop-at.next) (c.wake_level.ensures ∙ asked) in (
      c.next-at.ensures ∙ ap (λ (s : Settings). at_level s (c.loop-at.at.level + 1)) same ∙ ap (at_level c.settings_of-settings.result) (sym level_is),
      omega (arith, level_is, c.loop-at-test.true),
      from_next _ owed c.loop-at.at.level c.next-at.result.level c.loop-at.next c.sooner-next.result c.loop-at-test.true level_is found ∙ c.loop-at.invariant.2,
    )

pub returns : goal.returns
returns c =
    let owed = owed_of c.args.l.now in
    let first : c.at_level-at.result.level ≡ 0 = ap (λ (x : LevelSettings). x.level) c.at_level-at.ensures in
    sym (from_end _ owed c.loop-at.at.level c.loop-at.next c.loop-at-test.false)
    ∙ c.loop-at.invariant.2
    ∙ from_first _ owed first
    ∙ ap (λ (s : Settings). next_wake s owed) c.settings_of-settings.ensures
