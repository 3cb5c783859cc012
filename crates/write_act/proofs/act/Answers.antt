-- On level L a put changes its docket's tally and stamp, a delete wipes what it covers.
use native.Mathlib.Omega.{arith}
use borrow.Author.Rules.{rules}
use Rattle.chain_sieve.proofs.Decisions.{decides}
use Rattle.merge_levels.proofs.Store.{laid_length, laid_deepest}
use Rattle.write_record.specs.Records.{displaces}
use Rattle.write_record.proofs.OneLevel.{points_of}
use Rattle.write_act.proofs.LaidActs.{deepest_points, overwrite_asked, wipe_asked, fewer_gone, wiped_row_fits, put_ends, wipe_ends}
use Rattle.write_act.proofs.act.Goals as goal

pub deepest_of-deepest-requires : goal.deepest_of-deepest-requires
deepest_of-deepest-requires c =
    omega (arith, laid_length _ _ _ c.requires.stored.has.0)

pub level_at-level-requires : goal.level_at-level-requires
level_at-level-requires c =
    let laid = c.requires.stored.has.0 in
    omega (arith, c.deepest_of-deepest.ensures, laid_length _ _ _ laid, laid_deepest _ _ _ laid)

pub overwrite-requires : goal.overwrite-requires
overwrite-requires c =
    let x = c.requires.stored in
    record { value = deepest_points x.value; has = overwrite_asked x.has.0 c.deepest_of-deepest.ensures c.level_at-level.ensures }

pub returns-in-Put : goal.returns-in-Put
returns-in-Put c =
    λ g v laid t is d.
    let done = c.overwrite.ensures _ (overwrite_asked laid c.deepest_of-deepest.ensures c.level_at-level.ensures) in
    put_ends laid (rw t c.requires.le_clock) v is c.in-Put.is t done

pub sieve-points-requires : goal.sieve-points-requires
sieve-points-requires c =
    let x = c.requires.stored in
    record {
      held = record {
        value = points_of x.value x.value.state.settings.deepest;
        has = wipe_asked x.has.0 c.deepest_of-deepest.ensures c.level_at-level.ensures;
      };
      decides = record { value = displaces c.args.w; has = search (rules, decides) };
    }

pub overflow_sub-left : goal.overflow_sub-left
overflow_sub-left c =
    let laid = c.requires.stored.has.0 in
    let deep = c.deepest_of-deepest.ensures in
    let row = c.level_at-level.ensures in
    fewer_gone laid deep row (c.sieve-points.ensures _ (displaces c.args.w) (search (rules, decides)) (wipe_asked laid deep row))

pub set_level-requires : goal.set_level-requires
set_level-requires c =
    let laid = c.requires.stored.has.0 in
    let deep = c.deepest_of-deepest.ensures in
    let row = c.level_at-level.ensures in
    let wiped = c.sieve-points.ensures _ (displaces c.args.w) (search (rules, decides)) (wipe_asked laid deep row) in
    record {
      in_rows = omega (arith, deep, laid_length _ _ _ laid, laid_deepest _ _ _ laid);
      points_bound = wiped_row_fits laid deep row wiped;
    }

pub returns-in_default : goal.returns-in_default
returns-in_default c =
    λ g v laid t is d.
    let deep = c.deepest_of-deepest.ensures in
    let row = c.level_at-level.ensures in
    let wiped = c.sieve-points.ensures _ (displaces c.args.w) (search (rules, decides)) (wipe_asked laid deep row) in
    wipe_ends laid (rw t c.requires.le_clock) v is c.in_default.not-Put deep row wiped c.set_level.ensures
