-- What the code returns of the buffer becomes its row.
use native.Mathlib.Omega.{arith}
use Rattle.merge_levels.proofs.Store.{laid_length}
use Rattle.write_enter.proofs.LaidEntries.{entry, entry_asked, entering_asked, row_fits, entry_ends}
use Rattle.write_enter.proofs.enter.Goals as goal

pub level_at-buffer-requires : goal.level_at-buffer-requires
level_at-buffer-requires c =
    omega (arith, laid_length _ _ _ c.requires.entering.has.laid)

pub enter_buffer-entered-requires : goal.enter_buffer-entered-requires
enter_buffer-entered-requires c =
    let x = c.requires.entering in
    record { value = entry x.value x.has.write; has = entering_asked x.has c.level_at-buffer.ensures }

pub set_level-requires : goal.set_level-requires
set_level-requires c =
    let x = c.requires.entering in
    record {
      in_rows = omega (arith, laid_length _ _ _ x.has.laid);
      points_bound = row_fits (c.enter_buffer-entered.ensures _ (entering_asked x.has c.level_at-buffer.ensures));
    }

pub returns : goal.returns
returns c =
    λ g v laid t is d day room.
    let n = c.enter_buffer-entered.ensures _ (entry_asked v laid t is d room c.level_at-buffer.ensures) in
    entry_ends v laid c.requires.le_clock t d day room n c.set_level.ensures
