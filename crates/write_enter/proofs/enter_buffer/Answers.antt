-- Each of the two asks for the buffer as it is, and leaves it entered.
use Rattle.write_enter.proofs.enter_buffer.Goals as goal

pub enter_range-requires : goal.enter_range-requires
enter_range-requires c =
    record { enters = c.requires; ranged = c.in-Range.is }

pub enter_point-requires : goal.enter_point-requires
enter_point-requires c =
    record { enters = c.requires; pointed = c.in_default.not-Range }
