-- `levels_fit`: a table without a first row is too short, and the answer of the settings tells whether the row is allowed.
use Rattle.std.proofs.Common.{sym, ◌∙◌}
use Rattle.table_levels.proofs.Fits.{table_short, table_refused, table_accepted}
use Rattle.table_levels.proofs.levels_fit.Goals as goal

pub returns-then-l-lt-WORDS : goal.returns-then-l-lt-WORDS
returns-then-l-lt-WORDS c = table_short _ c.if-l-lt-WORDS.true

pub returns-in_default : goal.returns-in_default
returns-in_default c = table_refused _ (λ s q. c.in_default.not-Ok s (c.new.ensures ∙ q))

pub returns : goal.returns
returns c = rw c.level_length.ensures (table_accepted _ (sym c.new.ensures ∙ c.in-Ok.is))
