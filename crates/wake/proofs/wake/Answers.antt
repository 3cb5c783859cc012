-- A refusal is answered as it is; on sound tables the smallest clock is.
use Rattle.std.proofs.Common.{List, ℕ, Option, Result, Ok, rules}
use Rattle.refusals.proofs.Numbers.{allowed_number, refused_answer, allowed_answer}
use Rattle.wake.specs.Wake.{owed_of, wake_tables}
use Rattle.model_wake.specs.Wake.{next_wake}
use Rattle.tables.specs.Rows.{settings_of}
use Rattle.wake.proofs.Answers.{sound_fits}
use Rattle.wake.proofs.wake.Goals as goal

-- What the definition answers where the tables are sound.
abbrev woken : List ℕ → Result (Option ℕ) ℕ
woken l = Ok (next_wake (settings_of l) (owed_of l))

pub returns-in_err-check_tables : goal.returns-in_err-check_tables
unfolding wake_tables
returns-in_err-check_tables c =
    let answered = refused_answer c.check_tables.ensures (woken c.args.levels.now) c.in_err-check_tables.was in
    search rules

pub next_wake-requires : goal.next_wake-requires
next_wake-requires c = sound_fits _ _ (allowed_number c.check_tables.ensures c.in_ok-check_tables.was)

pub returns : goal.returns
unfolding wake_tables
returns c =
    let answered = allowed_answer c.check_tables.ensures (woken c.args.levels.now) c.in_ok-check_tables.was in
    search rules
