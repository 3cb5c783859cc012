-- `chains_fit`: the words beside the chains are tested, then the free chain is walked, then the levels over its marks, as `chains_checked` says.
use mathlib.Core.Path.{◌≡◌, sym, ◌∙◌}
use mathlib.Core.Bool.{true, false}
use native.Mathlib.Omega.{arith}
use Rattle.tables.specs.Slots.{slots_of}
use Rattle.check_walk.proofs.Unmarked.{unmarked_le}
use Rattle.check_walk.proofs.Passed.{walk_sum}
use Rattle.check_chains.specs.Levels.{words_fit, chains_checked}
use Rattle.check_chains.proofs.Levels.{chains_fail, chains_go}
use Rattle.check_chains.proofs.chains_fit.Goals as goal
use Rattle.check_chains.proofs.chains_fit.Goals.{After-first_free}

words : (c : After-first_free) → words_fit c.args.e.now c.args.l.now ≡ true
words c = sym c.words_fit.ensures ∙ c.if-not-words_fit.false

pub returns-then-not-words_fit : goal.returns-then-not-words_fit
unfolding chains_checked
returns-then-not-words_fit c =
    let words : words_fit c.args.e.now c.args.l.now ≡ false = sym c.words_fit.ensures ∙ c.if-not-words_fit.true in
    rw words

pub levels_fit-requires-clause-marks_bound : goal.levels_fit-requires-clause-marks_bound
levels_fit-requires-clause-marks_bound c =
    omega (arith, walk_sum _ _ _ _ _ (omega arith) (rw c.in-Some.is at c.walk.ensures), unmarked_le (slots_of c.args.e.now) c.args.marks.now)

pub returns-in-Some : goal.returns-in-Some
returns-in-Some c =
    c.levels_fit.ensures
    ∙ chains_go _ _ _ (words (goal.at.returns-in-Some c).After-first_free) c.first_free.ensures c.walk.ensures c.in-Some.is

pub returns-in-None : goal.returns-in-None
returns-in-None c =
    chains_fail _ _ _ (words (goal.at.returns-in-None c).After-first_free) c.first_free.ensures c.walk.ensures c.in-None.is
