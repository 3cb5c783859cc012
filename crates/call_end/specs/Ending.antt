-- What the parts of a call hand on up to its end.
use Rattle.std.specs.Prelude.{◌≡◌, List, ℕ, ◌+◌, ◌-◌, ◌≤◌, Ok}
use Rattle.model.specs.Records.{held_all}
use Rattle.model.specs.Steps.{begin, pass}
use Rattle.model.specs.Calls as model
use Rattle.tables.specs.Placed.{entry_words, level_words}
use Rattle.merge_levels.specs.Laid.{Store, Laid}
use Rattle.call_end.specs.declared.Answer.{Answer}
use Rattle.call_end.specs.Coded.{answer_of}

-- A call that has only its pass before it.
pub record Ending (g : Store) (e l : List ℕ) (t before merges : ℕ) : Type 0 where
  pub laid : Laid g e l
  pub time_is : g.time ≡ t
  pub few : merges ≤ 6
  pub enough : held_all (pass t (begin g.state)).state.levels ≤ before

pub record Ended (g : Store) (t before merges : ℕ) (e l : List ℕ) (r : Answer) : Type 0 where
  pub entries : e ≡ entry_words g.slots (model.timed t (pass t (begin g.state)).state)
  pub levels : l ≡ level_words (model.timed t (pass t (begin g.state)).state)
  pub answer : answer_of (Ok r)
      ≡ record { refusal = 0; merges = merges + (pass t (begin g.state)).merges; purged = before - held_all (pass t (begin g.state)).state.levels }
