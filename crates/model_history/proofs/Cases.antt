-- What came into level 1 in worked lists, computed.
use mathlib.Core.Path.{refl}
use Rattle.lists.specs.Lists.{any, select, sum, merge, iterate}
use Rattle.settings.specs.Limits.{power, capacity, limit}
use Rattle.model.specs.Records.{fresh}
use Rattle.model.specs.Coverage.{covers}
use Rattle.model.specs.Merge.{later, merged, settled, joined, freed}
use Rattle.model.specs.Steps.{single, merge_state, merge_level, merge_all, enter_at, enter, set_points, wipe, act_deepest, crowded}
use Rattle.model.specs.Steps.{make_room, full, write, no_slot, overfull, overdue, due, pass_level, pass, still_due}
use Rattle.model.specs.Calls.{prepared, finish, step, run, answers}
use Rattle.model_history.specs.History.{came_after, merges_from, earliest, passing, events, history}
use Rattle.model_history.specs.Cases.{OwedTable}

pub owed_cases : OwedTable
unfolding any select covers sum merge iterate power capacity limit fresh later merged settled joined freed single merge_state merge_level merge_all enter_at
    enter set_points wipe act_deepest crowded make_room full write no_slot overfull overdue due pass_level pass still_due prepared finish step run
    answers came_after merges_from earliest passing events history
owed_cases = record { hidden_delete = refl; second_delete = refl; first_counts = refl; emptied = refl; script = refl }
