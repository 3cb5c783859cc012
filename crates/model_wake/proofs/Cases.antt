-- The worked cases of when to wake, computed.
use mathlib.Core.Path.{refl}
use Rattle.lists.specs.Lists.{any, select, sum, merge, iterate}
use Rattle.settings.specs.Limits.{power, capacity, limit}
use Rattle.model.specs.Records.{fresh}
use Rattle.model.specs.Coverage.{over, covers}
use Rattle.model.specs.Merge.{later, merged, settled, joined, freed}
use Rattle.model.specs.Steps.{single, merge_state, merge_level, merge_all, enter_at, enter, set_points, wipe, act_deepest, crowded}
use Rattle.model.specs.Steps.{make_room, full, write, no_slot, overfull, overdue, due, pass_level, pass, still_due}
use Rattle.model.specs.Calls.{prepared, finish, step, run, answers}
use Rattle.model_wake.specs.Wake.{next_wake}
use Rattle.model_wake.specs.Cases.{WakeTable}

pub wake_cases : WakeTable
unfolding any select over covers sum merge iterate power capacity limit fresh later merged settled joined freed single merge_state merge_level merge_all enter_at
    enter set_points wipe act_deepest crowded make_room full write no_slot overfull overdue due pass_level pass still_due prepared finish step run
    answers next_wake
wake_cases = record {
  fresh = refl;
  puts_owe_nothing = refl;
  script = refl;
  shift_sleeps = refl;
  shift_merges = refl;
  deeper_first = refl;
  past_32_bits = refl;
  ticks_meet_the_bound = refl;
  writes_pass_it = refl;
  unsettled_wakes = refl;
  unsettled_merges = refl;
}
