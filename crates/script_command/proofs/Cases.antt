-- The cases of the script, run by the definitions.
use mathlib.Core.Path.{refl}
use Rattle.lists.specs.Lists.{any, every, count, select, sum, merge, iterate}
use Rattle.settings.specs.Limits.{allowed, power, capacity, limit}
use Rattle.model.specs.Records.{fresh}
use Rattle.model.specs.Coverage.{over, covers}
use Rattle.model.specs.Merge.{later, merged, settled, joined, freed}
use Rattle.model.specs.Steps.{single, merge_state, merge_level, merge_all, enter_at, enter, set_points, wipe, act_deepest, crowded}
use Rattle.model.specs.Steps.{make_room, full, write, no_slot, overfull, overdue, due, pass_level, pass, still_due}
use Rattle.model.specs.Lookup.{latest, find, lookup_from}
use Rattle.model.specs.Calls.{prepared, finish, step}
use Rattle.tables.specs.Slots.{set_slot, slot_words}
use Rattle.tables.specs.Rows.{row_words, level_table}
use Rattle.tables.specs.Sound.{chain, ascend, level_sound, levels_sound, record_slots, once_each, chains_sound, entries_fit, levels_fit, table_refusal}
use Rattle.tables.specs.Placed.{levels_as, state_as, lay, lay_all, entry_words, level_words}
use Rattle.make_fresh.specs.Fresh.{free_slots, made_entries, made_levels}
use Rattle.make.specs.Make.{make_tables}
use Rattle.lookup.specs.Lookup.{lookup_tables}
use Rattle.call_tables.specs.Calls.{call_tables}
use Rattle.script_fields.specs.Numbers.{digits, decimal}
use Rattle.script_lines.specs.Lines.{fields, line_of}
use Rattle.script_lines.specs.Cases.{bytes}
use Rattle.script_store.specs.Memory.{makes, does, finds}
use Rattle.script_command.specs.Script.{command_step, line_step}
use Rattle.script_command.specs.Cases.{prints, CaseTable}

pub cases : CaseTable
unfolding any every count select over covers sum merge iterate allowed power capacity limit fresh later merged settled joined freed single merge_state merge_level
    merge_all enter_at enter set_points wipe act_deepest crowded make_room full write no_slot overfull overdue due pass_level pass
    still_due latest find lookup_from prepared finish step set_slot chain ascend level_sound levels_sound record_slots once_each chains_sound entries_fit
    levels_fit table_refusal levels_as state_as lay lay_all entry_words slot_words row_words level_table level_words free_slots made_entries made_levels
    make_tables lookup_tables call_tables digits decimal fields line_of bytes makes does finds command_step line_step prints
cases = record {
  script = refl;
  before_a_make = refl;
  refused_makes = refl;
  made_anew = refl;
  by_lay_date = refl;
  priced = refl;
}
