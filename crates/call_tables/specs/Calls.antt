-- A timed call on the two tables, of any content: refused "by where they are found", else the step of the state that they read as.
use Rattle.std.specs.Prelude.{cond, List, [], ◌∷◌, ℕ, eqb}
use Rattle.settings.specs.declared.Settings.{Settings}
use Rattle.model.specs.declared.Tally.{Tally}
use Rattle.model.specs.Records.{State}
use Rattle.model.specs.Steps.{merge_all}
use Rattle.model.specs.Calls.{Answer, Call, Outcome, refusing, step}
use Rattle.model.specs.Calls as model
use Rattle.tables.specs.Slots.{slots_of}
use Rattle.tables.specs.Sound.{table_refusal}
use Rattle.tables.specs.Placed.{read_state, entry_words, level_words}
use Rattle.make_fresh.specs.Fresh.{made_entries, made_levels}

-- Every word of both tables.
pub record Tables : Type 0 where
  pub entries : List ℕ
  pub levels : List ℕ

-- The two tables that a call is lent.
abbrev pub lent : List ℕ → List ℕ → Tables
lent e l = record { entries = e; levels = l }

pub record Called : Type 0 where
  pub tables : Tables
  pub answer : Answer

-- What a state with slots writes into an entry table of n slots and into the level table.
abbrev pub words : ℕ → State ℕ Tally → Tables
words n p = record { entries = entry_words n p; levels = level_words p }

-- The words of what a step leaves, and its answer.
abbrev pub wrote : ℕ → Outcome ℕ Tally → Called
wrote n r = record { tables = words n r.state; answer = r.answer }

-- "by where they are found": refusals 1 to 3 leave the tables as they were; else the state that the tables read as takes its step and is written back.
unfoldable pub call_tables : Tables → Call Tally → Called
call_tables w c =
    cond (eqb (table_refusal w.entries w.levels) 0)
    (wrote (slots_of w.entries) (step (read_state w.entries w.levels) c))
    (record { tables = w; answer = refusing (table_refusal w.entries w.levels) })

-- A list of timed calls. "Lookups and scans write no word of the tables and may stand anywhere between."
unfoldable pub run_tables : Tables → List (Call Tally) → Tables
run_tables w [] = w
run_tables w (c ∷ cs) = run_tables (call_tables w c).tables cs

-- The tables of a store just made, with n slots; and after a list of timed calls.
abbrev pub made_tables : ℕ → Settings → Tables
made_tables n s = record { entries = made_entries n; levels = made_levels s }

abbrev pub tables_after : ℕ → Settings → List (Call Tally) → Tables
tables_after n s cs = run_tables (made_tables n s) cs

-- What the calls of the list answer.
unfoldable pub answers_tables : Tables → List (Call Tally) → List Answer
answers_tables w [] = []
answers_tables w (c ∷ cs) = (call_tables w c).answer ∷ answers_tables (call_tables w c).tables cs

-- The refusal's number, "by where they are found": the tables first, then the docket, the clock, the date, the free chain.
abbrev pub refusal_number : Tables → Call Tally → ℕ
refusal_number w c =
    cond (eqb (table_refusal w.entries w.levels) 0)
    (model.refusal_number (read_state w.entries w.levels) c)
    (table_refusal w.entries w.levels)

-- Levels 0 to L−1 merged in order, and nothing else: "tables stay merged, clock as before".
abbrev pub merged_tables : Tables → Tables
merged_tables w = words (slots_of w.entries) (merge_all (read_state w.entries w.levels)).state
