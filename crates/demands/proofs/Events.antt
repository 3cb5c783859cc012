-- What only reads among the timed calls leaves tables and answers as they are without it: by induction over the list, as each leaves the tables that it met.
use mathlib.Core.Path.{◌≡◌, refl, ap}
use mathlib.Core.List.{List, [], ◌∷◌}
use Prim.Native.Nat.{ℕ, zero, suc, ◌<◌}
use native.Mathlib.Omega.{arith}
use lib.ListN.{length, get_or, take}
use Rattle.call_tables.specs.Calls.{Tables, call_tables, run_tables, answers_tables}
use Rattle.demands.specs.Events.{Event, call, lookup_of, scan_of, lookup_count_of, scan_counts_of, Reply, reply, run_events, replies, calls_of, answers_of}

pub tables_without : (w : Tables) (es : List Event) → run_events w es ≡ run_tables w (calls_of es)
unfolding run_events run_tables calls_of
tables_without w [] = refl
tables_without w (call c ∷ es) = tables_without (call_tables w c).tables es
tables_without w (lookup_of k ∷ es) = tables_without w es
tables_without w (scan_of lo hi rows ∷ es) = tables_without w es
tables_without w (lookup_count_of k ∷ es) = tables_without w es
tables_without w (scan_counts_of lo hi rows ∷ es) = tables_without w es

pub answers_without : (w : Tables) (es : List Event) → answers_of (replies w es) ≡ answers_tables w (calls_of es)
unfolding replies answers_of answers_tables calls_of
answers_without w [] = refl
answers_without w (call c ∷ es) = ap (λ rs. (call_tables w c).answer ∷ rs) (answers_without (call_tables w c).tables es)
answers_without w (lookup_of k ∷ es) = answers_without w es
answers_without w (scan_of lo hi rows ∷ es) = answers_without w es
answers_without w (lookup_count_of k ∷ es) = answers_without w es
answers_without w (scan_counts_of lo hi rows ∷ es) = answers_without w es

-- The event at a place gives what it gives on the tables after the timed calls before it.
pub reply_there : (w : Tables) (es : List Event) (i : ℕ) (e : Event) (r : Reply) → i < length es
    → get_or (replies w es) i r ≡ reply (run_tables w (calls_of (take i es))) (get_or es i e)
unfolding replies run_tables calls_of
reply_there w [] i e r h = absurd (omega arith)
reply_there w (x ∷ es) zero e r h = refl
reply_there w (call c ∷ es) (suc i) e r h = reply_there (call_tables w c).tables es i e r (omega arith)
reply_there w (lookup_of k ∷ es) (suc i) e r h = reply_there w es i e r (omega arith)
reply_there w (scan_of lo hi rows ∷ es) (suc i) e r h = reply_there w es i e r (omega arith)
reply_there w (lookup_count_of k ∷ es) (suc i) e r h = reply_there w es i e r (omega arith)
reply_there w (scan_counts_of lo hi rows ∷ es) (suc i) e r h = reply_there w es i e r (omega arith)
