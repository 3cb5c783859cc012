-- The ● cases of document 01, proved as one table, the near misses and other edges as a second, and the ways of demand 3's premises as a third.
use mathlib.Core.Path.{◌≡◌, refl, ap, ◌∙◌}
use mathlib.Core.Logic.{◌≢◌}
use mathlib.Core.List.{[], ◌∷◌}
use Prim.Native.Nat.{ℕ, ◌+◌, ◌/◌}
use native.Mathlib.Omega.{arith}
use lib.Dec.{lit<, lit≤}
use Rattle.lists.specs.Lists.{any, select, sum, merge, iterate}
use Rattle.settings.specs.Limits.{power, capacity, limit}
use Rattle.settings.proofs.Limits.{limit_last, limit_first}
use Rattle.model.specs.declared.Tally.{Tally}
use Rattle.model.specs.Records.{Entry, value, tombstone, Point, State, fresh}
use Rattle.model.specs.Coverage.{over, covers}
use Rattle.model.specs.Merge.{later, merged, settled, joined, freed}
use Rattle.model.specs.Steps.{delete, delete_range, single, merge_state, merge_level, merge_all, enter_at, enter, set_points, wipe, act_deepest}
use Rattle.model.specs.Steps.{crowded, make_room, full, write, no_slot, overfull, overdue, due, pass_level, pass, still_due}
use Rattle.model.specs.Lookup.{live_from, scan, latest, find, lookup_from}
use Rattle.model.specs.Live.{all_points}
use Rattle.model.specs.Calls.{prepared, finish, step, run, answers}
use Rattle.model.specs.Erasure.{accepted}
use Rattle.model.specs.Cases.{settings, CaseTable, NearMissTable}
use Rattle.model.specs.Ways.{WayTable}

pub cases : CaseTable
unfolding any select over covers sum merge iterate power capacity limit fresh later merged settled joined freed single merge_state merge_level merge_all enter_at
    enter set_points wipe act_deepest crowded make_room full write no_slot overfull overdue due pass_level pass still_due latest find lookup_from prepared finish
    step run answers
cases = record {
  limits_3_2_9 = refl;
  limits_4_4_100 = refl;
  limits_3_10_10 = refl;
  limits_6_2_1 = refl;
  limits_2 = λ t b d h. ap (λ x. x ∷ limit (settings 2 t b d) 1 ∷ []) (limit_first (settings 2 t b d) h (lit≤ tt) refl) ∙ ap (λ x. d / (t + 1) ∷ x ∷ []) (limit_last (settings 2 t b d) h (lit≤ tt));
  one_slot = refl;
  tick_5_merges = refl;
  tick_4_does_not = refl;
  widest_range = refl;
  crossed_range = refl;
  dates = refl;
  same_clock = refl;
  up_to_the_date = refl;
  latest_of_all = refl;
  later_of_both = refl;
  judged_first = refl;
  acted_up_to_the_date = refl;
  priced = refl;
  priced_anew = refl;
  carried_4_4_100 = refl;
  limits_6_10_most = refl;
  long_term = refl;
  buffer_owes = refl;
  leaves_at_once = refl;
  script = refl;
  first_lookup = refl;
  second_lookup = refl;
}

pub near_misses : NearMissTable
unfolding any select over covers sum merge iterate power capacity limit fresh later merged settled joined freed single merge_state merge_level merge_all enter_at
    enter set_points wipe act_deepest crowded make_room full write no_slot overfull overdue due pass_level pass still_due live_from scan latest find lookup_from
    prepared finish step run answers
near_misses = record {
  owed_outlives_the_delete = refl;
  term_does_not_restart = refl;
  range_wipes_first = refl;
  range_is_obeyed_above = refl;
  range_spares_what_lies_before = refl;
  range_spares_what_lies_past = refl;
  not_full_early = refl;
  one_pass_many_merges = refl;
  equal_clock = refl;
  scan_no_rows = refl;
  scan_one_row = refl;
  scan_all = refl;
  merge_reveals_the_later = refl;
}

-- A part of all tallies of a state, added.
sums : (Tally → ℕ) → State (Unit {0}) Tally → ℕ
sums part s = sum number (all_points s.levels)
  where
    number : Point (Unit {0}) Tally → ℕ
    number p = of p.entry
      where
        of : Entry Tally → ℕ
        of (value a) = part a
        of tombstone = 0

-- States whose counts, and states whose prices, add up to numbers that differ are different.
apart : {s r t : State (Unit {0}) Tally} → ((sums (λ a. a.count) s ≡ sums (λ a. a.count) r) → ⊥) → ((sums (λ a. a.price) s ≡ sums (λ a. a.price) t) → ⊥)
    → (s ≢ r) × (s ≢ t)
apart c p = (λ e. c (ap (sums (λ a. a.count)) e), λ e. p (ap (sums (λ a. a.price)) e))

pub ways : WayTable
unfolding sums any select over covers sum merge iterate power capacity limit fresh later merged settled joined freed single merge_state merge_level merge_all
    enter_at enter set_points wipe act_deepest crowded make_room full write no_slot overfull overdue due pass_level pass still_due prepared finish step
    run accepted
ways = record {
  own_pass = λ v p. record { is_put = refl; after = lit< tt; write = delete 5; is_write = refl; covers = refl; accept = refl; term = lit≤ tt };
  waiting = λ v p. record { is_put = refl; after = lit< tt; write = delete 5; is_write = refl; covers = refl; accept = refl; term = lit≤ tt };
  making_room = λ v p. record { is_put = refl; after = lit< tt; write = delete 5; is_write = refl; covers = refl; accept = refl; term = lit≤ tt };
  acted = λ v p. record { is_put = refl; after = lit< tt; write = delete 5; is_write = refl; covers = refl; accept = refl; term = lit≤ tt };
  range = λ v p. record { is_put = refl; after = lit< tt; write = delete_range 4 6 2; is_write = refl; covers = refl; accept = refl; term = lit≤ tt };
  hidden = λ v p. record { is_put = refl; after = lit< tt; write = delete_range 4 6 1; is_write = refl; covers = refl; accept = refl; term = lit≤ tt };
  dated_acted = λ v p. record { is_put = refl; after = lit< tt; write = delete_range 4 6 1; is_write = refl; covers = refl; accept = refl; term = lit≤ tt };
  refused_put = λ v p. record { is_put = refl; after = lit< tt; write = delete 5; is_write = refl; covers = refl; accept = refl; term = lit≤ tt };
  full_put = λ v p. record { is_put = refl; after = lit< tt; write = delete 5; is_write = refl; covers = refl; accept = refl; term = lit≤ tt };
  later_put = λ v p. record { is_put = refl; after = lit< tt; write = delete 5; is_write = refl; covers = refl; accept = refl; term = lit≤ tt };
  later_put_range = λ v p. record { is_put = refl; after = lit< tt; write = delete_range 4 6 2; is_write = refl; covers = refl; accept = refl; term = lit≤ tt };
  too_early = apart (λ (h : 180 ≡ 181). omega arith) (λ (h : 17 ≡ 18). omega arith);
  refused_delete = apart (λ (h : 50 ≡ 51). omega arith) (λ (h : 3 ≡ 4). omega arith);
  other_docket = apart (λ (h : 50 ≡ 51). omega arith) (λ (h : 3 ≡ 4). omega arith);
  delete_first = apart (λ (h : 50 ≡ 51). omega arith) (λ (h : 3 ≡ 4). omega arith);
  after_the_date = apart (λ (h : 50 ≡ 51). omega arith) (λ (h : 3 ≡ 4). omega arith);
  term_from_the_date = apart (λ (h : 180 ≡ 181). omega arith) (λ (h : 17 ≡ 18). omega arith);
  hidden_alone = apart (λ (h : 231 ≡ 232). omega arith) (λ (h : 24 ≡ 25). omega arith);
}
