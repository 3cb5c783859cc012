-- Erasure without a tick: what a tick would erase that the store may sleep through is erased already.
use mathlib.Core.Path.{◌≡◌, refl, sym, ap, ◌∙◌}
use mathlib.Core.Bool.{true}
use mathlib.Core.List.{List, [], ◌∷◌, ◌++◌, map}
use Prim.Native.Nat.{ℕ, zero, suc, ◌+◌, ◌-◌, ◌<◌, ◌≤◌}
use native.Mathlib.Omega.{arith}
use lib.Dec.{ltb}
use lib.ListN.{length, get_or, set, get_or-append}
use lib.Seq.{get_or-append-add, set-append_left, map-set_same}
use borrow.Author.Tests.{ltb-true, ltb-false}
use Rattle.lists.proofs.Bools.{by_cases}
use Rattle.settings.specs.declared.Settings.{Settings}
use Rattle.settings.specs.Limits.{allowed}
use Rattle.settings.proofs.Allowed.{allowed_bounds}
use Rattle.model.specs.declared.Tally.{Tally}
use Rattle.model.specs.Records.{State, fresh, slotless}
use Rattle.model.specs.Steps.{Write, put}
use Rattle.model.specs.Calls.{Op, written, Call, count_written, run}
use Rattle.model.specs.Erasure.{call_at, retally, Erased}
use Rattle.model_wake.specs.Wake.{tick_at}
use Rattle.model_wake.proofs.Rest.{fresh-run_rests}
use Rattle.tables.specs.Slots.{clock_of, set_slot, set_clock}
use Rattle.tables.proofs.Back.{formed_holds}
use Rattle.make.specs.Make.{upto}
use Rattle.call_tables.specs.Calls.{Tables, Called, lent, call_tables, run_tables, tables_after}
use Rattle.demands.specs.Hidden.{tally_word, SameBut, without}
use Rattle.demands.specs.Sleep.{wake_of, Before, clocked}
use Rattle.demands.proofs.SameTables.{tallies_only, shown_same}
use Rattle.demands.proofs.Sleep.{settled_formed, sleeps_words, wake_same}
use Rattle.demands.proofs.Made as made

-- Another clock set, and the first one again.
clock_back : (e : List ℕ) (t : ℕ) → 5 ≤ length e → set_clock (set_clock e t) (clock_of e) ≡ e
unfolding set_slot
clock_back [] t h = absurd (omega arith)
clock_back (a ∷ []) t h = absurd (omega arith)
clock_back (a ∷ b ∷ []) t h = absurd (omega arith)
clock_back (a ∷ b ∷ c ∷ []) t h = absurd (omega arith)
clock_back (a ∷ b ∷ c ∷ d ∷ []) t h = absurd (omega arith)
clock_back (a ∷ b ∷ c ∷ d ∷ x ∷ e) t h = refl

run_one_more : (w : Tables) (cs : List (Call Tally)) (c : Call Tally) → run_tables w (cs ++ c ∷ []) ≡ (call_tables (run_tables w cs) c).tables
unfolding run_tables
run_one_more w [] c = refl
run_one_more w (x ∷ cs) c = run_one_more (call_tables w x).tables cs c

-- A write lies in the list, and is no tick behind it.
in_list : (cs : List (Call Tally)) (t j : ℕ) (w : Write Tally) → (call_at (cs ++ tick_at t ∷ []) j).op ≡ written w → j < length cs
in_list cs t j w is = by_cases (ltb j (length cs)) (λ q. ltb-true j (length cs) q) (λ q. absurd (past (j - length cs) (omega (arith, ltb-false j (length cs) q))))
  where
    none : (m : ℕ) → count_written (get_or (tick_at {A = Tally} t ∷ []) m (tick_at 0)).op ≡ 0
    none zero = refl
    none (suc m) = refl

    past : (m : ℕ) → j ≡ length cs + m → ⊥
    past m e =
        let at = ap (call_at (cs ++ tick_at t ∷ [])) e ∙ get_or-append-add cs (tick_at t ∷ []) m (tick_at 0) in
        omega (arith, ap count_written is, ap (λ (c : Call Tally). count_written c.op) at, none m)

module _ (n : ℕ) (s : Settings) (low : 1 ≤ n) (high : n ≤ 65535) (ok : allowed s ≡ true) where
  -- After any list the tables may sleep.
  tick_sleeps : (cs : List (Call Tally)) (t : ℕ) → 1 ≤ t → clock_of (tables_after n s cs).entries ≤ t → Before t (wake_of (tables_after n s cs))
      → tables_after n s (cs ++ tick_at t ∷ []) ≡ clocked t (tables_after n s cs)
  tick_sleeps cs t some later early =
      let p : State ℕ Tally = run (fresh s (upto n)) cs in
      let a = allowed_bounds s ok in
      let settled = settled_formed n p (made.formed n s low high ok cs) (fresh-run_rests s (upto n) cs (omega (arith, a.deepest_low)) (omega (arith, a.buffer_low))) in
      let is = made.runs n s low high ok cs in
      run_one_more _ cs (tick_at t)
      ∙ ap (λ (w : Tables). (call_tables w (tick_at t)).tables) is
      ∙ ap (λ (r : Called). r.tables) (sleeps_words n p (made.formed n s low high ok cs) settled t some (rw is at later) (rw is at early))
      ∙ ap (clocked t) (sym is)

  long : (cs : List (Call Tally)) → 5 ≤ length (tables_after n s cs).entries
  long cs = rw (made.runs n s low high ok cs) (omega (arith, (formed_holds n (run (fresh s (upto n)) cs) (made.formed n s low high ok cs)).room))

  back : (cs : List (Call Tally)) (t : ℕ) → clocked (clock_of (tables_after n s cs).entries) (clocked t (tables_after n s cs)) ≡ tables_after n s cs
  back cs t = ap (λ e. lent e (tables_after n s cs).levels) (clock_back (tables_after n s cs).entries t (long cs))

  pub asleep_leaves_nothing : (cs : List (Call Tally)) (t i j k : ℕ) (a v : Tally) → 1 ≤ t → clock_of (tables_after n s cs).entries ≤ t
      → Before t (wake_of (tables_after n s cs)) → Erased (slotless n s) (cs ++ tick_at t ∷ []) i j k a → tables_after n s (retally i k v cs) ≡ tables_after n s cs
  asleep_leaves_nothing cs t i j k a v some later early erased =
      let inside : i < length cs = omega (arith, erased.after, in_list cs t j erased.write erased.is_write) in
      let there : call_at (cs ++ tick_at t ∷ []) i ≡ call_at cs i = get_or-append cs (tick_at t ∷ []) (tick_at 0) i inside in
      let ds = retally i k v cs in
      let alike : map (without tally_word) cs ≡ map (without tally_word) ds =
      sym (map-set_same (without tally_word) cs i _ (tick_at 0) (ap (λ (op : Op Tally). without tally_word (record { clock = (call_at cs i).clock; op = op }))
      (sym (sym (ap (λ (c : Call Tally). c.op) there) ∙ erased.is_put)))) in
      let same : SameBut tally_word (tables_after n s cs) (tables_after n s ds) = made.words_blind n s low high ok tally_word cs ds alike in
      let clock = shown_same tally_word tallies_only _ _ same.entries 1 1 refl refl in
      let wakes = wake_same tally_word tallies_only (tables_after n s cs) (tables_after n s ds) same in
      let asleep = tick_sleeps cs t some later early in
      let other = tick_sleeps ds t some (rw clock at later) (rw wakes at early) in
      let moved : retally i k v (cs ++ tick_at t ∷ []) ≡ ds ++ tick_at t ∷ [] =
      ap (λ (c : Call Tally). set (cs ++ tick_at t ∷ []) i (record { clock = c.clock; op = written (put k v) })) there ∙ set-append_left cs (tick_at t ∷ []) i _ inside in
      let gone = made.erased n s low high ok (cs ++ tick_at t ∷ []) i j k a v erased in
      sym (back ds t) ∙ ap (clocked _) (sym other ∙ ap (tables_after n s) (sym moved) ∙ gone ∙ asleep)
      ∙ ap (λ c. clocked c (clocked t (tables_after n s cs))) (sym clock) ∙ back cs t
