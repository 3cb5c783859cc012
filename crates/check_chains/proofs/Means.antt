-- That the check, in the order of the code, is the definition, sentence by sentence.
use mathlib.Core.Path.{◌≡◌, refl, sym, ap, ◌∙◌}
use mathlib.Core.Logic.{◌≢◌}
use mathlib.Core.Bool.{Bool, ◌&&◌, ◌||◌, not, and_assoc}
use mathlib.Core.List.{List, [], ◌∷◌, ◌++◌}
use Prim.Native.Nat.{ℕ, zero, suc, ◌+◌, ◌*◌, ◌<◌}
use native.Mathlib.Omega.{arith}
use borrow.Author.Tests.{ne_eqb}
use lib.Dec.{leb, eqb}
use lib.ListN.{length, length-append}
use Rattle.lists.specs.Lists.{none, every}
use Rattle.lists.specs.All.{All}
use Rattle.lists.proofs.Bools.{cond_and}
use Rattle.lists.proofs.Tests.{all_append}
use Rattle.tables.specs.Slots.{slots_of, first_free, clock_of}
use Rattle.tables.specs.Rows.{settings_of, level_row}
use Rattle.tables.specs.Sound.{free_chain, point_chain, range_chain, is_free, is_point, is_range, order_key, ascend, is_stamped}
use Rattle.tables.specs.Sound.{owed_before, level_sound, levels_sound, record_slots, every_slot_once, chains_sound, top_blank}
use Rattle.std.specs.Prelude.{is_some}
use Rattle.check_forms.specs.Forms.{record_fits, free_fits, point_fits, range_fits}
use Rattle.check_walk.specs.Slots.{Asked}
use Rattle.check_walk.specs.Walks.{Marked, walked}
use Rattle.check_walk.proofs.Chains.{chain_nonzero}
use Rattle.check_walk.proofs.Each.{unmarked_each, mark_each, each_append}
use Rattle.check_walk.proofs.Passed.{rows_fit, walk_means, walk_passes, after_asks}
use Rattle.check_level.specs.Levels.{numbers_fit, leveled, fitting}
use Rattle.check_level.proofs.Passed.{level_slots, level_asks, level_passes}
use Rattle.check_chains.specs.Levels.{unfit, levels_checked, words_fit, chains_checked}
use Rattle.check_chains.proofs.Once.{Blank, marks_mean_once}

and_swap : (a b x y : Bool) → (a && b) && (x && y) ≡ (a && x) && (b && y)
and_swap a b x y = grind arith

-- The rows of a chain, one sentence for all of them at a time.
free_rows : (e : List ℕ) (least : ℕ) (ss : List ℕ) → rows_fit free_fits e 0 least ss ≡ every (is_free e) ss
unfolding rows_fit free_fits every
free_rows e least [] = refl
free_rows e least (s ∷ ss) = ap (λ (b : Bool). is_free e s && b) (free_rows e (order_key e s + 1) ss)

rows_bool : (a b c d x y z w : Bool) → (a && (b && (c && d))) && ((x && y) && (z && w)) ≡ ((a && x) && (b && y)) && ((c && z) && (d && w))
rows_bool a b c d x y z w = grind arith

-- Points and ranges ask for their form, and what is asked of every record.
module _ (e : List ℕ) (owed : ℕ) (asked : Asked) (form : ℕ → Bool) (is : (least s : ℕ) → asked e owed least s ≡ form s && record_fits e owed least s) where
  record_rows : (least : ℕ) (ss : List ℕ)
      → rows_fit asked e owed least ss ≡ (every form ss && ascend e least ss) && (every (is_stamped e) ss && every (owed_before e owed) ss)
  unfolding rows_fit record_fits every ascend
  record_rows least [] = refl
  record_rows least (s ∷ ss) =
      rw (is least s, record_rows (order_key e s + 1) ss)
      (rows_bool (form s) (leb least (order_key e s)) (is_stamped e s) (owed_before e owed s)
      (every form ss) (ascend e (order_key e s + 1) ss) (every (is_stamped e) ss) (every (owed_before e owed) ss))

pub every_append : (t : ℕ → Bool) (xs ys : List ℕ) → every t (xs ++ ys) ≡ every t xs && every t ys
unfolding every
every_append t [] ys = refl
every_append t (x ∷ xs) ys = ap (λ (b : Bool). t x && b) (every_append t xs ys) ∙ sym (and_assoc (t x) (every t xs) (every t ys))

none-length : (ss : List ℕ) → eqb (length ss) 0 ≡ none ss
none-length [] = refl
none-length (s ∷ ss) = ne_eqb (suc (length ss)) 0 (omega arith)

-- A level's sentences, gathered from its two chains and its numbers.
level_bool : (x y s₁ o₁ s₂ o₂ n c z : Bool)
    → (x && (s₁ && o₁)) && ((y && (s₂ && o₂)) && (n && (c && z))) ≡ x && y && (s₁ && s₂) && (o₁ && o₂) && n && c && z
level_bool x y s₁ o₁ s₂ o₂ n c z = grind arith

module _ (e l : List ℕ) (i : ℕ) where
  level_rows : rows_fit point_fits e (level_row l i).owed 0 (point_chain e l i)
      && (rows_fit range_fits e (level_row l i).owed 0 (range_chain e l i) && numbers_fit e l i (length (level_slots e l i)))
      ≡ level_sound e l i
  unfolding level_sound numbers_fit point_fits range_fits
  level_rows =
      let owed = (level_row l i).owed in
      let ps = point_chain e l i in
      let rs = range_chain e l i in
      rw (
        record_rows e owed point_fits (is_point e) (λ least s. refl) 0 ps,
        record_rows e owed range_fits (is_range e) (λ least s. refl) 0 rs,
        none-length (ps ++ rs),
        every_append (is_stamped e) ps rs,
        every_append (owed_before e owed) ps rs,
      )
      (level_bool (every (is_point e) ps && ascend e 0 ps) (every (is_range e) rs && ascend e 0 rs)
      (every (is_stamped e) ps) (every (owed_before e owed) ps) (every (is_stamped e) rs) (every (owed_before e owed) rs)
      (eqb (level_row l i).held (length (ps ++ rs))) (leb owed (clock_of e)) (not (none (ps ++ rs)) || eqb owed 0))

  tail_bool : (a p b q n : Bool) → (a && p) && ((b && q) && n) ≡ (a && (b && n)) && (p && q)
  tail_bool a p b q n = grind arith

  -- A level is sound, and its slots have no mark yet.
  pub level_means : (m : List ℕ) → is_some (fitting (leveled e l i m)).answer ≡ level_sound e l i && unmarked_each (slots_of e) m (level_slots e l i)
  level_means m =
      let owed = (level_row l i).owed in
      let ps = point_chain e l i in
      let rs = range_chain e l i in
      let points_blank = unmarked_each (slots_of e) m ps in
      let ranges_blank = unmarked_each (slots_of e) (mark_each m ps) rs in
      level_asks e l i m
      ∙ rw (
        walk_means point_fits e owed 0 0 m ps,
        walk_means range_fits e owed 0 0 (mark_each m ps) rs,
        each_append (slots_of e) m ps rs,
        ← level_rows,
      )
      (tail_bool (rows_fit point_fits e owed 0 ps) points_blank (rows_fit range_fits e owed 0 rs) ranges_blank (numbers_fit e l i (length (ps ++ rs))))

module _ (e l : List ℕ) where
  levels_means : (j i : ℕ) (m : List ℕ) (total : ℕ)
      → (levels_checked e l j i m total).answer
      ≡ levels_sound e l j i && (unmarked_each (slots_of e) m (record_slots e l j i) && eqb (total + length (record_slots e l j i)) (slots_of e))
  unfolding levels_checked levels_sound record_slots unmarked_each
  levels_means zero i m total = ap (λ (k : ℕ). eqb k (slots_of e)) (omega arith)
  levels_means (suc j) i m total =
      let rest = record_slots e l j (suc i) in
      let here = level_slots e l i in
      let n = slots_of e in
      let last = eqb (total + length here + length rest) n in
      let fits = is_some (fitting (leveled e l i m)).answer in
      let sound = level_sound e l i in
      let rest_sound = levels_sound e l j (suc i) in
      let blank = unmarked_each n m here in
      let rest_blank = unmarked_each n (mark_each m here) rest in
      let sum : total + length here + length rest ≡ total + length (here ++ rest) = omega (arith, length-append here rest) in
      after_asks (λ (x : Marked Bool). x.answer) (fitting (leveled e l i m)) (λ count marks. levels_checked e l j (suc i) marks (total + count)) unfit
      (λ x. refl) (level_passes e l i m)
      ∙ ap (λ (b : Bool). fits && b) (levels_means j (suc i) (mark_each m here) (total + length here))
      ∙ rw (level_means e l i m, each_append n m here rest, ← sum)
      (and_swap sound blank rest_sound (rest_blank && last) ∙ ap (λ (b : Bool). (sound && rest_sound) && b) (sym (and_assoc blank rest_blank last)))

  pub level_nonzero : (i : ℕ) → All (λ s. s ≢ 0) (level_slots e l i)
  level_nonzero i =
      let row = level_row l i in
      all_append (λ s. s ≢ 0) (point_chain e l i) (range_chain e l i) (chain_nonzero (length e) e row.points) (chain_nonzero (length e) e row.ranges)

  records_nonzero : (j i : ℕ) → All (λ s. s ≢ 0) (record_slots e l j i)
  unfolding record_slots
  records_nonzero zero i = tt
  records_nonzero (suc j) i = all_append (λ s. s ≢ 0) (level_slots e l i) (record_slots e l j (suc i)) (level_nonzero i) (records_nonzero j (suc i))

  pub slots_nonzero : (j : ℕ) → All (λ s. s ≢ 0) (free_chain e ++ record_slots e l j 0)
  slots_nonzero j = all_append (λ s. s ≢ 0) (free_chain e) (record_slots e l j 0) (chain_nonzero (length e) e (first_free e)) (records_nonzero j 0)

chains_bool : (a f l o q : Bool) → (a && o) && ((f && l) && q) ≡ a && f && l && o && q
chains_bool a f l o q = grind arith

-- The levels are asked only over the marks of a free chain that fits.
chains_ask : (e l m : List ℕ)
    → (chains_checked e l m).answer
    ≡ words_fit e l
    && (is_some (walked free_fits e 0 0 0 m (free_chain e)).answer
    && (levels_checked e l ((settings_of l).deepest + 1) 0 (mark_each m (free_chain e)) (length (free_chain e))).answer)
unfolding chains_checked
chains_ask e l m =
    let fits = is_some (walked free_fits e 0 0 0 m (free_chain e)).answer in
    cond_and (λ (x : Marked Bool). x.answer) (words_fit e l) _ _ refl
    ∙ ap (λ (b : Bool). words_fit e l && b)
    (after_asks (λ (x : Marked Bool). x.answer) (walked free_fits e 0 0 0 m (free_chain e))
    (λ free marks. levels_checked e l ((settings_of l).deepest + 1) 0 marks free) unfit
    (λ x. refl) (walk_passes free_fits e 0 m (free_chain e)))

-- Over blank marks for every slot the check of the chains is the definition.
pub chains_mean : (e l m : List ℕ) → slots_of e < 8 * length m → Blank (slots_of e) m → (chains_checked e l m).answer ≡ chains_sound e l
unfolding chains_sound
chains_mean e l m h b =
    let n = slots_of e in
    let d = (settings_of l).deepest in
    let free = free_chain e in
    let records = record_slots e l (suc d) 0 in
    let last = eqb (length free + length records) n in
    let add : d + 1 ≡ suc d = omega arith in
    let free_blank = unmarked_each n m free in
    let records_blank = unmarked_each n (mark_each m free) records in
    let free_sound = every (is_free e) free in
    let sound = levels_sound e l (suc d) 0 in
    let once : (free_blank && records_blank) && last ≡ every_slot_once n (free ++ records) =
    ap (λ (t : Bool). t && last) (sym (each_append n m free records))
    ∙ ap (λ (k : ℕ). unmarked_each n m (free ++ records) && eqb k n) (sym (length-append free records))
    ∙ marks_mean_once n m (free ++ records) h b (slots_nonzero e l (suc d)) in
    let all : is_some (walked free_fits e 0 0 0 m free).answer && (levels_checked e l (d + 1) 0 (mark_each m free) (length free)).answer
    ≡ (free_sound && sound) && every_slot_once n (free ++ records) =
    rw (add, walk_means free_fits e 0 0 0 m free, free_rows e 0 free, levels_means e l (suc d) 0 (mark_each m free) (length free), ← once)
    (and_swap free_sound free_blank sound (records_blank && last)
    ∙ ap (λ (t : Bool). (free_sound && sound) && t) (sym (and_assoc free_blank records_blank last))) in
    chains_ask e l m
    ∙ ap (λ (t : Bool). words_fit e l && t) all
    ∙ chains_bool (top_blank e) free_sound sound (eqb (level_row l d).owed 0) (every_slot_once n (free ++ records))
