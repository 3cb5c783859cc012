-- A range delete among the ranges of the buffer: at most one of them has its dockets, and the later date is kept.
use mathlib.Core.Path.{◌≡◌, refl, sym, ap, ◌∙◌}
use mathlib.Core.Bool.{true, false, ◌&&◌, ◌||◌}
use mathlib.Core.List.{List, [], ◌∷◌, map}
use Prim.Native.Nat.{ℕ, max, ◌≤◌}
use native.Mathlib.Omega.{arith}
use lib.Dec.{eqb, ltb}
use borrow.Author.Tests.{eqb-true, le-ltb}
use Rattle.lists.specs.Lists.{any, select}
use Rattle.lists.specs.All.{All, Ascending}
use Rattle.lists.proofs.Bools.{by_cases, both_false, and_left, and_right, and_false_right, or_false, or_false_intro, eqb_sym}
use Rattle.lists.proofs.Tests.{all_weaken}
use Rattle.model.specs.declared.Tally.{Tally}
use Rattle.model.specs.Records.{Range}
use Rattle.model.specs.Merge.{range_before, same_range, range_goes, united, later}
use Rattle.model.specs.Steps.{Write, put, delete, delete_range, single, unplaced}
use Rattle.model.specs.Calls.{written, bad_docket}
use Rattle.tables.specs.Placed.{range_cell}
use Rattle.chain_sieve.specs.Doomed.{has_span}
use Rattle.table_slots.specs.declared.Kind.TheVariants as kinds
use Rattle.merge_join.proofs.Ranges.{Spanned}
use Rattle.write_record.specs.Records.{record_of}
use Rattle.write_record.specs.declared.Record.{Record}
use Rattle.write_record.proofs.Dooms.{ranges_gone}
use Rattle.write_enter.specs.Uniting.{first_date, later_date}
use Rattle.write_enter.specs.Uniting as uniting

-- The date of the first of some ranges, 0 where there is none.
abbrev pub range_date : List (Range ℕ) → ℕ
range_date [] = 0
range_date (q ∷ qs) = q.date

first_date_is : (qs : List (Range ℕ)) → first_date (map range_cell qs) ≡ range_date qs
first_date_is [] = refl
first_date_is (q ∷ qs) = refl

-- A range delete with the later of its date and another.
abbrev pub later_dated : ℕ → Write Tally → Write Tally
later_dated d (put k a) = put k a
later_dated d (delete k) = delete k
later_dated d (delete_range lo hi date) = delete_range lo hi (max date d)

pub later_dated_dockets : (d : ℕ) (v : Write Tally) → bad_docket (written (later_dated d v)) ≡ bad_docket (written v)
later_dated_dockets d (put k a) = refl
later_dated_dockets d (delete k) = refl
later_dated_dockets d (delete_range lo hi date) = refl

pub later_dated-kind : (d : ℕ) (v : Write Tally) → (record_of (later_dated d v)).kind ≡ (record_of v).kind
later_dated-kind d (put k a) = refl
later_dated-kind d (delete k) = refl
later_dated-kind d (delete_range lo hi date) = refl

abbrev redated : ℕ → Range ℕ → Range ℕ
redated d r = record { slot = r.slot; lo = r.lo; hi = r.hi; date = d; stamp = r.stamp }

-- Of ranges that ascend, those after one with the same lo and hi have others.
after_alike : (r q y : Range ℕ) → same_range q r ≡ true → range_before q y ≡ true → same_range y r ≡ false
after_alike r q y same before = by_cases (same_range y r) (λ s. both_false before (not_before s)) (λ s. s)
  where
    not_before : same_range y r ≡ true → range_before q y ≡ false
    not_before s =
        let lo = eqb-true q.lo r.lo (and_left (eqb q.lo r.lo) (eqb q.hi r.hi) same) in
        let hi = eqb-true q.hi r.hi (and_right (eqb q.lo r.lo) (eqb q.hi r.hi) same) in
        let lo' = eqb-true y.lo r.lo (and_left (eqb y.lo r.lo) (eqb y.hi r.hi) s) in
        let hi' = eqb-true y.hi r.hi (and_right (eqb y.lo r.lo) (eqb y.hi r.hi) s) in
        or_false_intro (ltb q.lo y.lo) (eqb q.lo y.lo && ltb q.hi y.hi) (le-ltb q.lo y.lo (omega arith))
        (and_false_right (eqb q.lo y.lo) (ltb q.hi y.hi) (le-ltb q.hi y.hi (omega arith)))

later_apart : (qs : List (Range ℕ)) (r : Range ℕ) → All (λ q. same_range q r ≡ false) qs → later qs r ≡ r
unfolding later
later_apart [] r a = refl
later_apart (q ∷ qs) r a = rw a.0 (later_apart qs r a.1)

same_sym : (r q : Range ℕ) → same_range r q || false ≡ same_range q r
same_sym r q =
    or_false (same_range r q) ∙ ap (λ b. b && eqb r.hi q.hi) (eqb_sym r.lo q.lo) ∙ ap (◌&&◌ (eqb q.lo r.lo)) (eqb_sym r.hi q.hi)

-- A range stamped no earlier than those below it keeps its stamp, and takes the date of the one with its lo and hi if that is the later.
later_alike : (r : Range ℕ) (qs : List (Range ℕ)) → Ascending range_before qs → All (λ q. (1 ≤ q.stamp) × (q.stamp ≤ r.stamp)) qs
    → later qs r ≡ redated (max r.date (range_date (select (λ q. same_range r q || false) qs))) r
unfolding later select
later_alike r [] a s = let own : max r.date 0 ≡ r.date = omega arith in rw own
later_alike r (q ∷ qs) a s = by_cases (same_range q r)
    (λ p.
    let apart = all_weaken _ (λ y. same_range y r ≡ false) (λ y b. after_alike r q y p b) qs a.0 in
    let stamp : max r.stamp q.stamp ≡ r.stamp = omega (arith, s.0.1) in
    rw (p, same_sym r q ∙ p) (later_apart qs (united r q) apart ∙ rw stamp))
    (λ p. rw (p, same_sym r q ∙ p) (later_alike r qs a.1 s.1))

-- What the write is, entered among ranges: as it came, or with the date of the one that goes.
abbrev pub entered_write : ℕ → List (Range ℕ) → Write Tally → Write Tally
entered_write t qs v = later_dated (range_date (select (range_goes (unplaced t v).ranges) qs)) v

pub single-later : (x t : ℕ) (v : Write Tally) (qs : List (Range ℕ)) → Ascending range_before qs → All (λ q. (1 ≤ q.stamp) × (q.stamp ≤ t)) qs
    → map (later qs) (single x t v).ranges ≡ (single x t (entered_write t qs v)).ranges
unfolding single any
single-later x t (put k a) qs o s = refl
single-later x t (delete k) qs o s = refl
single-later x t (delete_range lo hi date) qs o s =
    ap (λ r. r ∷ []) (later_alike (record { slot = x; lo = lo; hi = hi; date = date; stamp = t }) qs o s)

-- And so is its record.
later_record : (d : ℕ) (v : Write Tally) → (record_of v).kind ≡ kinds.Range
    → record { kind = (record_of v).kind; lo = (record_of v).lo; hi = (record_of v).hi; tally = later_date d (record_of v).tally } ≡ record_of (later_dated d v)
later_record d (put k a) q = cc
later_record d (delete k) q = cc
later_record d (delete_range lo hi date) q = refl

pub united_record : (t : ℕ) (v : Write Tally) {w : Record} → w ≡ record_of v → w.kind ≡ kinds.Range → (qs : List (Range ℕ)) → All Spanned qs
    → uniting.united (map range_cell qs) w ≡ record_of (entered_write t qs v)
united_record t v {w} is ranged qs spans =
    let gone : List (Range ℕ) = select (range_goes (unplaced t v).ranges) qs in
    let date : first_date (select (has_span w.lo w.hi) (map range_cell qs)) ≡ range_date gone =
    ap first_date (ranges_gone tt t v w is qs spans ranged) ∙ first_date_is gone in
    ap (λ (d : ℕ). record { kind = w.kind; lo = w.lo; hi = w.hi; tally = later_date d w.tally }) date
    ∙ ap (λ (r : Record). record { kind = r.kind; lo = r.lo; hi = r.hi; tally = later_date (range_date gone) r.tally }) is
    ∙ later_record (range_date gone) v (ap (λ (r : Record). r.kind) (sym is) ∙ ranged)
