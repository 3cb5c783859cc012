-- Laws of fronts: which ranges they stand for, that they stay in order, and that what is passed says nothing of later dockets.
use mathlib.Core.Path.{◌≡◌, refl, sym, ap, ◌∙◌}
use mathlib.Core.Logic.{◌≢◌}
use mathlib.Core.Bool.{Bool, true, false}
use mathlib.Core.List.{List, [], ◌∷◌, map}
use Prim.Native.Nat.{ℕ, ◌<◌, ◌≤◌}
use native.Mathlib.Omega.{arith}
use borrow.Author.Tests.{eq-eqb, ne_eqb, eqb-true, eqb-false, lt-ltb, le-ltb, le-leb, ltb-true}
use lib.Dec.{eqb, leb, ltb}
use Rattle.lists.specs.Lists.{any, select, reject}
use Rattle.lists.proofs.Bools.{cond_elim, by_cases, and_intro}
use Rattle.model.specs.Coverage.{covers}
use Rattle.model.specs.Lookup.{latest}
use Rattle.model.proofs.Coverage.{over_past}
use Rattle.tables.specs.Slots.{next_of, lo_of, hi_of, date_of}
use Rattle.tables.specs.Words.{Fits32}
use Rattle.tables.specs.Sound.{chain_from, ascend, order_key}
use Rattle.tables.specs.Placed.{read_range}
use Rattle.chain_cover.specs.declared.Front.{Front}
use Rattle.chain_cover.specs.Walks.{Ordered}
use Rattle.chain_cover.specs.Skips.{drop_while, reaching}
use Rattle.chain_cover.specs.Fronts.{front_slots, front_at, ended, reach, pass_behind, advanced, FrontOrdered}
use Rattle.chain_cover.proofs.Chains.{chain_end, go_on, ascend_rest, ascend_past}
use Rattle.chain_cover.proofs.Walks.{covers_past, covered_past, slots_say, ranges_say, slots_here, slots_next}
use Rattle.chain_cover.proofs.Skips.{front_chain, front_ordered}

-- The ranges that have not ended before docket k.
abbrev pub live : List ℕ → ℕ → List ℕ → List ℕ
live e k ss = reject (ended e k) ss

-- Passing some of those at the beginning that fail a test keeps those that pass it.
reject_drop : {X : Type 0} (t : X → Bool) (xs : List X) → reject t (drop_while t xs) ≡ reject t xs
unfolding select drop_while
reject_drop t [] = refl
reject_drop t (x ∷ xs) =
    cond_elim (λ l. reject t l ≡ reject t (x ∷ xs)) (t x) (drop_while t xs) (x ∷ xs) (λ p. rw p (reject_drop t xs)) (λ p. refl)

module _ (e : List ℕ) where
  -- The empty chain is in order.
  none_ordered : Ordered e 0
  unfolding ascend
  none_ordered = record { chained = rw (chain_end e 0 refl) refl; order = rw (chain_end e 0 refl) }

  drop_ascend : (test : ℕ → Bool) (least : ℕ) (ss : List ℕ) → ascend e least ss ≡ true → ascend e least (drop_while test ss) ≡ true
  unfolding drop_while
  drop_ascend test least [] a = a
  drop_ascend test least (s ∷ ss) a =
      cond_elim (λ l. ascend e least l ≡ true) (test s) (drop_while test ss) (s ∷ ss)
      (λ p. drop_ascend test least ss (ascend_rest e least s ss a)) (λ p. a)

  module _ (f : Front) where
    pub front_none : f.first ≡ 0 → front_slots e f ≡ []
    unfolding front_slots
    front_none z = rw (eq-eqb f.first 0 z)

    pub front_some : f.first ≢ 0 → front_slots e f ≡ f.first ∷ chain_from e f.behind
    unfolding front_slots
    front_some nz = rw (ne_eqb f.first 0 nz)

    -- The ranges of a front ascend.
    pub front_ascends : FrontOrdered e f → ascend e 0 (front_slots e f) ≡ true
    unfolding front_slots ascend
    front_ascends o =
        cond_elim (λ l. ascend e 0 l ≡ true) (eqb f.first 0) [] (f.first ∷ chain_from e f.behind) (λ z. refl)
        (λ s. and_intro (leb 0 (order_key e f.first)) _ (le-leb 0 (order_key e f.first) (omega arith)) (o.after (eqb-false f.first 0 s)))

  -- The front of a chain stands for all of it.
  module _ (h : ℕ) (o : Ordered e h) where
    pub front_at_ordered : FrontOrdered e (front_at e h)
    unfolding front_at
    front_at_ordered = record {
      within = λ nz. (go_on e h o nz).within;
      after = λ nz. rw (ne_eqb h 0 nz) (go_on e h o nz).after;
      rest = cond_elim (Ordered e) (eqb h 0) 0 (next_of e h) (λ z. none_ordered) (λ s. (go_on e h o (eqb-false h 0 s)).rest);
    }

    pub front_at_slots : front_slots e (front_at e h) ≡ chain_from e h
    unfolding front_at front_slots
    front_at_slots =
        by_cases (eqb h 0) (λ z. rw z (sym (chain_end e h (eqb-true h 0 z)))) (λ s. rw s (sym (go_on e h o (eqb-false h 0 s)).whole))

  -- What the code makes of a head.
  module _ (h : ℕ) where
    pub front_at_none : h ≡ 0 → record { first = h; behind = 0 } ≡ front_at e h
    unfolding front_at
    front_at_none z = rw (eq-eqb h 0 z)

    pub front_at_some : (next : ℕ) → h ≢ 0 → next ≡ next_of e h → record { first = h; behind = next } ≡ front_at e h
    unfolding front_at
    front_at_some next nz is = rw (is, ne_eqb h 0 nz)

  module _ (k : ℕ) (f : Front) (o : FrontOrdered e f) where
    behind_left : chain_from e (reach e k f.behind) ≡ reaching e k (chain_from e f.behind)
    behind_left = front_chain e (hi_of e) f.behind k o.rest (reach e k f.behind) refl

    pass_behind_ordered : FrontOrdered e (pass_behind e k f)
    pass_behind_ordered = record {
      within = o.within;
      after = λ nz. rw behind_left (drop_ascend (ended e k) _ (chain_from e f.behind) (o.after nz));
      rest = front_ordered e (hi_of e) f.behind k o.rest (reach e k f.behind) refl;
    }

    pass_behind-live : live e k (front_slots e (pass_behind e k f)) ≡ live e k (front_slots e f)
    unfolding front_slots select
    pass_behind-live =
        by_cases (eqb f.first 0) (λ z. rw z) (λ s. rw (s, behind_left, reject_drop (ended e k) (chain_from e f.behind)))

  -- What each way through the code gives.
  module _ (k : ℕ) (f : Front) where
    pub advanced_none : f.first ≡ 0 → f ≡ advanced e k f
    unfolding advanced
    advanced_none z = rw (eq-eqb f.first 0 z)

    module _ (nz : f.first ≢ 0) where
      pub advanced_early : k < lo_of e f.first → f ≡ advanced e k f
      unfolding advanced
      advanced_early lt = rw (ne_eqb f.first 0 nz, lt-ltb k (lo_of e f.first) lt)

      pub advanced_here : lo_of e f.first ≤ k → k ≤ hi_of e f.first → pass_behind e k f ≡ advanced e k f
      unfolding advanced
      advanced_here from upto = rw (ne_eqb f.first 0 nz, le-ltb k (lo_of e f.first) from, le-ltb (hi_of e f.first) k upto)

      pub advanced_next : lo_of e f.first ≤ k → hi_of e f.first < k → pass_behind e k (front_at e (reach e k f.behind)) ≡ advanced e k f
      unfolding advanced
      advanced_next from past = rw (ne_eqb f.first 0 nz, le-ltb k (lo_of e f.first) from, lt-ltb (hi_of e f.first) k past)

  -- An advance leaves a front in order, and every range that has not ended.
  record Keeps (k : ℕ) (f g : Front) : Type 0 where
    ordered : FrontOrdered e g
    same : live e k (front_slots e g) ≡ live e k (front_slots e f)

  module _ (k : ℕ) (f : Front) (o : FrontOrdered e f) where
    -- The first has ended: it gives way to the first behind it that has not.
    next_keeps : f.first ≢ 0 → ended e k f.first ≡ true → Keeps k f (pass_behind e k (front_at e (reach e k f.behind)))
    unfolding select
    next_keeps nz past =
        let s = reach e k f.behind in
        let os : Ordered e s = front_ordered e (hi_of e) f.behind k o.rest s refl in
        let on : FrontOrdered e (front_at e s) = front_at_ordered s os in
        record {
          ordered = pass_behind_ordered k (front_at e s) on;
          same =
              pass_behind-live k (front_at e s) on ∙ ap (live e k) (front_at_slots s os ∙ behind_left k f o) ∙ reject_drop (ended e k) (chain_from e f.behind)
              ∙ rw (front_some f nz, past);
        }

    advanced_keeps : Keeps k f (advanced e k f)
    unfolding advanced
    advanced_keeps =
        let stays : Keeps k f f = record { ordered = o; same = refl } in
        let there : Keeps k f (pass_behind e k f) = record { ordered = pass_behind_ordered k f o; same = pass_behind-live k f o } in
        cond_elim (Keeps k f) (eqb f.first 0) f _ (λ z. stays)
        (λ some. cond_elim (Keeps k f) (ltb k (lo_of e f.first)) f _ (λ early. stays)
        (λ from. cond_elim (Keeps k f) (ended e k f.first) _ (pass_behind e k f) (next_keeps (eqb-false f.first 0 some)) (λ reaches. there)))

    pub advanced_ordered : FrontOrdered e (advanced e k f)
    advanced_ordered = advanced_keeps.ordered

    pub advanced-live : live e k (front_slots e (advanced e k f)) ≡ live e k (front_slots e f)
    advanced-live = advanced_keeps.same

-- What is the same with a range that has ended and without is said by those alone that have not, so that an advance changes none of it.
module _ {X : Type 0} (e : List ℕ) (k : ℕ) (says : List ℕ → X) (off : (s : ℕ) (ss : List ℕ) → hi_of e s < k → says (s ∷ ss) ≡ says ss)
    (on : (s : ℕ) (ss rs : List ℕ) → says ss ≡ says rs → says (s ∷ ss) ≡ says (s ∷ rs)) where
  live-says : (ss : List ℕ) → says (live e k ss) ≡ says ss
  unfolding select
  live-says [] = refl
  live-says (s ∷ ss) =
      by_cases (ended e k s) (λ past. rw past (live-says ss ∙ sym (off s ss (ltb-true (hi_of e s) k past))))
      (λ reaches. rw reaches (on s (live e k ss) ss (live-says ss)))

  advanced-says : (f : Front) → FrontOrdered e f → says (front_slots e (advanced e k f)) ≡ says (front_slots e f)
  advanced-says f o =
      sym (live-says (front_slots e (advanced e k f))) ∙ ap says (advanced-live e k f o) ∙ live-says (front_slots e f)

-- From docket k on an advanced front covers what the front covered, and gives the same latest dates.
module _ (e : List ℕ) (k : ℕ) (f : Front) (o : FrontOrdered e f) (j : ℕ) (le : k ≤ j) where
  pub advanced_covers : (t : ℕ) → slots_say e (front_slots e (advanced e k f)) j t ≡ slots_say e (front_slots e f) j t
  unfolding any
  advanced_covers t =
      advanced-says e k (λ ss. slots_say e ss j t)
      (λ s ss past. slots_next e s ss j t (covers_past (lo_of e s) (hi_of e s) (date_of e s) j t (omega arith))) (λ s ss rs q. rw q) f o

  pub advanced-latest : latest (map (read_range e) (front_slots e (advanced e k f))) j ≡ latest (map (read_range e) (front_slots e f)) j
  unfolding latest
  advanced-latest =
      advanced-says e k (λ ss. latest (map (read_range e) ss) j)
      (λ s ss past. rw (over_past (lo_of e s) (hi_of e s) j (omega arith))) (λ s ss rs q. rw q) f o

-- What each way through the question gives.
module _ (e : List ℕ) (f : Front) (k t : ℕ) where
  pub front_says_none : f.first ≡ 0 → slots_say e (front_slots e f) k t ≡ false
  unfolding any
  front_says_none z = rw (front_none e f z)

  module _ (nz : f.first ≢ 0) where
    pub front_says_past : Fits32 e → FrontOrdered e f → k < lo_of e f.first → slots_say e (front_slots e f) k t ≡ false
    front_says_past words o lt =
        let all = front_some e f nz in
        rw all (covered_past e k t (f.first ∷ chain_from e f.behind) (ascend_past e words k 0 f.first (chain_from e f.behind) lt (rw all at (front_ascends e f o))))

    pub front_says_here : covers (lo_of e f.first) (hi_of e f.first) (date_of e f.first) k t ≡ true → slots_say e (front_slots e f) k t ≡ true
    front_says_here q = rw (front_some e f nz) (slots_here e f.first (chain_from e f.behind) k t q)

    pub front_says_next : covers (lo_of e f.first) (hi_of e f.first) (date_of e f.first) k t ≡ false
        → slots_say e (front_slots e f) k t ≡ ranges_say e f.behind k t
    front_says_next q = rw (front_some e f nz) (slots_next e f.first (chain_from e f.behind) k t q)
