-- What the levels still have to come says of a docket.
use mathlib.Core.Path.{◌≡◌, refl, sym, ap, ◌∙◌}
use mathlib.Core.List.{List, [], ◌∷◌, map}
use Prim.Native.Nat.{ℕ, zero, suc, ◌+◌, ◌<◌, ◌≤◌, max}
use native.Mathlib.Nat.{max-zero}
use native.Mathlib.Omega.{arith}
use native.Mathlib.Decide.{ℕ_discrete}
use borrow.Author.Tests.{ne_eqb, ltb-true}
use lib.Dec.{ltb}
use Rattle.lists.proofs.Bools.{cond_elim}
use Rattle.model.specs.declared.Tally.{Tally}
use Rattle.model.specs.Records.{Entry}
use Rattle.model.specs.Lookup.{Found, absent, judged, lookup_from, lookup}
use Rattle.tables.specs.Words.{Fits32}
use Rattle.tables.specs.Slots.{lo_of}
use Rattle.tables.specs.Placed.{read_point}
use Rattle.chain_cover.specs.Walks.{Ordered}
use Rattle.chain_cover.specs.Skips.{drop_while, beginning}
use Rattle.chain_cover.proofs.Chains.{go_on}
use Rattle.lookup_level.specs.declared.Decided.{Decided}
use Rattle.lookup_level.specs.declared.Decided.TheVariants.{Deeper}
use Rattle.lookup_level.specs.Answers.{settle, tells, decides, level_decides}
use Rattle.lookup_level.proofs.Answers.{settle-tells, settle_same, find-decides, lookup_decides}
use Rattle.lookup_level.proofs.Walks.{points_say, points_end, points_past}
use Rattle.scan_heads.specs.Heads.{key_from}
use Rattle.scan_heads.proofs.Packs.{key_on}
use Rattle.scan_fences.specs.Fences.{slots_latest, levels_latest}
use Rattle.scan_step.specs.Sweeps.{coming_level, levels_from}

-- Points that begin past the docket say nothing of it.
pub points_before : (e : List ℕ) → Fits32 e → (h j : ℕ) → Ordered e h → j < key_from e h → (date : ℕ) → points_say e h date j ≡ Deeper date
points_before e words h j o lt date = go (ℕ_discrete h 0)
  where
    go : Dec (h ≡ 0) → points_say e h date j ≡ Deeper date
    go (yes z) = points_end e h date j z
    go (no n) = let on = go_on e h o n in points_past e h date j on words (rw (key_on e h on) at lt)

-- Points before docket k, passed at the front of a chain, say nothing of docket j, which is no earlier.
pub beginning_says : (e : List ℕ) (k j : ℕ) → k ≤ j → (date : ℕ) (ss : List ℕ)
    → decides date (map (read_point e) (beginning e k ss)) j ≡ decides date (map (read_point e) ss) j
unfolding decides drop_while
beginning_says e k j le date [] = refl
beginning_says e k j le date (s ∷ ss) =
    cond_elim (λ l. decides date (map (read_point e) l) j ≡ decides date (map (read_point e) (s ∷ ss)) j) (ltb (lo_of e s) k)
    (beginning e k ss) (s ∷ ss)
    (λ p. rw (ne_eqb (lo_of e s) j (λ q. omega (arith, ltb-true (lo_of e s) k p))) (beginning_says e k j le date ss))
    (λ p. refl)

-- Of the levels i to before i + n, with the latest date met above them.
module _ (e : List ℕ) (p : ℕ → ℕ) (r : ℕ → List ℕ) (j : ℕ) where
  abbrev found : ℕ → ℕ → ℕ → Found Tally
  found n i date = lookup_from date (levels_from e p r n i) j

  -- A level without a point of the docket hands on the latest date, which its ranges may raise.
  found_deeper : (n i date : ℕ) → points_say e (p i) date j ≡ Deeper date → found (suc n) i date ≡ found n (suc i) (max date (slots_latest e (r i) j))
  unfolding lookup_from levels_from
  found_deeper n i date none = find-decides date (slots_latest e (r i) j) _ j (found n (suc i)) ∙ rw none

  -- No level has a point of the docket.
  pub absent_all : (n i date : ℕ) → ((m : ℕ) → i ≤ m → m < i + n → (date : ℕ) → points_say e (p m) date j ≡ Deeper date) → found n i date ≡ absent
  unfolding lookup_from levels_from
  absent_all zero i date none = refl
  absent_all (suc n) i date none =
      found_deeper n i date (none i (omega arith) (omega arith) date)
      ∙ absent_all n (suc i) (max date (slots_latest e (r i) j)) (λ m a b. none m (omega arith) (omega arith))

  -- The levels before one have no point of the docket: that one, which has a point of it, is judged by their latest date.
  module _ (level : ℕ) (x : Entry Tally) (t : ℕ) (is : (date : ℕ) → points_say e (p level) date j ≡ tells date x t) where
    pub found_at : (d n i date : ℕ) → i + d ≡ level → d < n → ((m : ℕ) → i ≤ m → m < level → (date : ℕ) → points_say e (p m) date j ≡ Deeper date)
        → found n i date ≡ judged (max date (levels_latest e r j d i)) x t
    unfolding lookup_from levels_from levels_latest
    found_at d zero i date q lt none = absurd (omega arith)
    found_at zero (suc n) i date q lt none =
        let here : i ≡ level = omega arith in
        find-decides date (slots_latest e (r i) j) _ j (found n (suc i)) ∙ rw (here, is date, max-zero date) (settle-tells date _ x t _)
    found_at (suc d) (suc n) i date q lt none =
        let met : ℕ = slots_latest e (r i) j in
        let above : ℕ = levels_latest e r j d (suc i) in
        let both : max (max date met) above ≡ max date (max met above) = omega arith in
        found_deeper n i date (none i (omega arith) (omega arith) date)
        ∙ found_at d n (suc i) (max date met) (omega arith) (omega arith) (λ m a b. none m (omega arith) b) ∙ ap (λ (met : ℕ). judged met x t) both

-- Levels that decide the same of a docket give the same for it.
module _ (e : List ℕ) (p p' : ℕ → ℕ) (r r' : ℕ → List ℕ) (j all : ℕ)
    (same : (i : ℕ) → i < all → (date : ℕ) → level_decides date (coming_level e (p' i) (r' i)) j ≡ level_decides date (coming_level e (p i) (r i)) j) where
  looks_from : (n i date : ℕ) → i + n ≤ all → lookup_from date (levels_from e p' r' n i) j ≡ lookup_from date (levels_from e p r n i) j
  unfolding levels_from
  looks_from zero i date le = refl
  looks_from (suc n) i date le =
      lookup_decides date (coming_level e (p' i) (r' i)) (levels_from e p' r' n (suc i)) j
      ∙ ap (λ (d : Decided). settle d (λ met. lookup_from met (levels_from e p' r' n (suc i)) j)) (same i (omega arith) date)
      ∙ settle_same (level_decides date (coming_level e (p i) (r i)) j) _ _ (λ met. looks_from n (suc i) met (omega arith))
      ∙ sym (lookup_decides date (coming_level e (p i) (r i)) (levels_from e p r n (suc i)) j)

  pub looks_same : lookup (levels_from e p' r' all 0) j ≡ lookup (levels_from e p r all 0) j
  looks_same = looks_from all 0 0 (omega arith)

-- Points that say the same of a docket, and ranges that have the same latest date over it, make levels that decide the same.
module _ (e : List ℕ) (p p' : ℕ) (r r' : List ℕ) (j : ℕ) where
  pub decides_same : ((date : ℕ) → points_say e p' date j ≡ points_say e p date j) → slots_latest e r' j ≡ slots_latest e r j
      → (date : ℕ) → level_decides date (coming_level e p' r') j ≡ level_decides date (coming_level e p r) j
  unfolding level_decides
  decides_same points ranges date = rw (points date, ranges)
