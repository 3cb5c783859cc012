-- Two ranges alike: the upper one takes the later date and the later stamp, and the lower one goes.
use mathlib.Core.Path.{◌≡◌, refl, sym, ap, subst, ◌∙◌}
use mathlib.Core.Logic.{◌≢◌}
use mathlib.Core.Bool.{true}
use mathlib.Core.List.{List, ◌∷◌, ◌++◌, map}
use Prim.Native.Nat.{ℕ, max}
use native.Mathlib.Omega.{arith}
use lib.ListN.{length}
use Rattle.lists.specs.All.{All}
use Rattle.lists.proofs.Tests.{all_weaken}
use Rattle.tables.specs.Placed.{Cell, head}
use Rattle.chain_cells.specs.Cells.{cell_at, cell_key, cell_before, cell_date}
use Rattle.chain_cells.specs.Held.{Held}
use Rattle.chain_cells.specs.Order.{CellsOrdered}
use Rattle.chain_links.specs.Links.{stamped, later_taken}
use Rattle.chain_cells.specs.Sifting.{Sifting, sift_of}
use Rattle.chain_cells.specs.Splicing.{Chains}
use Rattle.chain_cells.proofs.Laws.{restamped}
use Rattle.chain_cells.proofs.Sieves.{left-length}
use Rattle.merge_unite.specs.Uniting.{same_span, doubled, united_cell, later_cell, lower_chain, Uniting, to_see}
use Rattle.merge_unite.specs.declared.Progress.{Progress}
use Rattle.merge_unite.proofs.Spans.{after_other, one_span}
use Rattle.merge_unite.proofs.Dates.{Apart, doubled_here, doubled-date, later_took, later_past}
use Rattle.merge_unite.proofs.Places.{First, lower_first, upper_first, upper-length, upper_cell, lower_cell, left_ordered, passed_apart}
use Rattle.merge_unite.proofs.Steps.{Seen}

-- What comes after a cell has not the key of its like.
apart_after : (c d : Cell) (cs : List Cell) → cell_key c ≡ cell_key d → All (λ q. cell_before c q ≡ true) cs → Apart d cs
apart_after c d cs one after =
    all_weaken (λ q. cell_before c q ≡ true) (λ q. cell_key q ≢ cell_key d) (λ q h k. after_other c q h (k ∙ sym one)) cs after

-- The table after a slot took the later date and the later stamp of two cells.
abbrev written : List ℕ → ℕ → Cell → Cell → List ℕ
written e s c d = stamped e s (max (cell_date c) (cell_date d)) (max c.stamp d.stamp)

module _ (g : Chains) (e : List ℕ) (m : Progress) (u : Uniting g e m) (a : First u.ahead) (l : First u.left)
    (alike : cell_key (cell_at e m.upper) ≡ cell_key (cell_at e m.cursor.at)) where
  -- The table and the upper ranges after the date and the stamp were written.
  abbrev table : List ℕ
  table = later_taken e m.upper m.cursor.at

  abbrev upper : List Cell
  upper = u.passed ++ united_cell a.cell l.cell ∷ a.rest

  upper_was : u.upper ≡ u.passed ++ a.cell ∷ a.rest
  upper_was = u.parts ∙ ap (λ (cs : List Cell). u.passed ++ cs) a.is

  keys : cell_key a.cell ≡ cell_key l.cell
  keys = ap cell_key (sym (upper_cell g e m u a.cell a.rest a.is)) ∙ alike ∙ ap cell_key (lower_cell g e m u l.cell l.rest l.is)

  upper_order : CellsOrdered (a.cell ∷ a.rest)
  upper_order = subst CellsOrdered a.is u.upper_ordered

  lower_order : CellsOrdered (l.cell ∷ l.rest)
  lower_order = left_ordered g e m u l.cell l.rest l.is

  same : same_span l.cell a.cell ≡ true
  same = one_span l.cell a.cell lower_order.fit.0 upper_order.fit.0 (sym keys)

  table_is : written e a.cell.slot a.cell l.cell ≡ table
  table_is =
      ap (λ (s : ℕ). written e s a.cell l.cell) (sym (u.upper_is ∙ ap head a.is))
      ∙ ap (λ (c : Cell). written e m.upper c l.cell) (sym (upper_cell g e m u a.cell a.rest a.is))
      ∙ ap (written e m.upper (cell_at e m.upper)) (sym (lower_cell g e m u l.cell l.rest l.is))

  -- The lower chain, and the table that holds it with an upper one.
  abbrev lower : List Cell
  lower = u.sifting.done ++ u.sifting.left

  abbrev Holds : List Cell → List ℕ → Type 0
  Holds cs t = Held g.slots g.clock u.sifting.free (lower ∷ cs ∷ g.others) t

  held : Holds upper table
  held =
      let was : Holds (u.passed ++ a.cell ∷ a.rest) e = subst (λ (cs : List Cell). Holds cs e) upper_was u.sifting.here.held in
      subst (Holds upper) table_is
      (restamped g.slots g.clock u.sifting.free lower u.passed a.cell a.rest g.others e
      (max (cell_date a.cell) (cell_date l.cell)) (max a.cell.stamp l.cell.stamp) was)

  abbrev sifting : Sifting (sift_of (doubled g.upper) (lower_chain g upper)) table m.cursor
  sifting = record {
    done = u.sifting.done;
    left = u.sifting.left;
    free = u.sifting.free;
    here = record {
      held = held;
      head_is = u.sifting.here.head_is;
      prior_is = u.sifting.here.prior_is;
      at_is = u.sifting.here.at_is;
      keeps = u.sifting.here.keeps;
      frees = u.sifting.here.frees;
      counts = u.sifting.here.counts;
      few = u.sifting.here.few;
    };
  }

  -- The walk stands as before: beside the lower range at the cursor the upper one's own date and stamp are of no account.
  uniting : Uniting g table m
  uniting = record {
    upper = upper;
    passed = u.passed;
    ahead = united_cell a.cell l.cell ∷ a.rest;
    left = u.left;
    sifting = sifting;
    left_is = u.left_is;
    parts = refl;
    upper_is = u.upper_is ∙ ap head a.is;
    below = u.below;
    upper_ordered = record { ascend = (upper_order.ascend.0, upper_order.ascend.1); fit = (upper_order.fit.0, upper_order.fit.1) };
    lower_ordered = u.lower_ordered;
    doubles =
        λ q. doubled-date q u.passed a.cell _ _ a.rest
        ∙ ap (λ (cs : List Cell). doubled cs q) (sym upper_was) ∙ u.doubles q;
    later =
        ap (λ (qs : List Cell). map (later_cell qs) upper) l.is
        ∙ later_took l.cell l.rest u.passed a.cell a.rest same
        ∙ ap (λ (qs : List Cell). map (later_cell qs) (u.passed ++ a.cell ∷ a.rest)) (sym l.is)
        ∙ ap (map (later_cell u.left)) (sym upper_was) ∙ u.later;
  }

  seen : Seen true g table m
  unfolding uniting
  seen =
      let x : Cell = l.cell in
      let c : Cell = a.cell in
      let again : same_span c x ≡ true = one_span c x upper_order.fit.0 lower_order.fit.0 keys in
      record {
        uniting = uniting;
        cell = x;
        rest = l.rest;
        is = l.is;
        test = sym (sym (u.doubles x) ∙ ap (λ (cs : List Cell). doubled cs x) upper_was ∙ doubled_here x u.passed c a.rest again);
        same = later_past x l.rest u.passed c a.rest same (passed_apart g e m u x l.rest l.is)
            (apart_after c x a.rest keys upper_order.ascend.0);
      }

  -- There is as much to see as before.
  sees : to_see table m ≡ to_see e m
  unfolding uniting
  sees =
      omega (
        arith,
        upper-length g table m uniting,
        upper-length g e m u,
        ap length a.is,
        left-length (sift_of (doubled g.upper) (lower_chain g upper)) table m.cursor sifting,
        left-length (sift_of (doubled g.upper) (lower_chain g u.upper)) e m.cursor u.sifting,
      )

module _ (g : Chains) (e e' : List ℕ) (m : Progress) (lower : m.cursor.at ≢ 0) (upper : m.upper ≢ 0)
    (alike : cell_key (cell_at e m.upper) ≡ cell_key (cell_at e m.cursor.at))
    (taken≡ : e' ≡ later_taken e m.upper m.cursor.at) (u : Uniting g e m) where
  pub alike_seen : Seen true g e' m
  alike_seen = subst (λ (t : List ℕ). Seen true g t m) (sym taken≡) (seen g e m u (upper_first g e m u upper) (lower_first g e m u lower) alike)

  pub alike_sees : to_see e' m ≡ to_see e m
  alike_sees = ap (λ (t : List ℕ). to_see t m) taken≡ ∙ sees g e m u (upper_first g e m u upper) (lower_first g e m u lower) alike
