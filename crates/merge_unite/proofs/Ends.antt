-- The walk's beginning and end.
use mathlib.Core.Path.{◌≡◌, refl, sym, ap, ◌∙◌}
use mathlib.Core.List.{List, [], map}
use Prim.Native.Nat.{ℕ}
use Rattle.tables.specs.Placed.{Cell}
use Rattle.chain_cells.specs.Sifting.{at_start, Sifted}
use Rattle.chain_cells.specs.Splicing.{Chains}
use Rattle.chain_cells.proofs.Sieves.{sifting_begins, sifting_ends}
use Rattle.merge_unite.specs.Uniting.{doubled, later_cell, RangesHeld, United, lower_chain, Uniting}
use Rattle.merge_unite.specs.declared.Progress.{Progress}
use Rattle.merge_unite.proofs.Dates.{later_end}
use Rattle.merge_unite.proofs.Places.{lower_none}

pub uniting_begins : (g : Chains) (e : List ℕ) (upper lower : ℕ) → RangesHeld g e upper lower
    → Uniting g e (record { upper = upper; cursor = at_start lower })
uniting_begins g e upper lower h = record {
  upper = g.upper;
  passed = [];
  ahead = g.upper;
  left = g.lower;
  sifting = sifting_begins (doubled g.upper) (lower_chain g g.upper) e lower (record { held = h.two.held; head_is = h.two.lower_is });
  left_is = refl;
  parts = refl;
  upper_is = h.two.upper_is;
  below = tt;
  upper_ordered = h.upper_ordered;
  lower_ordered = h.lower_ordered;
  doubles = λ q. refl;
  later = refl;
}

pub uniting_ends : (g : Chains) (e : List ℕ) (m : Progress) → m.cursor.at ≡ 0 → Uniting g e m → United g e m.cursor
uniting_ends g e m z u =
    let lower = lower_chain g u.upper in
    let sifted : Sifted (doubled g.upper) lower e m.cursor = sifting_ends (doubled g.upper) lower e m.cursor u.sifting z in
    let upper≡ : u.upper ≡ map (later_cell g.lower) g.upper =
    sym (later_end u.upper) ∙ ap (λ (qs : List Cell). map (later_cell qs) u.upper) (sym (lower_none g e m u z)) ∙ u.later in
    record {
      held = rw (← upper≡) sifted.held;
      head_is = sifted.head_is;
      prior_is = sifted.prior_is;
      at_is = z;
      counts = sifted.counts;
    }
