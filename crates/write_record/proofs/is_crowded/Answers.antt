-- The first free slot and the first cells that would go say whether there is room.
use mathlib.Core.Path.{sym, ◌∙◌}
use mathlib.Core.Path.{◌≡◌}
use mathlib.Core.Bool.{true, false}
use Rattle.std.specs.Prelude.{is_none}
use native.Mathlib.Omega.{arith}
use borrow.Author.Rules.{rules}
use Rattle.chain_sieve.specs.Doomed.{has_span}
use Rattle.chain_sieve.proofs.Decisions.{decides}
use Rattle.merge_levels.proofs.Store.{laid_length}
use Rattle.write_record.specs.Records.{displaces}
use Rattle.write_record.proofs.OneLevel.{points_of, ranges_of, points_asked, ranges_asked}
use Rattle.write_record.proofs.Crowds.{free_slot, point_goes_first, point_crowded, range_crowded}
use Rattle.write_record.proofs.is_crowded.Goals as goal

pub returns-then-first_free-ne0 : goal.returns-then-first_free-ne0
returns-then-first_free-ne0 c =
    λ g v laid is. free_slot laid v is (λ q. c.if-first_free-ne0.true (c.first_free.ensures ∙ q))

pub level_at-buffer-requires : goal.level_at-buffer-requires
level_at-buffer-requires c =
    omega (arith, laid_length _ _ _ c.requires.stored.has)

pub first_doomed-requires : goal.first_doomed-requires
first_doomed-requires c = record {
  held = record { value = points_of c.requires.stored.value 0; has = points_asked c.requires.stored.has 0 (omega arith) c.level_at-buffer.ensures };
  decides = record { value = displaces c.args.w; has = search (rules, decides) };
}

pub returns-then-is_some : goal.returns-then-is_some
returns-then-is_some c =
    λ g v laid is.
    let point = c.first_doomed.ensures _ (displaces c.args.w) (search (rules, decides)) (points_asked laid 0 (omega arith) c.level_at-buffer.ensures) in
    let some : is_none c.first_doomed.result ≡ false = search rules in
    point_goes_first laid v is point (sym c.first_free.ensures ∙ c.if-first_free-ne0.false) some

pub first_doomed-requires-in-Range : goal.first_doomed-requires-in-Range
first_doomed-requires-in-Range c = record {
  held = record { value = ranges_of c.requires.stored.value 0; has = ranges_asked c.requires.stored.has 0 (omega arith) c.level_at-buffer.ensures };
  decides = record { value = has_span c.args.w.lo c.args.w.hi; has = search (rules, decides) };
}

pub returns-in-Range : goal.returns-in-Range
returns-in-Range c =
    λ g v laid is.
    let w = c.args.w in
    let point = c.first_doomed.ensures _ (displaces w) (search (rules, decides)) (points_asked laid 0 (omega arith) c.level_at-buffer.ensures) in
    let range = c.first_doomed-in-Range.ensures _ (has_span w.lo w.hi) (search (rules, decides)) (ranges_asked laid 0 (omega arith) c.level_at-buffer.ensures) in
    let nothing : is_none c.first_doomed.result ≡ true = search rules in
    let said : c.is_none.result ≡ is_none c.first_doomed-in-Range.result = search rules in
    said ∙ range_crowded laid v is point (sym c.first_free.ensures ∙ c.if-first_free-ne0.false) nothing c.in-Range.is range

pub returns-in_default : goal.returns-in_default
returns-in_default c =
    λ g v laid is.
    let point = c.first_doomed.ensures _ (displaces c.args.w) (search (rules, decides)) (points_asked laid 0 (omega arith) c.level_at-buffer.ensures) in
    let nothing : is_none c.first_doomed.result ≡ true = search rules in
    point_crowded laid v is point (sym c.first_free.ensures ∙ c.if-first_free-ne0.false) nothing c.in_default.not-Range
