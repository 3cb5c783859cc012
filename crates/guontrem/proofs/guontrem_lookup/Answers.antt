-- `guontrem::guontrem_lookup`: the number and the price that go out are those of the answer that the lookup gives.
use mathlib.Core.Path.{◌≡◌, ap, ◌∙◌}
use Prim.Native.Nat.{ℕ}
use Rattle.model.specs.declared.Tally.{Tally}
use Rattle.lookup.specs.Lookup.{Answer, answer_of, numbers}
use Rattle.lookup.specs.Counts.{without_price}
use Rattle.lookup.proofs.Counts.{alone_without_price}
use Rattle.c_packing.specs.Packed.{packed, PackedLookup, packed_lookup}
use Rattle.guontrem.proofs.guontrem_lookup.Goals as goal

-- Both, as the answer is packed.
goes_out : (a : Answer Tally) {n p : ℕ} → n ≡ packed (without_price a) → p ≡ (numbers a).price
    → ◌≡◌ {A = PackedLookup} (record { number = n; price = p }) (packed_lookup a)
goes_out a n p = rw (n, p)

pub returns : goal.returns
returns c =
    goes_out (answer_of c.numbered-answer.result)
    (c.pack_lookup.ensures ∙ ap (λ a. packed (answer_of a)) c.without_price.ensures ∙ ap packed (alone_without_price c.numbered-answer.result)) c.price_of.ensures
    ∙ ap (λ a. packed_lookup (answer_of a)) c.numbered-answer.ensures ∙ ap packed_lookup c.lookup.ensures.value
