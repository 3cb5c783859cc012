-- `script_fields::read_number`: a number is one to ten digits, and no larger than a u32 holds.
use Rattle.std.proofs.Common.{rules, ◌≡◌, ◌<◌, ◌≤◌, ◌+◌, ◌∙◌, sym, ap, arith, List, ℕ, length, drop, take, refl, drop_of_length-le}
use Rattle.std.proofs.lemmas.List.{take_rest}
use Rattle.std.specs.Prelude.{Some}
use Rattle.script_fields.specs.Numbers.{digits, decimal}
use Rattle.script_fields.proofs.Digits.{all_digits, digits_first, digits_near, digits_within}
use Rattle.script_fields.proofs.Numbers.{no_digits, too_many, too_large, number}
use Rattle.script_fields.proofs.read_number.Goals as goal
use Rattle.script_fields.proofs.read_number.Goals.{then-count-eq0-via-then-count-eq0, then-count-eq0-via-else-count-eq0+then-count-gt-MOST_DIGITS}

pub returns-in_err-rest : goal.returns-in_err-rest
unfolding digits
returns-in_err-rest c =
    let past : length c.args.text.now ≤ c.args.start = search rules in
    c.from_residual.ensures ∙ rw (drop_of_length-le c.args.text.now past) refl

pub slice_bounds-value_of-end : goal.slice_bounds-value_of-end
slice_bounds-value_of-end c = rw c.count_digits-count.ensures (sym (ap (λ ds. length ds) (digits_first c.nearest-near.result.now)))

pub value_of-value-requires-clause-all : goal.value_of-value-requires-clause-all
value_of-value-requires-clause-all c = rw (c.count_digits-count.ensures, digits_first c.nearest-near.result.now) (all_digits c.nearest-near.result.now)

pub returns-then-count-eq0 : goal.returns-then-count-eq0
returns-then-count-eq0 c =
    let from : c.in_ok-rest.rest.now ≡ drop c.args.start c.args.text.now = c.in_ok-rest.ensures.lookup.0.2 ∙ take_rest c.args.text.now c.args.start in
    let near : c.nearest-near.result.now ≡ take 11 (drop c.args.start c.args.text.now) = c.nearest-near.ensures ∙ ap (λ l. take 11 l) from in
    let told = rw near at c.count_digits-count.ensures in
    sym
    (elim c.then-count-eq0.branch [
      | then-count-eq0-via-then-count-eq0 w ↦
          no_digits c.args.start (digits (drop c.args.start c.args.text.now))
          (rw (← (digits_near 11 (drop c.args.start c.args.text.now) (omega (arith, told, w.if-count-eq0.true)))) (omega (arith, told, w.if-count-eq0.true)))
      | then-count-eq0-via-else-count-eq0+then-count-gt-MOST_DIGITS w ↦
          too_many c.args.start (digits (drop c.args.start c.args.text.now))
          (omega (arith, told, w.if-count-gt-MOST_DIGITS.true, digits_within 11 (drop c.args.start c.args.text.now)))
    ])

pub returns-in_err-number : goal.returns-in_err-number
returns-in_err-number c =
    let from : c.in_ok-rest.rest.now ≡ drop c.args.start c.args.text.now = c.in_ok-rest.ensures.lookup.0.2 ∙ take_rest c.args.text.now c.args.start in
    let near : c.nearest-near.result.now ≡ take 11 (drop c.args.start c.args.text.now) = c.nearest-near.ensures ∙ ap (λ l. take 11 l) from in
    let told = rw near at c.count_digits-count.ensures in
    let few : length (digits (take 11 (drop c.args.start c.args.text.now))) < 11 = omega (arith, told) in
    let all : digits c.nearest-near.result.now ≡ digits (drop c.args.start c.args.text.now) =
    rw near (digits_near 11 (drop c.args.start c.args.text.now) few) in
    let small : c.value_of-value.result ≡ decimal 0 (digits (drop c.args.start c.args.text.now)) =
    c.value_of-value.ensures ∙ rw (c.count_digits-count.ensures, digits_first c.nearest-near.result.now, all) refl in
    let ds = digits (drop c.args.start c.args.text.now) in
    let large : 4294967296 ≤ c.value_of-value.result = search rules in
    c.from_residual-in_err-number.ensures ∙ sym (too_large c.args.start ds (omega (arith, small, large)))

pub returns : goal.returns
returns c =
    let from : c.in_ok-rest.rest.now ≡ drop c.args.start c.args.text.now = c.in_ok-rest.ensures.lookup.0.2 ∙ take_rest c.args.text.now c.args.start in
    let near : c.nearest-near.result.now ≡ take 11 (drop c.args.start c.args.text.now) = c.nearest-near.ensures ∙ ap (λ l. take 11 l) from in
    let told = rw near at c.count_digits-count.ensures in
    let few : length (digits (take 11 (drop c.args.start c.args.text.now))) < 11 = omega (arith, told) in
    let all : digits c.nearest-near.result.now ≡ digits (drop c.args.start c.args.text.now) =
    rw near (digits_near 11 (drop c.args.start c.args.text.now) few) in
    let ds = digits (drop c.args.start c.args.text.now) in
    let same : c.value_of-value.result ≡ decimal 0 ds =
    c.value_of-value.ensures ∙ rw (c.count_digits-count.ensures, digits_first c.nearest-near.result.now, all) refl in
    let count : c.count_digits-count.result ≡ length ds = c.count_digits-count.ensures ∙ ap (λ (l : List ℕ). length l) all in
    let fits : c.value_of-value.result < 4294967296 = search rules in
    let is : c.in_ok-number.number ≡ c.value_of-value.result = search rules in
    (λ j. Some (record { number = (is ∙ same) j; end = c.args.start + count j }))
    ∙ sym (number c.args.start ds (omega (arith, count)) (omega (arith, count)) (omega (arith, same, fits)))
