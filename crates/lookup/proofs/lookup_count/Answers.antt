-- `lookup_count`: the answer is the hall's without its price, and so what the counts of the tables answer.
use Rattle.lookup.proofs.Counts.{counted_answer, counted_refusal, counted_numbers}
use Rattle.lookup.proofs.lookup_count.Goals as goal

pub returns : goal.returns
returns c =
    let a = c.args in
    record {
      value = counted_answer a.entries.now a.levels.now a.docket _ _ c.without_price.ensures c.lookup.ensures.value;
      result_value = counted_refusal a.entries.now a.levels.now a.docket _ _ c.without_price.ensures c.lookup.ensures.result_value;
      numbers_value = counted_numbers a.entries.now a.levels.now a.docket _ _ c.without_price.ensures c.lookup.ensures.value;
    }
