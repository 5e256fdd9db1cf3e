-- The laws of readings and of trees say it.
use Rattle.mc_parse.proofs.OneOutcome.{one_outcome}
use Rattle.mc_parse.proofs.laws.outcomes_are_unique.Goals as goal

pub returns : goal.returns
returns c = one_outcome (record {
  one_tree = c.trees_are_unique.ensures;
  reading_or_none = c.statements_have_one_answer.ensures.reading_or_none;
  reading_or_deep = c.statements_have_one_answer.ensures.reading_or_deep;
  none_or_deep = c.statements_have_one_answer.ensures.none_or_deep;
  one_none = c.statements_have_one_answer.ensures.one_none;
  one_deep = c.statements_have_one_answer.ensures.one_deep;
})
