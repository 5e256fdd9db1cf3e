-- A statement has at most one answer, so a script has at most one list of them.
use Rattle.mc_token.specs.Statements.{statements}
use Rattle.mycoll.proofs.CostSteps.{cost_of_all, costs_once}
use Rattle.mycoll.proofs.OneAnswer.{all_once, first_of_all, one_answer}
use Rattle.mycoll.proofs.laws.answers_law.Goals as goal

pub returns-clause-once : goal.returns-clause-once
returns-clause-once c = one_answer c.outcomes_are_unique.ensures

pub returns-clause-all : goal.returns-clause-all
returns-clause-all c = all_once c.outcomes_are_unique.ensures

pub returns-clause-first : goal.returns-clause-first
returns-clause-first c = first_of_all c.outcomes_are_unique.ensures

pub returns-clause-cost : goal.returns-clause-cost
returns-clause-cost c = cost_of_all

pub returns-clause-one_cost : goal.returns-clause-one_cost
returns-clause-one_cost c = λ w s script. costs_once c.outcomes_are_unique.ensures w s script (statements script 0)
