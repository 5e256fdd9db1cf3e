use Rattle.mc_grammar.proofs.Excludes.{reading_or_none, reading_or_deep, none_or_deep, one_none}
use Rattle.mc_grammar.proofs.Excludes.{one_deep}
use Rattle.mc_grammar.proofs.exclusive.answers_exclude_each_other.Goals as goal

pub returns-clause-reading_or_none : goal.returns-clause-reading_or_none
returns-clause-reading_or_none g c = λ grammar deeper limit r tokens front rest p q.
    reading_or_none grammar deeper limit r tokens front rest p q

pub returns-clause-reading_or_deep : goal.returns-clause-reading_or_deep
returns-clause-reading_or_deep g c = λ grammar deeper limit r tokens front rest p q.
    reading_or_deep grammar deeper limit r tokens front rest p q

pub returns-clause-none_or_deep : goal.returns-clause-none_or_deep
returns-clause-none_or_deep g c = λ grammar deeper limit r tokens f v h w p q.
    none_or_deep grammar deeper limit r tokens f v h w p q

pub returns-clause-one_none : goal.returns-clause-one_none
returns-clause-one_none g c = λ grammar deeper limit r tokens f v h w p q.
    one_none grammar deeper limit r tokens f v h w p q

pub returns-clause-one_deep : goal.returns-clause-one_deep
returns-clause-one_deep g c = λ grammar deeper limit r tokens f v h w p q.
    one_deep grammar deeper limit r tokens f v h w p q
