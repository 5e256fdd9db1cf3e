use Rattle.mc_parse.specs.declared.call_weight.CutUnit.TheVariants.{Chars, Bytes}
use Rattle.mc_parse.proofs.WeightWays.{cut_none, cut_word, cut_wordless}
use Rattle.mc_parse.proofs.call_weight.cut_option.Goals as goal

pub returns-in_default-clause-ok : goal.returns-in_default-clause-ok
returns-in_default-clause-ok c = cut_none c.in_default.ensures

pub sized-requires : goal.sized-requires
sized-requires c = cut_word Chars c.in-Some.ensures c.in-Some-keyword.ensures

pub sized-requires-in-Some-keyword-2 : goal.sized-requires-in-Some-keyword-2
sized-requires-in-Some-keyword-2 c = cut_word Bytes c.in-Some.ensures c.in-Some-keyword-2.ensures

pub returns-in-None-clause-err : goal.returns-in-None-clause-err
returns-in-None-clause-err c =
    cut_wordless c.in-Some.ensures c.in_default-keyword.ensures c.in-None.ensures c.left.ensures
