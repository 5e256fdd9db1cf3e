use Rattle.mc_typing.proofs.Known.{Known}
use Rattle.mc_typing.proofs.SoundTyping.{typing_typed}
use Rattle.mc_typing.proofs.laws.expression_law.Goals as goal

pub returns : goal.returns
returns c =
    let known : Known = record {
      named = c.set_names_law.ensures;
      tells = c.chars_law.ensures.tells;
      by_sets = c.operands_law.ensures.by_sets;
      operand = c.result_law.ensures.operand;
      collation = c.result_law.ensures.collation;
    } in
    typing_typed known
