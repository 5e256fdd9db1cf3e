use Rattle.mc_typing.proofs.SoundStatements.{statement_sound}
use Rattle.mc_typing.proofs.laws.typing_law.Goals as goal

pub returns : goal.returns
returns c =
    statement_sound (record {
      named = c.set_names_law.ensures;
      tells = c.chars_law.ensures.tells;
      by_sets = c.operands_law.ensures.by_sets;
      operand = c.result_law.ensures.operand;
      collation = c.result_law.ensures.collation;
    })
