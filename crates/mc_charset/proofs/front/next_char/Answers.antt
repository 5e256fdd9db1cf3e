use Rattle.mc_charset.proofs.Chars.{IsFound_next, IsFound_heads}
use Rattle.mc_charset.proofs.front.next_char.Goals as goal

pub returns : goal.returns
returns c = record {
  first = IsFound_next c.args.set c.args.text.now c.found.result c.found.ensures;
  heads = IsFound_heads c.args.set c.args.text.now c.found.result c.found.ensures;
}
