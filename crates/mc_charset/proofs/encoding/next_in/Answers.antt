use Rattle.mc_charset.proofs.Chars.{IsFound_next, IsFound_heads}
use Rattle.mc_charset.proofs.encoding.next_in.Goals as goal

pub returns : goal.returns
returns g c = record {
  first = IsFound_next g.E.Encoding.set c.args.text.now c.found.result c.found.ensures;
  heads = IsFound_heads g.E.Encoding.set c.args.text.now c.found.result c.found.ensures;
}
