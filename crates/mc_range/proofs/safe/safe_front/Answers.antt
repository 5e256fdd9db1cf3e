use Rattle.mc_range.proofs.SafeChars.{kept_chars}
use Rattle.mc_range.proofs.safe.safe_front.Goals as goal

pub safe_len-len-requires : goal.safe_len-len-requires
safe_len-len-requires g c =
    let set = (g.C.Collation.meaning c.args.collation.now).charset in
    kept_chars set (c.characters_laws.ensures.cut set) c.args.prefix c.args.codes.now
    c.kept-front.result.now c.kept-front.ensures c.requires

pub returns-clause-of_set : goal.returns-clause-of_set
returns-clause-of_set g c =
    let set = (g.C.Collation.meaning c.args.collation.now).charset in
    (c.characters_laws.ensures.cut set c.safe_len-len.result c.kept-front.result.now
    (kept_chars set (c.characters_laws.ensures.cut set) c.args.prefix c.args.codes.now
    c.kept-front.result.now c.kept-front.ensures c.requires)).0
