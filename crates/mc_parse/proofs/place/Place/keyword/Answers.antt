use Rattle.std.proofs.Common.{◌≡◌, rules, arith, subst, sym, List, Some}
use Rattle.mc_token.specs.Keywords.{keyword_text}
use Rattle.mc_token.specs.declared.kind.TokenKind.TheVariants.{Keyword}
use Rattle.mc_token.specs.declared.lexeme.Lexeme.TheVariants as lexeme
use Rattle.mc_token.specs.declared.lexeme.Token.{Token}
use Rattle.mc_parse.specs.Place.{IsNext}
use Rattle.mc_parse.proofs.TokenKinds.{keyword_next}
use Rattle.mc_parse.proofs.place.Place.keyword.Goals as goal

pub returns-then-eq : goal.returns-then-eq
returns-then-eq c =
    let e : c.args.self.kind ≡ Some (Keyword c.args.keyword) = first_of
    (search rules, grind arith) in
    rw c.behind.ensures (keyword_next c.args.self.kind c.args.keyword c.args.self.tokens.now
    c.args.self.known e)
