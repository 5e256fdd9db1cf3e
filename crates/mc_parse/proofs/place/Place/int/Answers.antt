use Rattle.std.proofs.Common.{◌≡◌, rules, arith, subst, sym, ◌∙◌, ℤ, List, Some, SFits, w64}
use Rattle.std.proofs.Common.{to_z-of_z}
use Rattle.mc_token.specs.declared.kind.TokenKind.TheVariants.{Int}
use Rattle.mc_token.specs.declared.lexeme.Lexeme.TheVariants as lexeme
use Rattle.mc_token.specs.declared.lexeme.Token.{Token}
use Rattle.mc_parse.specs.Place.{number_at, IsNext}
use Rattle.mc_parse.proofs.TokenKinds.{int_next}
use Rattle.mc_parse.proofs.place.Place.int.Goals as goal

pub returns-then-eq : goal.returns-then-eq
returns-then-eq c =
    let e : c.args.self.kind ≡ Some Int = first_of (search rules, grind arith) in
    let fits : SFits w64 c.number.result = search rules in
    subst (λ (z : ℤ). IsNext (lexeme.Int z) c.args.self.tokens.now c.behind.result.tokens.now)
    (sym (to_z-of_z fits ∙ c.number.ensures))
    (subst (λ (r : List Token).
    IsNext (lexeme.Int (number_at c.args.self.tokens.now)) c.args.self.tokens.now r)
    (sym c.behind.ensures)
    (int_next c.args.self.kind c.args.self.tokens.now c.args.self.known e))
