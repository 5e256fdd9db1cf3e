use Rattle.std.proofs.Common.{ap, sym, ◌∙◌, arith}
use Rattle.mc_token.specs.Tokens.{limited}
use Rattle.mc_token.proofs.Lexing.{limited-done}
use Rattle.mc_token.proofs.token.push_tokens.Goals as goal

-- Nothing is left, and there are not too many.
pub returns-clause-ok : goal.returns-clause-ok
returns-clause-ok c =
    let loop = c.loop-at in
    ap limited (sym loop.invariant.same)
    ∙ limited-done loop.tokens c.args.statement.end c.args.script.now loop.at (omega arith) loop.invariant.few
