use Rattle.std.proofs.Common.{sym, ◌∙◌}
use Rattle.mc_parse.proofs.Openings.{open_behind, shut_behind}
use Rattle.mc_parse.proofs.opening.begins_call.Goals as goal

pub returns-then-opens_behind : goal.returns-then-opens_behind
returns-then-opens_behind c =
    c.sees_caller.ensures
    ∙ open_behind c.args.place.tokens.now (sym c.opens_behind.ensures ∙ c.if-opens_behind.true)

pub returns-else-opens_behind : goal.returns-else-opens_behind
returns-else-opens_behind c =
    shut_behind c.args.place.tokens.now (sym c.opens_behind.ensures ∙ c.if-opens_behind.false)
